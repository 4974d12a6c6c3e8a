-- Which instance a statement names: cluster, epoch, leader and the module's tag. Claims of different instances are
-- never the same statement, and a vote is no instance's claim.
use Rattle.std.specs.Prelude.{◌≡◌, ℕ, List}
use Rattle.iss_sb.specs.declared.effects.Params.{Params}

-- the parameters are of this cluster (by its digest), epoch, leader and module tag
-- rule: Signatures: A statement belongs to one instance: one cluster, epoch, leader and module
pub record IsInstance (p : Params) (mark : ℕ) (domain : List ℕ) (e l tag : ℕ) : Type 0 where
  pub cluster : domain ≡ p.setup.tag
  pub epoch : e ≡ p.epoch.0
  pub leader : l ≡ p.leader.0
  pub module_tag : tag ≡ mark

-- two votes are of one cluster and epoch, and certify the same log
pub record IsSameVote (one other : List ℕ) (e d : ℕ) (a b : List ℕ) (q r : ℕ) : Type 0 where
  pub cluster : one ≡ other
  pub epoch : e ≡ d
  pub chain : a ≡ b
  pub number : q ≡ r
