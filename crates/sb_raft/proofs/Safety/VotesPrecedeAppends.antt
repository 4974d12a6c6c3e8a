-- An invariant of reachable worlds besides legal histories: a counted vote was granted before its voter took an Append
-- of the term. Single histories would allow a leader that is elected by its own followers.
use Rattle.std.proofs.Common.{◌≡◌, ℕ, true, List, [], ◌∷◌}
use Rattle.iss_sb.specs.declared.effects.Input.TheVariants.{Receive}
use Rattle.iss_sb.specs.declared.effects.Params.{Params}
use Rattle.iss_sb.specs.Evidence.{Item, World}
use Rattle.iss_sb.specs.Legal.{Front}
use Rattle.raft_wire.specs.declared.messages.Message.{Message}
use Rattle.raft_wire.specs.declared.messages.Message.TheVariants.{AskVote}
use Rattle.sb_raft.specs.Raft.{state}
use Rattle.sb_raft.specs.Rules.{Leader, grants, raised}

-- the log did not change in the term
abbrev pub IsStill : Params → ℕ → ℕ → List (Item Message) → Type 0
IsStill p me t [] = Unit {0}
IsStill p me t (x ∷ xs) = ((state p me (x ∷ xs)).term ≡ t → (state p me (x ∷ xs)).log ≡ (state p me xs).log) × IsStill p me t xs

-- k granted j its vote in term t, before k took an Append of that term
pub record Ballot (p : Params) (w : World Message) (j k t : ℕ) : Type 0 where
  pub item : Item Message
  pub before : List (Item Message)
  pub last : ℕ
  pub last_term : ℕ
  pub front : Front (item ∷ before) (w k)
  pub asked : item.input ≡ Receive (record { 0 = j }) (AskVote t last last_term)
  pub granted : grants (raised (state p k before) t) j t last last_term ≡ true
  pub still : IsStill p k t before

-- each other node that a leader counts granted it such a vote
abbrev pub Ballots : Params → World Message → Type 0
Ballots p w = (j : ℕ) (a : List (Item Message)) → Front a (w j) → (state p j a).role ≡ Leader → (k : ℕ) → (state p j a).granted k ≡ true → (k ≡ j → ⊥) → Ballot p w j k (state p j a).term
