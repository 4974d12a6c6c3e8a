-- Two quorums share a correct node.
use Rattle.std.proofs.Common.{◌≡◌, ◌≤◌, ◌<◌, ◌+◌, ℕ, Bool, true, false, ◌&&◌, not, List, [], ◌∷◌, length, refl, arith}
use Rattle.std.proofs.lemmas.Bool.{lt-ltb}
use Rattle.iss_base.specs.Quorum.{count_below}
use Rattle.iss_base.proofs.Quorum.{count-none, count-one, counts-meet}
use Rattle.iss_request.specs.declared.ids.NodeId.{NodeId}
use Rattle.iss_request.specs.declared.setups.Kind.TheVariants.{Byzantine, Stopping}
use Rattle.iss_sb.specs.declared.effects.Params.{Params}
use Rattle.iss_sb.specs.Calls.{IsGoodParams}
use Rattle.iss_sb.specs.Evidence.{Module, has_node, is_correct}

pub count-nodes : (n : ℕ) (nodes : List NodeId) → count_below (λ k. has_node k nodes) n ≤ length nodes
count-nodes n [] = let h = count-none n in omega arith
count-nodes n (x ∷ xs) =
    let h = count-one (λ k. has_node k xs) x.0 n in
    let r = count-nodes n xs in
    omega arith

correct-is : (a b : Bool) → a ≡ true → b ≡ false → (a && not b) ≡ true
correct-is a b p q = rw (p, q) refl

module _ {M : Type 0} (m : Module M) (p : Params) (good : IsGoodParams m p) where
  pub few-faulty : m.stopping ≡ false → length p.setup.faulty ≤ p.setup.f
  few-faulty byzantine = let kind : p.setup.kind ≡ Byzantine = rw byzantine at good.kind in rw kind at good.setup.few_faulty

  pub none-faulty : m.stopping ≡ true → p.setup.faulty ≡ []
  none-faulty stops = let kind : p.setup.kind ≡ Stopping = rw stops at good.kind in rw kind at good.setup.few_faulty

-- a correct node that is in both
pub record Meets (p : Params) (t u : ℕ → Bool) : Type 0 where
  pub node : ℕ
  pub below : node < p.setup.n
  pub correct : is_correct p.setup node ≡ true
  pub first : t node ≡ true
  pub second : u node ≡ true

-- if at most f nodes are faulty, and two quorums together have more than n + f nodes
pub meets : (p : Params) (f : ℕ) (t u : ℕ → Bool) → length p.setup.faulty ≤ f → p.setup.n + f < p.setup.quorum + p.setup.quorum →
    p.setup.quorum ≤ count_below t p.setup.n → p.setup.quorum ≤ count_below u p.setup.n → Meets p t u
meets p f t u few wide tq uq =
    let bad = count-nodes p.setup.n p.setup.faulty in
    let r = counts-meet p.setup.n f p.setup.quorum t u (λ k. has_node k p.setup.faulty) wide (omega arith) tq uq in
    record { node = r.0; below = r.1; correct = correct-is _ _ (lt-ltb r.0 p.setup.n r.1) r.4; first = r.2; second = r.3 }
