-- Each own claim of a step names the node itself.
use Rattle.std.proofs.Common.{◌≡◌, inl, inr, ℕ, suc, ◌++◌, ◌∷◌, [], List, ap}
use Rattle.iss_base.specs.Lists.{In}
use Rattle.iss_base.proofs.Lists.{in_append}
use Rattle.iss_sb.specs.declared.effects.Claim.{Claim}
use Rattle.iss_sb.specs.declared.effects.Input.{Input}
use Rattle.iss_sb.specs.declared.effects.Input.TheVariants.{Cast, Receive, Timeout}
use Rattle.iss_sb.specs.Evidence.{Module}
use Rattle.iss_rules.specs.declared.events.NodeEvent.{NodeEvent}
use Rattle.iss_rules.specs.Parcels.{Formats}
use Rattle.iss_rules.specs.Past.{made_in, params_of}
use Rattle.iss_rules.specs.Rules.{Rules}
use Rattle.iss_rules.specs.Votes.{claim_of_vote, claims_of_cert}
use Rattle.iss_model.specs.Node.{Core, Early, Taken, Turn, adopts_piece, advance_epochs, own_claims, step, step_unjudged, takes_each, then_turn, vote_on}
use Rattle.iss_model.proofs.Rows.{each-holds, settles-holds}
use Rattle.iss_model.proofs.Steps.{Took, adopted, asked, cast, casting, fired, handed, kept, next_batch, received, sought, took, voted}
use Rattle.iss_theorems.proofs.Refinement.DeliveryChecks.{only-by, own-claim}

module _ {Msg : Type 0} (F : Formats Msg) (R : Rules) (M : Module Msg) (me : ℕ) where
  abbrev AreOwn : Turn Msg → Type 0
  AreOwn t = (y : Claim) → In y t.own → y.by.0 ≡ me

  -- the claims in what a module sends
  made-own : (t : Turn Msg) (l : ℕ) (input : Input Msg) → AreOwn t → AreOwn (then_turn t (λ c. step_unjudged F R M me c l input))
  made-own t l input h y i =
      let sends = (made_in R M me t.core.past l input t.core.leaf).sends in
      elim (in_append y t.own (own_claims M (params_of R M me t.core.past l) me sends) i) [
        | inl a ↦ h y a
        | inr b ↦ (own-claim M (params_of R M me t.core.past l) me sends y b).by
      ]

  first-own : (c : Core Msg) (l : ℕ) (input : Input Msg) → AreOwn (step_unjudged F R M me c l input)
  first-own c l input y i = (own-claim M (params_of R M me c.past l) me (made_in R M me c.past l input c.leaf).sends y i).by

  -- and the node's vote
  ends-own : (t : Turn Msg) → AreOwn t → (y : Claim) → In y (t.own ++ (claim_of_vote R (vote_on R M me t.core) ∷ [])) → y.by.0 ≡ me
  ends-own t h y i = elim (in_append y t.own (claim_of_vote R (vote_on R M me t.core) ∷ []) i) [
    | inl a ↦ h y a
    | inr b ↦ elim b [ inl e ↦ ap (λ (z : Claim). z.by.0) e | inr none ↦ absurd none ]
  ]

  settles-own : (t : Turn Msg) → AreOwn t → AreOwn (advance_epochs F R M me t)
  settles-own t h = settles-holds F R M me AreOwn (λ t l input. Unit {0}) (λ t l input k fit come. made-own t l input k)
      (λ t k complete. ends-own t k) (λ t claims k. k) t h (λ done u x m z q r. tt)

  each-own : (e : ℕ) (xs : List (Early Msg)) (t : Turn Msg) → AreOwn t → AreOwn (then_turn t (takes_each F R M me e xs))
  each-own e xs t h = each-holds F R M me AreOwn (λ t l input. Unit {0}) (λ t l input k fit come. made-own t l input k)
      (λ t k complete. ends-own t k) (λ t claims k. k) e xs t h (λ u x m z q r. tt)

  took-own : (c : Core Msg) (event : NodeEvent) (t : Turn Msg) → Took F R M me c event t → AreOwn t
  took-own c event t (received k l msg u un y e inp q) = rw q (settles-own u (rw inp.is (first-own c l (Receive (record { 0 = k.from }) msg))))
  took-own c event t (kept k l msg un y e r) = rw r.is (λ y i. absurd i)
  took-own c event t (asked k q un y r) = rw r.is (λ y i. absurd i)
  took-own c event t (cast n u r q) = rw q (settles-own u (rw r.is (first-own (casting F R M me c n) me (Cast n (next_batch F R M me c)))))
  took-own c event t (fired l u inp q) = rw q (settles-own u (rw inp.is (first-own c l.0 Timeout)))
  took-own c event t (voted k v un y r) = rw r.is (λ y i. absurd i)
  took-own c event t (handed k cert un y r) = rw r.is (λ y i. (only-by me (claims_of_cert R cert) y i).1)
  took-own c event t (adopted k p un y r) =
      rw r.is (each-own (suc c.past.epoch) c.early (adopts_piece R M me c p) (λ y i. absurd i))
  took-own c event t (sought peer q) = rw q (λ y i. absurd i)

  pub step-own : (c : Core Msg) (event : NodeEvent) (t : Turn Msg) → step F R M me c event ≡ Taken t → AreOwn t
  step-own c event t q = took-own c event t (took F R M me c event t q)
