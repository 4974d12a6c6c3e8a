-- The book holds each claim that a node signed and sent: a step that adds an input to the node's history adds its
-- claims to the book.
use Rattle.std.proofs.Common.{◌≡◌, inl, inr, ℕ, ◌≤◌, List, ◌∷◌, subst, arith, le_trans}
use Rattle.std.proofs.lemmas.Bool.Decides.{leb_tells}
use Rattle.iss_base.specs.Lists.{In}
use Rattle.iss_base.proofs.Lists.{same_or_not, set_at2-at, set_at2-other}
use Rattle.iss_request.specs.declared.requests.Value.{Value}
use Rattle.iss_sb.specs.declared.effects.Input.{Input}
use Rattle.iss_sb.specs.declared.effects.Params.{Params}
use Rattle.iss_sb.specs.Evidence.{Item, Module}
use Rattle.iss_rules.specs.Books.{Signed}
use Rattle.iss_composition.specs.Cluster.{IsOwn}
use Rattle.iss_theorems.specs.Ends.{AreBooked}
use Rattle.iss_model.specs.Node.{Core, own_claims}
use Rattle.iss_rules.specs.Past.{Past, Piece, adopts, advanced, before, log_of, made_in, params_of, takes}
use Rattle.iss_rules.specs.Rules.{Rules}
use Rattle.iss_model.specs.Run.{as_signed}
use Rattle.iss_model.specs.Sound.{IsSoundCore}
use Rattle.iss_rules.proofs.Ending.{advanced-later}
use Rattle.iss_rules.proofs.Epochs.{start-mono}
use Rattle.iss_rules.proofs.Logs.{Later, before-later, takes-later}
use Rattle.iss_rules.proofs.Pieces.{adopts-later}
use Rattle.iss_theorems.proofs.StoppedRuns.EvidenceIsValid.{own-all}

module _ {Msg : Type 0} (R : Rules) (M : Module Msg) (i : ℕ) (c : Core Msg) (sound : IsSoundCore R M i c) where
  -- the log before an epoch that has begun stays
  before-stays : (d : Past Msg) → Later R c.past d → (e : ℕ) → e ≤ c.past.epoch → before R M i d e ≡ before R M i c.past e
  before-stays d later e le =
      before-later R M i c.past d e later (le_trans (start-mono R (log_of R M i c.past) e c.past.epoch le) sound.reached)

  -- the claims of older entries are still in the book
  old-booked : (book : List Signed) → AreBooked R M i c.past book → (d : Past Msg) → Later R c.past d → (e l : ℕ) (item : Item Msg) →
      In item (c.past.evidence e l) → (x : Signed) → IsOwn M (R.params (before R M i d e) e l) i item.made.sends x → In x book
  old-booked book ok d later e l item m x own = elim (leb_tells e c.past.epoch) [
    | inl t ↦ ok e l item m x (subst (λ (bf : List Value). IsOwn M (R.params bf e l) i item.made.sends x) (before-stays d later e t.1) own)
    | inr t ↦ absurd (subst (λ (xs : List (Item Msg)). In item xs) (sound.unborn e l (omega (arith, t.1))) m)
  ]

  pub ends-booked : (book : List Signed) → AreBooked R M i c.past book → AreBooked R M i (advanced c.past) book
  ends-booked book ok e l item m = old-booked book ok (advanced c.past) (advanced-later R c.past (record { all = sound.settled })) e l item m

  pub adopts-booked : (piece : Piece) (book : List Signed) → AreBooked R M i c.past book → AreBooked R M i (adopts c.past piece) book
  adopts-booked piece book ok e l item m =
      old-booked book ok (adopts c.past piece) (adopts-later R c.past piece (record { all = sound.settled })) e l item m

  pub takes-booked : (l : ℕ) (input : Input Msg) (leaf : ℕ) (book : List Signed) → AreBooked R M i c.past book →
      ((x : Signed) → In x (as_signed (own_claims M (params_of R M i c.past l) i (made_in R M i c.past l input leaf).sends)) → In x book) →
      AreBooked R M i (takes R M i c.past l input leaf) book
  takes-booked l input leaf book ok new e k item m x own = elim (same_or_not e c.past.epoch) [
    | inl q ↦ elim (same_or_not k l) [
      | inl r ↦ elim (subst (λ (xs : List (Item Msg)). In item xs)
          (set_at2-at c.past.evidence c.past.epoch l (made ∷ c.past.evidence c.past.epoch l) e k q r) m) [
            | inl z ↦ new x (own-all M p i made.made.sends x
                (here q r (subst (λ (y : Item Msg). IsOwn M (R.params (before R M i d e) e k) i y.made.sends x) z own)))
            | inr z ↦ old-booked book ok d later e k item (rw (q, r) z) x own
          ]
      | inr ne ↦ old-booked book ok d later e k item
          (subst (λ (xs : List (Item Msg)). In item xs) (set_at2-other c.past.evidence c.past.epoch l _ e k (inr ne)) m) x own
    ]
    | inr ne ↦ old-booked book ok d later e k item
        (subst (λ (xs : List (Item Msg)). In item xs) (set_at2-other c.past.evidence c.past.epoch l _ e k (inl ne)) m) x own
  ]
    where
      d : Past Msg
      d = takes R M i c.past l input leaf

      p : Params
      p = params_of R M i c.past l

      made : Item Msg
      made = record { input = input; leaf = leaf; made = made_in R M i c.past l input leaf }

      later : Later R c.past d
      later = takes-later R M i c.past l input leaf (record { all = sound.settled })

      here : e ≡ c.past.epoch → k ≡ l → IsOwn M (R.params (before R M i d e) e k) i made.made.sends x → IsOwn M p i made.made.sends x
      here q r own =
          let a : IsOwn M (R.params (before R M i d c.past.epoch) c.past.epoch k) i made.made.sends x =
          subst (λ (n : ℕ). IsOwn M (R.params (before R M i d n) n k) i made.made.sends x) q own in
          let b : IsOwn M (R.params (before R M i c.past c.past.epoch) c.past.epoch k) i made.made.sends x =
          subst (λ (bf : List Value). IsOwn M (R.params bf c.past.epoch k) i made.made.sends x) (before-stays d later c.past.epoch (omega arith)) a in
          subst (λ (n : ℕ). IsOwn M (R.params (before R M i c.past c.past.epoch) c.past.epoch n) i made.made.sends x) r b
