-- The deliveries and messages of a step that touches some slots, slot by slot.
use Rattle.std.proofs.Common.{◌≡◌, ◌⊎◌, ◌≤◌, ◌∷◌, ◌++◌, ◌∙◌, ℕ, suc, cond, List, [], Option, Some, None, refl, sym, ap, subst, inl, inr, arith}
use Rattle.std.specs.Prelude.{is_some}
use Rattle.iss_base.specs.Lists.{In, first_of}
use Rattle.iss_base.proofs.Lists.{in_append, in_left, in_right, none-some, some-injective}
use Rattle.iss_request.specs.Slots.{AreAscending}
use Rattle.iss_request.specs.declared.ids.Slot.{Slot}
use Rattle.iss_request.specs.declared.requests.Value.{Value}
use Rattle.iss_sb.specs.Calls.{Delivers, slots_of}
use Rattle.iss_sb.specs.Evidence.{Item, delivered}
use Rattle.iss_sb.specs.declared.effects.Params.{Params}
use Rattle.pbft_wire.specs.Statements.{digest_of}
use Rattle.pbft_wire.specs.declared.messages.Message.{Message}
use Rattle.sb_pbft.specs.Makes.{inputs, or_empty, proposal_sig}
use Rattle.sb_pbft.specs.Pbft.{pbft}
use Rattle.sb_pbft.specs.Rules.{committed}
use Rattle.sb_pbft.specs.Internal.Turns.{Held, deliveries, delivery, model, newly_at, placed, settled_all}
use Rattle.sb_pbft.specs.declared.proposals.Proposal.{Proposal}
use Rattle.sb_pbft.proofs.Model.DeliveredInOneView.{newly-delivered, nothing-delivered}
use Rattle.sb_pbft.proofs.Model.SlotsAreIndependent.{deliveries-each, deliveries_each}
use Rattle.sb_pbft.proofs.Model.SettledAgrees.{Touches, committed-mid, held-is, mid, where-is}
use Rattle.sb_pbft.proofs.ViewChange.HighestCertificates.{NotAt}

abbrev Delivery : Type 0
Delivery = Slot × Value

-- ---- members of the deliveries

pub record IsNew (p : Params) (h : Held) (v : ℕ) (s : Slot) (y : Value) : Type 0 where
  pub proposal : Proposal
  pub is : newly_at p h v s.0 ≡ Some proposal
  pub value : proposal.value ≡ y

module _ (p : Params) (h : Held) (v : ℕ) where
  here : (t s : Slot) (y : Value) (o : Option Proposal) → newly_at p h v t.0 ≡ o →
      In {A = Delivery} (s, y) (delivery t o) → (s ≡ t) × IsNew p h v t y
  here t s y None e i = absurd i
  here t s y (Some q) e (inl k) = (ap (λ (z : Delivery). z.0) k, record { proposal = q; is = e; value = sym (ap (λ (z : Delivery). z.1) k) })
  here t s y (Some q) e (inr k) = absurd k

  pub each-in : (ss : List Slot) (s : Slot) (y : Value) → In {A = Delivery} (s, y) (deliveries_each p h v ss) →
      In s ss × IsNew p h v s y
  each-in [] s y i = absurd i
  each-in (t ∷ ts) s y i = elim (in_append {A = Delivery} (s, y) (delivery t (newly_at p h v t.0)) (deliveries_each p h v ts) i) [
    | inl k ↦ let r = here t s y (newly_at p h v t.0) refl k in (inl r.0, subst (λ (z : Slot). IsNew p h v z y) (sym r.0) r.1)
    | inr k ↦ let r = each-in ts s y k in (inr r.0, r.1)
  ]

  there : (t : Slot) (y : Value) (o : Option Proposal) (q : Proposal) → o ≡ Some q → q.value ≡ y →
      In {A = Delivery} (t, y) (delivery t o)
  there t y None q e k = absurd (cc)
  there t y (Some r) q e k = let same : r ≡ q = some-injective r q e in inl (ap (λ (z : Value). (t, z)) (sym (ap (λ (z : Proposal). z.value) same ∙ k)))

  pub each-has : (ss : List Slot) (s : Slot) (y : Value) → In s ss → IsNew p h v s y →
      In {A = Delivery} (s, y) (deliveries_each p h v ss)
  each-has [] s y i n = absurd i
  each-has (t ∷ ts) s y (inl e) n =
      in_left {A = Delivery} (s, y) (delivery t (newly_at p h v t.0)) (deliveries_each p h v ts)
      (subst (λ (z : Slot). In {A = Delivery} (s, y) (delivery z (newly_at p h v z.0))) e (there s y (newly_at p h v s.0) n.proposal n.is n.value))
  each-has (t ∷ ts) s y (inr i) n = in_right {A = Delivery} (s, y) (delivery t (newly_at p h v t.0)) (deliveries_each p h v ts) (each-has ts s y i n)

  lower : (low from : ℕ) (ss : List Slot) → low ≤ from → AreAscending from ss → AreAscending low ss
  lower low from [] l a = a
  lower low from (s ∷ ss) l a = let b = a.0 in (omega (arith, l, b), a.1)

  pub each-ascends : (from : ℕ) (ss : List Slot) → AreAscending from ss →
      AreAscending from (slots_of (deliveries_each p h v ss))
  each-ascends from [] a = a
  each-ascends from (s ∷ ss) a = go (newly_at p h v s.0) (each-ascends (suc s.0) ss a.1)
    where
      go : (o : Option Proposal) → AreAscending (suc s.0) (slots_of (deliveries_each p h v ss)) →
          AreAscending from (slots_of (delivery s o ++ deliveries_each p h v ss))
      go None b = let l = a.0 in lower from (suc s.0) (slots_of (deliveries_each p h v ss)) (omega (arith, l)) b
      go (Some q) b = (a.0, b)

-- ---- of a step

module _ (p : Params) (me : ℕ) (x : Item Message) (xs : List (Item Message)) where
  newly-mid : (v s : ℕ) → newly_at p (mid p me x xs) v s ≡ cond (is_some (delivered pbft p me xs s)) None (placed p (committed p me (inputs (x ∷ xs)) v s) (proposal_sig p me (x ∷ xs) v s))
  newly-mid v s = ap (λ (o : Option Proposal). cond (is_some (delivered pbft p me xs s)) None o) (committed-mid p me x xs v s)

  -- what is to be delivered: not delivered before, and committed now
  pub record Comes (v s : ℕ) (y : Value) : Type 0 where
    pub before : delivered pbft p me xs s ≡ None
    pub now : committed p me (inputs (x ∷ xs)) v s ≡ Some y

  comes : (v s : ℕ) (d c : Option Value) (sig : Option (List ℕ)) (q : Proposal) →
      cond (is_some d) None (placed p c sig) ≡ Some q → (d ≡ None) × (c ≡ Some q.value)
  comes v s (Some z) c sig q e = absurd (cc)
  comes v s None None sig q e = absurd (cc)
  comes v s None (Some z) sig q e = (refl, ap (λ (r : Proposal). Some r.value) (some-injective _ q e))

  pub delivers-is : (v : ℕ) (ss : List Slot) → Touches p me x xs v ss →
      Delivers pbft p me xs (x ∷ xs) (deliveries p (mid p me x xs) v ss)
  delivers-is v ss touches = subst (λ (z : List Delivery). Delivers pbft p me xs (x ∷ xs) z) (sym (deliveries-each p (mid p me x xs) v 0 ss touches.ascending)) (record {
    exactly = λ s y. (λ i. to s y i, λ k. back s y k.0 k.1 (where-is s.0 ss));
    ascending = each-ascends p (mid p me x xs) v 0 ss touches.ascending;
  })
    where
      to : (s : Slot) (y : Value) → In {A = Delivery} (s, y) (deliveries_each p (mid p me x xs) v ss) →
          (delivered pbft p me (x ∷ xs) s.0 ≡ Some y) × (delivered pbft p me xs s.0 ≡ None)
      to s y i =
          let r = each-in p (mid p me x xs) v ss s y i in
          let n = r.1 in
          let k = comes v s.0 (delivered pbft p me xs s.0) (committed p me (inputs (x ∷ xs)) v s.0) (proposal_sig p me (x ∷ xs) v s.0) n.proposal (sym (newly-mid v s.0) ∙ n.is) in
          (newly-delivered p me x xs v s.0 (touches.one s r.0) ∙ (ap (λ (o : Option Value). first_of o (committed p me (inputs (x ∷ xs)) v s.0)) k.0 ∙ (k.1 ∙ ap (λ (z : Value). Some z) n.value)), k.0)

      back : (s : Slot) (y : Value) → delivered pbft p me (x ∷ xs) s.0 ≡ Some y → delivered pbft p me xs s.0 ≡ None →
          ((t : Slot) × In t ss × (t.0 ≡ s.0)) ⊎ NotAt s.0 ss →
          In {A = Delivery} (s, y) (deliveries_each p (mid p me x xs) v ss)
      back s y now before (inl r) =
          let same : r.0 ≡ s = ap (λ (z : ℕ). record { 0 = z }) r.2 in
          let i : In s ss = subst (λ (z : Slot). In z ss) same r.1 in
          let c : committed p me (inputs (x ∷ xs)) v s.0 ≡ Some y = sym (newly-delivered p me x xs v s.0 (touches.one s i) ∙ ap (λ (o : Option Value). first_of o (committed p me (inputs (x ∷ xs)) v s.0)) before) ∙ now in
          each-has p (mid p me x xs) v ss s y i (record {
            proposal = record { value = y; digest = digest_of p y; sig = or_empty (proposal_sig p me (x ∷ xs) v s.0) };
            is = newly-mid v s.0 ∙ (ap (λ (d : Option Value). cond (is_some d) None (placed p (committed p me (inputs (x ∷ xs)) v s.0) (proposal_sig p me (x ∷ xs) v s.0))) before ∙
                ap (λ (o : Option Value). placed p o (proposal_sig p me (x ∷ xs) v s.0)) c);
            value = refl;
          })
      back s y now before (inr off) = absurd (none-some y (sym before ∙ (sym (nothing-delivered p me x xs s.0 (touches.still s.0 off)) ∙ now)))

  -- the settled state, from the state with the input
  pub settles : (v : ℕ) (ss : List Slot) (h : Held) → AreAscending 0 p.slots → Touches p me x xs v ss →
      h ≡ mid p me x xs →
      (settled_all p h v ss ≡ model p me (x ∷ xs)) × Delivers pbft p me xs (x ∷ xs) (deliveries p h v ss)
  settles v ss h ascending t e = (
    ap (λ (z : Held). settled_all p z v ss) e ∙ held-is p me x xs v ss ascending t,
    subst (λ (z : Held). Delivers pbft p me xs (x ∷ xs) (deliveries p z v ss)) (sym e) (delivers-is v ss t),
  )
