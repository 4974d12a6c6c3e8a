-- A step delivers exactly what is decided first by its input: nothing, or what is new of a branch.
use Rattle.std.proofs.Common.{◌≡◌, ℕ, ◌≤◌, ◌||◌, false, List, [], take, drop, Option, Some, None, is_some, refl, sym, ap, ◌∙◌, subst, inl, inr, true≢false}
use Rattle.std.specs.Prelude.{IfSome}
use Rattle.iss_base.specs.Lists.{In, first_of}
use Rattle.iss_base.proofs.Lists.{first_of-none, none-some, or-flip}
use Rattle.iss_request.specs.Slots.{AreAscending}
use Rattle.iss_request.specs.declared.ids.Slot.{Slot}
use Rattle.iss_request.specs.declared.requests.Batch.{Batch}
use Rattle.iss_request.specs.declared.requests.Value.{Value}
use Rattle.iss_sb.specs.declared.effects.Input.{Input}
use Rattle.iss_sb.specs.declared.effects.Params.{Params}
use Rattle.iss_sb.specs.declared.content.Content.{Content}
use Rattle.iss_sb.specs.declared.content.Content.TheVariants.{Nil, Holds, Mark}
use Rattle.iss_sb.specs.Calls.{Delivers, has_slot}
use Rattle.iss_sb.specs.Evidence.{Item, Module, and_then, delivered}
use Rattle.iss_sb.specs.Paired.{paired, value_with}
use Rattle.iss_sb.proofs.Delivered.{Delivers-from, Delivers-nothing}
use Rattle.iss_sb.proofs.Paired.{fresh-ascending}
use Rattle.hs_tree.specs.Known.{values}
use Rattle.hs_tree.specs.Tree.{filled, value_at_slot}
use Rattle.hs_tree.proofs.Branches.{length-values}
use Rattle.hs_views.specs.Accepted.{at_slot, what_at}
use Rattle.hs_views.specs.Delivered.{IsDelivered}
use Rattle.hs_views.proofs.DeliveredSlotsAgree.{branch-value, fresh-value, or-within, slots-more, value-fresh, value-some}

-- The module decided `old` before the input, which decides `now`; `before` slots were delivered.
module _ {M : Type 0} (m : Module M) (p : Params) (ascending : AreAscending 0 p.slots) (me : ℕ) (xs : List (Item M)) (i : Input M) (old now : ℕ → Option Value) (was : (k : ℕ) → delivered m p me xs k ≡ old k)
    (becomes : (leaf k : ℕ) → m.decided p me (and_then m p me xs i leaf) k ≡ first_of (old k) (now k)) (before : ℕ) (reached : (k : ℕ) → is_some (old k) ≡ has_slot k (take before p.slots)) where
  none-of : (o : Option Value) → is_some o ≡ false → o ≡ None
  none-of None h = refl
  none-of (Some x) h = absurd (true≢false h)

  some-first : (a b : Option Value) → is_some (first_of a b) ≡ (is_some a || is_some b)
  some-first None b = refl
  some-first (Some x) b = refl

  first-new : (a b : Option Value) (x : Value) → a ≡ None → first_of a b ≡ Some x → b ≡ Some x
  first-new None b x e h = h
  first-new (Some y) b x e h = absurd cc

  first-none : (a b : Option Value) (x : Value) → a ≡ None → b ≡ Some x → first_of a b ≡ Some x
  first-none None b x e h = h
  first-none (Some y) b x e h = absurd cc

  -- nothing is decided anew
  module _ (quiet : (k : ℕ) → now k ≡ None) where
    still : (k : ℕ) → first_of (old k) (now k) ≡ old k
    still k = ap (λ (r : Option Value). first_of (old k) r) (quiet k) ∙ first_of-none (old k)

    none-delivered : (leaf : ℕ) → Delivers m p me xs (and_then m p me xs i leaf) []
    none-delivered leaf = Delivers-nothing m p me xs i leaf (λ t x h none. none-some x (sym none ∙ was t.0 ∙ sym (still t.0) ∙ sym (becomes leaf t.0) ∙ h))

  -- the branch of a node is decided
  module _ (cs : List Content) (decides : (k : ℕ) → now k ≡ value_at_slot cs 0 p.slots k) where
    now-is : (k : ℕ) → first_of (old k) (now k) ≡ first_of (old k) (value_with k p.slots (values cs))
    now-is k = ap (λ (r : Option Value). first_of (old k) r) (decides k ∙ branch-value k cs p.slots)

    now-some : (k : ℕ) → is_some (first_of (old k) (now k)) ≡ (has_slot k (take before p.slots) || has_slot k (take (filled cs) p.slots))
    now-some k =
        ap (λ (r : Option Value). is_some r) (now-is k) ∙ some-first (old k) (value_with k p.slots (values cs))
        ∙ (λ j. reached k j || value-some k p.slots (values cs) j) ∙ ap (λ (z : ℕ). has_slot k (take before p.slots) || has_slot k (take z p.slots)) (length-values cs)

    low-reached : filled cs ≤ before → (k : ℕ) → is_some (first_of (old k) (now k)) ≡ has_slot k (take before p.slots)
    low-reached le k = now-some k ∙ or-within (has_slot k (take before p.slots)) _ (slots-more k (filled cs) before p.slots le)

    high-reached : before ≤ filled cs → (k : ℕ) → is_some (first_of (old k) (now k)) ≡ has_slot k (take (filled cs) p.slots)
    high-reached le k = now-some k ∙ or-flip _ (has_slot k (take (filled cs) p.slots)) ∙ or-within (has_slot k (take (filled cs) p.slots)) _ (slots-more k before (filled cs) p.slots le)

    branch-delivered : (leaf : ℕ) → Delivers m p me xs (and_then m p me xs i leaf) (paired (drop before p.slots) (drop before (values cs)))
    branch-delivered leaf =
        Delivers-from m p me xs i leaf (paired (drop before p.slots) (drop before (values cs))) (fresh-ascending 0 before p.slots (drop before (values cs)) ascending) (λ t x. (λ h. there t x h, λ h. fresh t x h.0 h.1))
      where
        there : (t : Slot) (x : Value) → In {A = Slot × Value} (t, x) (paired (drop before p.slots) (drop before (values cs))) →
            (m.decided p me (and_then m p me xs i leaf) t.0 ≡ Some x) × (delivered m p me xs t.0 ≡ None)
        there t x h =
            let r = fresh-value 0 before t x p.slots (values cs) ascending h in
            let none = none-of (old t.0) (reached t.0 ∙ r.1) in
            (becomes leaf t.0 ∙ now-is t.0 ∙ first-none (old t.0) _ x none r.0, was t.0 ∙ none)

        fresh : (t : Slot) (x : Value) → m.decided p me (and_then m p me xs i leaf) t.0 ≡ Some x → delivered m p me xs t.0 ≡ None → In {A = Slot × Value} (t, x) (paired (drop before p.slots) (drop before (values cs)))
        fresh t x h none =
            let gone = sym (was t.0) ∙ none in
            value-fresh before t x p.slots (values cs) (first-new (old t.0) _ x gone (sym (now-is t.0) ∙ sym (becomes leaf t.0) ∙ h)) (sym (reached t.0) ∙ ap (λ (r : Option Value). is_some r) gone)

  module _ (later : ℕ) (ds : List (Slot × Value)) where
    -- the decided slots are the first ones again
    pub reached-now : IsDelivered p before later ds now → (k : ℕ) → is_some (first_of (old k) (now k)) ≡ has_slot k (take later p.slots)
    reached-now (inl none) k = ap (λ (r : Option Value). is_some r) (still none.decides k) ∙ reached k ∙ ap (λ (z : ℕ). has_slot k (take z p.slots)) (sym none.same)
    reached-now (inr b) k = elim b.1.up_to [
      | inl low ↦ low-reached b.0 b.1.decides low.0 k ∙ ap (λ (z : ℕ). has_slot k (take z p.slots)) (sym low.1)
      | inr high ↦ high-reached b.0 b.1.decides high.0 k ∙ ap (λ (z : ℕ). has_slot k (take z p.slots)) (sym high.1)
    ]

    pub delivers-now : (leaf : ℕ) → IsDelivered p before later ds now → Delivers m p me xs (and_then m p me xs i leaf) ds
    delivers-now leaf (inl none) = subst (λ (z : List (Slot × Value)). Delivers m p me xs (and_then m p me xs i leaf) z) (sym none.delivers) (none-delivered none.decides leaf)
    delivers-now leaf (inr b) = subst (λ (z : List (Slot × Value)). Delivers m p me xs (and_then m p me xs i leaf) z) (sym b.1.delivers) (branch-delivered b.0 b.1.decides leaf)

-- ---- An accepted batch is at a slot of the segment

pub at-inside : (b : Batch) (o : Option Slot) (ss : List Slot) → IfSome o (λ s. In s ss) → IfSome (at_slot b o) (λ x. In x.0 ss)
at-inside b None ss h = tt
at-inside b (Some s) ss h = h

pub what-inside : (what : Content) (o : Option Slot) (ss : List Slot) → IfSome o (λ s. In s ss) → IfSome (what_at what o) (λ x. In x.0 ss)
what-inside Nil o ss h = tt
what-inside (Holds b) o ss h = at-inside b o ss h
what-inside Mark o ss h = tt
