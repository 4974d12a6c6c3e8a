-- The value at a slot stands at the slot's place on the branch.
use Rattle.std.proofs.Common.{◌≡◌, ◌+◌, ℕ, suc, ◌==◌, Bool, true, false, if◌then◌else◌, List, [], ◌∷◌, Some, refl, sym, subst, arith}
use Rattle.iss_base.specs.Lists.{nth}
use Rattle.iss_request.specs.declared.ids.Slot.{Slot}
use Rattle.iss_request.specs.declared.requests.Value.{Value}
use Rattle.iss_sb.specs.declared.content.Content.{Content}
use Rattle.hs_tree.specs.Tree.{value_at, value_at_slot}
use Rattle.hs_views.proofs.Tests.{is-same}

pub slot-agree : (cs es : List Content) (slots : List Slot) (k s : ℕ) (x y : Value) → ((n : ℕ) → value_at cs n ≡ Some x → value_at es n ≡ Some y → x ≡ y) → value_at_slot cs k slots s ≡ Some x → value_at_slot es k slots s ≡ Some y → x ≡ y
slot-agree cs es [] k s x y h a b = absurd cc
slot-agree cs es (t ∷ slots) k s x y h a b = go (t.0 == s) a b (slot-agree cs es slots (suc k) s x y h)
  where
    go : (c : Bool) → (if c then value_at cs k else value_at_slot cs (suc k) slots s) ≡ Some x → (if c then value_at es k else value_at_slot es (suc k) slots s) ≡ Some y →
        (value_at_slot cs (suc k) slots s ≡ Some x → value_at_slot es (suc k) slots s ≡ Some y → x ≡ y) → x ≡ y
    go true a b more = h k a b
    go false a b more = more a b

pub record Place (cs : List Content) (slots : List Slot) (k s : ℕ) (x : Value) : Type 0 where
  pub at : ℕ
  pub slot : Slot
  pub there : nth slots at ≡ Some slot
  pub is : slot.0 ≡ s
  pub value : value_at cs (k + at) ≡ Some x

pub place : (cs : List Content) (slots : List Slot) (k s : ℕ) (x : Value) → value_at_slot cs k slots s ≡ Some x → Place cs slots k s x
place cs [] k s x h = absurd cc
place cs (t ∷ slots) k s x h = go (t.0 == s) refl h (place cs slots (suc k) s x)
  where
    plus : (k : ℕ) → k + 0 ≡ k
    plus k = omega arith

    more-plus : (k n : ℕ) → k + suc n ≡ suc k + n
    more-plus k n = omega arith

    go : (c : Bool) → (t.0 == s) ≡ c → (if c then value_at cs k else value_at_slot cs (suc k) slots s) ≡ Some x → (value_at_slot cs (suc k) slots s ≡ Some x → Place cs slots (suc k) s x) → Place cs (t ∷ slots) k s x
    go true q a more = record { at = 0; slot = t; there = refl; is = is-same t.0 s q; value = subst (λ (n : ℕ). value_at cs n ≡ Some x) (sym (plus k)) a }
    go false q a more =
        let r = more a in
        record { at = suc r.at; slot = r.slot; there = r.there; is = r.is; value = subst (λ (n : ℕ). value_at cs n ≡ Some x) (sym (more-plus k r.at)) r.value }

pub from-zero : (n : ℕ) → 0 + n ≡ n
from-zero n = omega arith
