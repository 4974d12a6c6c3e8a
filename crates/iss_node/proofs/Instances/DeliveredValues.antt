-- The values delivered for a slot.
use Rattle.std.proofs.Common.{inl, inr, arith, ◌≡◌, ◌≢◌, ℕ, Bool, true, false, List, [], ◌∷◌, ◌==◌, Option, Some, None, refl, sym, ap, ◌∙◌, subst, if◌then◌else◌}
use Rattle.std.proofs.lemmas.Bool.Decides.{nat_tests}
use Rattle.iss_base.specs.Lists.{In, first_of}
use Rattle.iss_node.specs.Internal.Cells.{given}
use Rattle.iss_request.specs.declared.ids.Slot.{Slot}
use Rattle.iss_request.specs.declared.requests.Value.{Value}
use Rattle.iss_sb.specs.declared.effects.Params.{Params}
use Rattle.iss_sb.specs.Calls.{AllIn, slots_of}
use Rattle.iss_sb.specs.Evidence.{Item, Module, delivered}

pub given-in : (ds : List (Slot × Value)) (k : ℕ) (x : Value) → given ds k ≡ Some x → In {A = Slot × Value} (record { 0 = k }, x) ds
given-in [] k x h = cc
given-in (d ∷ ds) k x h = go (d.0.0 == k) refl (given-in ds k x)
  where
    go : (b : Bool) → (d.0.0 == k) ≡ b → (given ds k ≡ Some x → In {A = Slot × Value} (record { 0 = k }, x) ds) → In {A = Slot × Value} (record { 0 = k }, x) (d ∷ ds)
    go true e more =
        let at : d.0.0 ≡ k = grind (arith, nat_tests) in
        let is : Some d.1 ≡ Some x = ap (λ (c : Bool). if c then Some d.1 else given ds k) (sym e) ∙ h in
        let same : d.1 ≡ x = cc in
        inl (sym (ap (λ (n : ℕ). let p : Slot × Value = (record { 0 = n }, d.1) in p) at ∙ ap (λ (y : Value). let p : Slot × Value = (record { 0 = k }, y) in p) same))
    go false e more = inr (more (ap (λ (c : Bool). if c then Some d.1 else given ds k) (sym e) ∙ h))

pub in-given : (ds : List (Slot × Value)) (k : ℕ) (x : Value) → In {A = Slot × Value} (record { 0 = k }, x) ds → given ds k ≢ None
in-given [] k x h e = absurd h
in-given (d ∷ ds) k x h none = go (d.0.0 == k) refl h (in-given ds k x)
  where
    go : (b : Bool) → (d.0.0 == k) ≡ b → In {A = Slot × Value} (record { 0 = k }, x) (d ∷ ds) → (In {A = Slot × Value} (record { 0 = k }, x) ds → given ds k ≢ None) → ⊥
    go true e j more = let n : Some d.1 ≡ None = ap (λ (c : Bool). if c then Some d.1 else given ds k) (sym e) ∙ none in cc
    go false e (inl p) more =
        let at : k ≡ d.0.0 = ap (λ (z : Slot × Value). z.0.0) p in
        let yes : (d.0.0 == k) ≡ true = grind (arith, nat_tests) in
        let no : true ≡ false = sym yes ∙ e in
        cc
    go false e (inr j) more = more j (ap (λ (c : Bool). if c then Some d.1 else given ds k) (sym e) ∙ none)

pub slot-in : (ds : List (Slot × Value)) (slots : List Slot) (k : ℕ) (x : Value) → AllIn (slots_of ds) slots → given ds k ≡ Some x → In {A = Slot} (record { 0 = k }) slots
slot-in [] slots k x all h = cc
slot-in (d ∷ ds) slots k x all h = go (d.0.0 == k) refl (slot-in ds slots k x all.1)
  where
    go : (b : Bool) → (d.0.0 == k) ≡ b → (given ds k ≡ Some x → In {A = Slot} (record { 0 = k }) slots) → In {A = Slot} (record { 0 = k }) slots
    go true e more = let at : d.0.0 ≡ k = grind (arith, nat_tests) in subst (λ (n : ℕ). In {A = Slot} (record { 0 = n }) slots) at all.0
    go false e more = more (ap (λ (c : Bool). if c then Some d.1 else given ds k) (sym e) ∙ h)

first-same : (o a b : Option Value) (y : Value) → o ≡ Some y → first_of o a ≡ first_of o b
first-same o a b y e = ap (λ (p : Option Value). first_of p a) e ∙ sym (ap (λ (p : Option Value). first_of p b) e)

-- The effect of an input on the delivered value of each slot.
pub slot-next : {Msg : Type 0} (m : Module Msg) (p : Params) (me : ℕ) (xs : List (Item Msg)) (item : Item Msg) (ds : List (Slot × Value)) (k : ℕ) →
    (In-later : (x : Value) → In {A = Slot × Value} (record { 0 = k }, x) ds → (delivered m p me (item ∷ xs) k ≡ Some x) × (delivered m p me xs k ≡ None)) →
    (later-In : (x : Value) → delivered m p me (item ∷ xs) k ≡ Some x → delivered m p me xs k ≡ None → In {A = Slot × Value} (record { 0 = k }, x) ds) →
    first_of (delivered m p me xs k) (given ds k) ≡ delivered m p me (item ∷ xs) k
slot-next m p me xs item ds k to from = go (delivered m p me xs k) refl (given ds k) refl (delivered m p me (item ∷ xs) k) refl
  where
    go : (b : Option Value) → delivered m p me xs k ≡ b → (g : Option Value) → given ds k ≡ g → (d : Option Value) → delivered m p me (item ∷ xs) k ≡ d → first_of (delivered m p me xs k) (given ds k) ≡ delivered m p me (item ∷ xs) k
    go (Some y) hb g hg d hd = first-same (delivered m p me xs k) (given ds k) (m.decided p me (item ∷ xs) k) y hb
    go None hb (Some x) hg d hd = ap (λ (o : Option Value). first_of o (given ds k)) hb ∙ hg ∙ sym (to x (given-in ds k x hg)).0
    go None hb None hg None hd = ap (λ (o : Option Value). first_of o (given ds k)) hb ∙ hg ∙ sym hd
    go None hb None hg (Some x) hd = absurd (in-given ds k x (from x hd hb) hg)
