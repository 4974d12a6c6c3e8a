-- A place of a branch keeps its value when the branch is extended.
use Rattle.std.proofs.Common.{◌≡◌, ◌≤◌, ◌<◌, ℕ, suc, ◌+◌, ◌==◌, ◌&&◌, Bool, true, false, if◌then◌else◌, List, [], ◌∷◌, ◌++◌, Option, Some, refl, sym, ap, inl, inr, ◌⊎◌, arith}
use Rattle.std.proofs.lemmas.Bool.Decides.{Decides-eqb}
use Rattle.iss_base.specs.Lists.{In}
use Rattle.iss_request.specs.declared.ids.Slot.{Slot}
use Rattle.iss_request.specs.declared.requests.Batch.{Batch}
use Rattle.iss_request.specs.declared.requests.Value.{Value}
use Rattle.iss_request.specs.declared.requests.Value.TheVariants.{Batch as Value_batch}
use Rattle.iss_request.proofs.Identities.{holds-injective}
use Rattle.iss_sb.proofs.Slots.{slot-is}
use Rattle.iss_sb.specs.declared.content.Content.{Content}
use Rattle.iss_sb.specs.declared.content.Content.TheVariants.{Nil, Holds, Mark}
use Rattle.hs_tree.specs.Tree.{filled, value_at, value_at_slot, value_here, value_of, weight}

-- the batch at a place is the newest one, or below it
pub here-is : (k n : ℕ) (c : Content) (o : Option Value) (b : Batch) → value_here k n c o ≡ Some (Value_batch b) → ((k ≡ n) × (c ≡ Holds b)) ⊎ (o ≡ Some (Value_batch b))
here-is k n c o b h = go (k == n) refl c h
  where
    go : (t : Bool) → (k == n) ≡ t → (c : Content) → (if t && (weight c == 1) then value_of c else o) ≡ Some (Value_batch b) → ((k ≡ n) × (c ≡ Holds b)) ⊎ (o ≡ Some (Value_batch b))
    go false q c e = inr e
    go true q Nil e = absurd cc
    go true q (Holds x) e = inl ((Decides-eqb k n).0 q, (let v : Value_batch x ≡ Value_batch b = cc in ap (λ (z : Batch). Holds z) (holds-injective x b v)))
    go true q Mark e = inr e

one-below : (k n m : ℕ) (c : Content) (o : Option Value) (x : Value) → k < n → n ≤ m → o ≡ Some x → (if (k == m) && (weight c == 1) then value_of c else o) ≡ Some x
one-below k n m c o x l r h = go (k == m) refl
  where
    go : (b : Bool) → (k == m) ≡ b → (if b && (weight c == 1) then value_of c else o) ≡ Some x
    go true q = let e = (Decides-eqb k m).0 q in absurd (omega (arith, e, l, r))
    go false q = h

value-low : (cs : List Content) (k : ℕ) (x : Value) → value_at cs k ≡ Some x → k < filled cs
value-low [] k x h = absurd cc
value-low (c ∷ cs) k x h = go (k == filled cs) (weight c == 1) refl refl h (value-low cs k x)
  where
    go : (a b : Bool) → (k == filled cs) ≡ a → (weight c == 1) ≡ b → (if a && b then value_of c else value_at cs k) ≡ Some x → (value_at cs k ≡ Some x → k < filled cs) → k < weight c + filled cs
    go true true q r e on = let a = (Decides-eqb k (filled cs)).0 q in let b = (Decides-eqb (weight c) 1).0 r in omega (arith, a, b)
    go true false q r e on = let z = on e in omega (arith, z)
    go false b q r e on = let z = on e in omega (arith, z)

filled-more : (xs ys : List Content) → filled ys ≤ filled (xs ++ ys)
filled-more [] ys = omega arith
filled-more (x ∷ xs) ys = let h = filled-more xs ys in omega (arith, h)

pub value-on : (xs ys : List Content) (k : ℕ) (x : Value) → value_at ys k ≡ Some x → value_at (xs ++ ys) k ≡ Some x
value-on [] ys k x h = h
value-on (c ∷ xs) ys k x h = one-below k (filled ys) (filled (xs ++ ys)) c (value_at (xs ++ ys) k) x (value-low ys k x h) (filled-more xs ys) (value-on xs ys k x h)

-- a branch has values only at the given slots
pub value-In : (cs : List Content) (k : ℕ) (slots : List Slot) (s : Slot) (x : Value) → value_at_slot cs k slots s.0 ≡ Some x → In s slots
value-In cs k [] s x h = absurd cc
value-In cs k (t ∷ ts) s x h = go (t.0 == s.0) refl h (value-In cs (suc k) ts s x)
  where
    go : (b : Bool) → (t.0 == s.0) ≡ b → (if b then value_at cs k else value_at_slot cs (suc k) ts s.0) ≡ Some x → (value_at_slot cs (suc k) ts s.0 ≡ Some x → In s ts) → In s (t ∷ ts)
    go true q e more = inl (slot-is s t (sym ((Decides-eqb t.0 s.0).0 q)))
    go false q e more = inr (more e)
