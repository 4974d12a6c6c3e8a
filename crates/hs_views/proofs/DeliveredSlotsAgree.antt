-- Slots paired with values: the pairs of the code are the values of a branch at the slots.
use Rattle.std.proofs.Common.{◌≡◌, ℕ, zero, suc, ◌≤◌, ◌<◌, ◌+◌, ◌==◌, ◌&&◌, ◌||◌, Bool, true, false, if◌then◌else◌, List, [], ◌∷◌, ◌++◌, take, drop, length, get_or, Option, Some, None, is_some, refl, sym, ap, ◌∙◌, append_assoc, inl, inr, true≢false, arith}
use Rattle.std.proofs.Math.Seq.{drop-cons}
use Rattle.std.proofs.lemmas.List.{append-nil}
use Rattle.iss_base.specs.Lists.{In, nth}
use Rattle.iss_base.proofs.Lists.{eqb-other, eqb-same, is-eq, nth-beyond, same_or_not}
use Rattle.iss_request.specs.Slots.{AreAscending}
use Rattle.iss_request.specs.declared.ids.Slot.{Slot}
use Rattle.iss_request.specs.declared.requests.Value.{Value}
use Rattle.iss_request.specs.declared.requests.Value.TheVariants.{Nil as Value_nil, Batch as Value_batch}
use Rattle.iss_sb.specs.Calls.{has_slot}
use Rattle.iss_sb.specs.Evidence.{one_or_none}
use Rattle.iss_sb.proofs.Slots.{another, drop-slot}
use Rattle.iss_sb.specs.Paired.{paired, value_with}
use Rattle.iss_sb.proofs.Paired.{pair-value, paired-none, paired-slot, value-pair}
use Rattle.iss_sb.specs.declared.content.Content.{Content}
use Rattle.iss_sb.specs.declared.content.Content.TheVariants.{Nil, Holds, Mark}
use Rattle.hs_tree.specs.Known.{values}
use Rattle.hs_tree.specs.Tree.{filled, value_at, value_at_slot, value_here, value_of}
use Rattle.hs_tree.proofs.Branches.{length-values}

drop-over : (ss : List Slot) (k : ℕ) → length ss ≤ k → drop k ss ≡ []
drop-over [] zero h = refl
drop-over [] (suc k) h = refl
drop-over (s ∷ ss) zero h = absurd (omega (arith, h))
drop-over (s ∷ ss) (suc k) h = drop-over ss k (omega (arith, h))

module _ (ss : List Slot) (all fresh : List (Slot × Value)) (place : ℕ) (rest : List Value) (h : all ≡ fresh ++ paired (drop place ss) rest) where
  -- no values or no slots are left
  pub no-values : rest ≡ [] → fresh ≡ all
  no-values e = sym (h ∙ ap (λ (z : List Value). fresh ++ paired (drop place ss) z) e ∙ ap (λ (z : List (Slot × Value)). fresh ++ z) (paired-none (drop place ss)) ∙ append-nil fresh)

  pub no-slots : length ss ≤ place → fresh ≡ all
  no-slots le = sym (h ∙ ap (λ (z : List Slot). fresh ++ paired z rest) (drop-over ss place le) ∙ append-nil fresh)

  pub one-pair : (s : Slot) (v : Value) (more : List Value) (new : List (Slot × Value)) → rest ≡ v ∷ more → place < length ss → s ≡ get_or ss place s → new ≡ fresh ++ (s, v) ∷ [] →
      all ≡ new ++ paired (drop (place + 1) ss) more
  one-pair s v more new e lt is hn =
      h ∙ ap (λ (z : List Value). fresh ++ paired (drop place ss) z) e
      ∙ ap (λ (z : List Slot). fresh ++ paired z (v ∷ more)) (drop-cons ss place s lt)
      ∙ ap (λ (z : Slot). fresh ++ (z, v) ∷ paired (drop (suc place) ss) more) (sym is)
      ∙ sym (append_assoc fresh ((s, v) ∷ []) (paired (drop (suc place) ss) more))
      ∙ ap (λ (z : List (Slot × Value)). z ++ paired (drop (suc place) ss) more) (sym hn)
      ∙ ap (λ (k : ℕ). new ++ paired (drop k ss) more) (next place)
    where
      next : (k : ℕ) → suc k ≡ k + 1
      next k = omega arith

pub no-more : (xs : List Value) (n : ℕ) → n ≡ 0 → n ≡ length xs → xs ≡ []
no-more [] n e h = refl
no-more (x ∷ xs) n e h = absurd (omega (arith, e, h))

pub slot-inside : (ss : List Slot) (k : ℕ) (d : Slot) → k < length ss → In (get_or ss k d) ss
slot-inside [] k d h = absurd (omega (arith, h))
slot-inside (s ∷ ss) zero d h = inl refl
slot-inside (s ∷ ss) (suc k) d h = inr (slot-inside ss k d (omega (arith, h)))

-- ---- A pair of a slot and its value

value-none : (n : ℕ) (ss : List Slot) → value_with n ss [] ≡ None
value-none n [] = refl
value-none n (s ∷ ss) = refl

-- ---- After the first k slots

-- a pair from place k on has its value, and its slot is not one of the first k
pub fresh-value : (low : ℕ) (k : ℕ) (s : Slot) (x : Value) (ss : List Slot) (vs : List Value) → AreAscending low ss → In {A = Slot × Value} (s, x) (paired (drop k ss) (drop k vs)) →
    (value_with s.0 ss vs ≡ Some x) × (has_slot s.0 (take k ss) ≡ false)
fresh-value low zero s x ss vs a h = (pair-value low s x ss vs a h, refl)
fresh-value low (suc k) s x [] vs a h = absurd h
fresh-value low (suc k) s x (t ∷ ss) [] a h = absurd (empty (drop k ss) h)
  where
    empty : (ss : List Slot) → In {A = Slot × Value} (s, x) (paired ss []) → ⊥
    empty [] h = absurd h
    empty (t ∷ ss) h = absurd h
fresh-value low (suc k) s x (t ∷ ss) (v ∷ vs) a h =
    let other = another low t s ss a (drop-slot s k ss (paired-slot s x (drop k ss) (drop k vs) h)) in
    let r = fresh-value (suc t.0) k s x ss vs a.1 h in
    (rw other r.0, rw other r.1)

pub value-fresh : (k : ℕ) (s : Slot) (x : Value) (ss : List Slot) (vs : List Value) → value_with s.0 ss vs ≡ Some x → has_slot s.0 (take k ss) ≡ false → In {A = Slot × Value} (s, x) (paired (drop k ss) (drop k vs))
value-fresh zero s x ss vs h n = value-pair s x ss vs h
value-fresh (suc k) s x [] vs h n = absurd cc
value-fresh (suc k) s x (t ∷ ss) [] h n = absurd cc
value-fresh (suc k) s x (t ∷ ss) (v ∷ vs) h n = go (t.0 == s.0) h n (value-fresh k s x ss vs)
  where
    go : (b : Bool) → (if b then Some v else value_with s.0 ss vs) ≡ Some x → (b || has_slot s.0 (take k ss)) ≡ false →
        (value_with s.0 ss vs ≡ Some x → has_slot s.0 (take k ss) ≡ false → In {A = Slot × Value} (s, x) (paired (drop k ss) (drop k vs))) → In {A = Slot × Value} (s, x) (paired (drop k ss) (drop k vs))
    go true h n more = absurd (true≢false n)
    go false h n more = more h n

-- ---- Which slots have a value

take-none : (k : ℕ) → take {A = Slot} k [] ≡ []
take-none zero = refl
take-none (suc k) = refl

pub value-some : (n : ℕ) (ss : List Slot) (vs : List Value) → is_some (value_with n ss vs) ≡ has_slot n (take (length vs) ss)
value-some n [] vs = sym (ap (λ (z : List Slot). has_slot n z) (take-none (length vs)))
value-some n (t ∷ ss) [] = refl
value-some n (t ∷ ss) (v ∷ vs) = go (t.0 == n) (value-some n ss vs)
  where
    go : (b : Bool) → is_some (value_with n ss vs) ≡ has_slot n (take (length vs) ss) → is_some (if b then Some v else value_with n ss vs) ≡ (b || has_slot n (take (length vs) ss))
    go true h = refl
    go false h = h

pub slots-more : (n k l : ℕ) (ss : List Slot) → k ≤ l → has_slot n (take k ss) ≡ true → has_slot n (take l ss) ≡ true
slots-more n zero l ss le h = absurd (true≢false (sym h))
slots-more n (suc k) zero ss le h = absurd (omega (arith, le))
slots-more n (suc k) (suc l) [] le h = h
slots-more n (suc k) (suc l) (t ∷ ss) le h = go (t.0 == n) h (slots-more n k l ss (omega (arith, le)))
  where
    go : (b : Bool) → (b || has_slot n (take k ss)) ≡ true → (has_slot n (take k ss) ≡ true → has_slot n (take l ss) ≡ true) → (b || has_slot n (take l ss)) ≡ true
    go true h more = refl
    go false h more = more h

pub or-within : (a b : Bool) → (b ≡ true → a ≡ true) → (a || b) ≡ a
or-within true b h = refl
or-within false true h = absurd (true≢false (sym (h refl)))
or-within false false h = refl

-- ---- The values of a branch

suc-same : (k l : ℕ) → (suc k == suc l) ≡ (k == l)
suc-same k l = elim (same_or_not k l) [
  | inl h ↦ rw h (eqb-same (suc l) ∙ sym (eqb-same l))
  | inr h ↦ eqb-other (suc k) (suc l) (λ e. h (omega (arith, e))) ∙ sym (eqb-other k l h)
]

nth-one : (xs : List Value) (o : Option Value) (k : ℕ) → nth (xs ++ one_or_none o) k ≡ (if k == length xs then o else nth xs k)
nth-one [] None zero = refl
nth-one [] None (suc k) = same (suc k == 0)
  where
    same : (b : Bool) → ◌≡◌ {A = Option Value} None (if b then None else None)
    same true = refl
    same false = refl
nth-one [] (Some v) zero = refl
nth-one [] (Some v) (suc k) = rw (eqb-other (suc k) 0 (λ e. omega (arith, e))) refl
nth-one (x ∷ xs) o zero = rw (eqb-other 0 (suc (length xs)) (λ e. omega (arith, e))) refl
nth-one (x ∷ xs) o (suc k) = nth-one xs o k ∙ ap (λ (b : Bool). if b then o else nth xs k) (sym (suc-same k (length xs)))

value-nth : (cs : List Content) (k : ℕ) → value_at cs k ≡ nth (values cs) k
value-nth [] k = refl
value-nth (c ∷ cs) k =
    here c (value-nth cs k) ∙ ap (λ (n : ℕ). let o : Option Value = if k == n then value_of c else nth (values cs) k in o) (sym (length-values cs)) ∙ sym (nth-one (values cs) (value_of c) k)
  where
    plain : (v : Option Value) → value_at cs k ≡ nth (values cs) k → (b : Bool) → (if b && true then v else value_at cs k) ≡ (if b then v else nth (values cs) k)
    plain v e true = refl
    plain v e false = e

    mark : value_at cs k ≡ nth (values cs) k → (b : Bool) → (k == filled cs) ≡ b → (if b && false then None else value_at cs k) ≡ (if b then None else nth (values cs) k)
    mark e true q = e ∙ nth-beyond (values cs) k (let long = length-values cs in let same = is-eq k (filled cs) q in omega (arith, long, same))
    mark e false q = e

    here : (c : Content) → value_at cs k ≡ nth (values cs) k → value_here k (filled cs) c (value_at cs k) ≡ (if k == filled cs then value_of c else nth (values cs) k)
    here Nil e = plain (Some Value_nil) e (k == filled cs)
    here (Holds b) e = plain (Some (Value_batch b)) e (k == filled cs)
    here Mark e = mark e (k == filled cs) refl

-- the value first, if there is one
abbrev front : Option Value → List Value → List Value
front None vs = []
front (Some v) vs = v ∷ vs

drop-front : (vs : List Value) (k : ℕ) → drop k vs ≡ front (nth vs k) (drop (suc k) vs)
drop-front [] zero = refl
drop-front [] (suc k) = refl
drop-front (v ∷ vs) zero = refl
drop-front (v ∷ vs) (suc k) = drop-front vs k

drop-none : (vs : List Value) (k : ℕ) → nth vs k ≡ None → drop (suc k) vs ≡ []
drop-none [] k h = refl
drop-none (v ∷ vs) zero h = absurd cc
drop-none (v ∷ vs) (suc k) h = drop-none vs k h

slot-values : (n : ℕ) (cs : List Content) (k : ℕ) (ss : List Slot) → value_at_slot cs k ss n ≡ value_with n ss (drop k (values cs))
slot-values n cs k [] = refl
slot-values n cs k (t ∷ ss) =
    ap (λ (o : Option Value). let r : Option Value = if t.0 == n then o else value_at_slot cs (suc k) ss n in r) (value-nth cs k)
    ∙ go (nth (values cs) k) refl (slot-values n cs (suc k) ss) ∙ ap (λ (vs : List Value). value_with n (t ∷ ss) vs) (sym (drop-front (values cs) k))
  where
    other : (b : Bool) → value_at_slot cs (suc k) ss n ≡ None → (if b then None else value_at_slot cs (suc k) ss n) ≡ None
    other true e = refl
    other false e = e

    go : (o : Option Value) → nth (values cs) k ≡ o → value_at_slot cs (suc k) ss n ≡ value_with n ss (drop (suc k) (values cs)) →
        (if t.0 == n then o else value_at_slot cs (suc k) ss n) ≡ value_with n (t ∷ ss) (front o (drop (suc k) (values cs)))
    go None q e = other (t.0 == n) (e ∙ ap (λ (vs : List Value). value_with n ss vs) (drop-none (values cs) k q) ∙ value-none n ss)
    go (Some v) q e = ap (λ (o : Option Value). let r : Option Value = if t.0 == n then Some v else o in r) e

-- the value of a branch at a slot
pub branch-value : (n : ℕ) (cs : List Content) (ss : List Slot) → value_at_slot cs 0 ss n ≡ value_with n ss (values cs)
branch-value n cs ss = slot-values n cs 0 ss
