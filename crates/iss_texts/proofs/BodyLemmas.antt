-- What a bad rest of a text says, and that a good one has no fault.
use Rattle.std.proofs.Common.{◌≡◌, ◌≢◌, inl, inr, ℕ, ◌+◌, ◌≤◌, List, [], ◌∷◌, ◌++◌, length, length-append, refl, sym, ap, subst, ◌∙◌, arith}
use Rattle.iss_schedule.specs.BadLines.{IsNext}
use Rattle.iss_schedule.specs.Schedules.{most_events}
use Rattle.iss_schedule.specs.Words.{Lacks}
use Rattle.iss_schedule.specs.declared.errors.LineFault.{LineFault}
use Rattle.iss_schedule.specs.declared.errors.LineFault.TheVariants.{Cut, Form, Faulty, Injected, Range, Size}
use Rattle.iss_schedule.proofs.BadLines.OneFirstBadLine.{nonempty}
use Rattle.iss_schedule.proofs.Encoding.SplitsAreUnique.{cut_same, no_cut}
use Rattle.iss_texts.specs.Bodies.{IsBadBehind, IsBadNext, last_line}
use Rattle.iss_texts.specs.Internal.Refusals.{IsNoNext}

-- where no next line is read, the rest is bad
pub next-bad : (count : ℕ) (Fault : List ℕ → LineFault → Type 0) (rest : List ℕ) (why : LineFault) →
    IsNoNext count rest why → IsBadNext count Fault rest why
next-bad count Fault rest why (inl h) = subst (IsBadNext count Fault rest) (sym h.0) (h.1, h.2)
next-bad count Fault rest why (inr h) = subst (IsBadNext count Fault rest) (sym h.0) h.1

no-fault : (Fault : List ℕ → LineFault → Type 0) (m tail rest : List ℕ) (why : LineFault) → Lacks 10 m →
    ((w : LineFault) → Fault m w → ⊥) → rest ≡ m ++ 10 ∷ tail → (line : List ℕ)
    × (IsNext line rest × Fault line why) → ⊥
no-fault Fault m tail rest why whole none is h =
    let same = cut_same 10 h.0 m h.1.0.more tail h.1.0.whole whole (sym h.1.0.text ∙ is) in
    none why (subst (λ (l : List ℕ). Fault l why) same.0 h.1.1)

-- a rest with a next line that has no fault is not bad, if there is room for the line
pub good-next : (count all : ℕ) (Fault : List ℕ → LineFault → Type 0) (m tail rest : List ℕ) (why : LineFault) →
    all ≤ most_events → count + 1 ≤ all → Lacks 10 m → ((w : LineFault) → Fault m w → ⊥) → rest ≡ m ++ 10 ∷ tail →
    IsBadNext count Fault rest why → ⊥
good-next count all Fault m tail rest Size few lt whole none is h = omega (arith, few, lt, h.0)
good-next count all Fault m tail rest Cut few lt whole none is h = no_cut 10 m tail (subst (Lacks 10) is h.1)
good-next count all Fault m tail rest Form few lt whole none is h = no-fault Fault m tail rest Form whole none is h.1
good-next count all Fault m tail rest Faulty few lt whole none is h = no-fault Fault m tail rest Faulty whole none is h.1
good-next count all Fault m tail rest Injected few lt whole none is h =
    no-fault Fault m tail rest Injected whole none is h.1
good-next count all Fault m tail rest Range few lt whole none is h = no-fault Fault m tail rest Range whole none is h.1

-- nothing is wrong where nothing stands after the last line
pub good-behind : (rest : List ℕ) (why : LineFault) → rest ≡ [] → IsBadBehind rest why → ⊥
good-behind rest Cut is h = h.0 is
good-behind rest Form is h = nonempty h.0 h.1.more (sym h.1.text ∙ is)
good-behind rest Size is h = h
good-behind rest Faulty is h = h
good-behind rest Injected is h = h
good-behind rest Range is h = h

-- ---- the last line stands once

-- none of these is the last line
abbrev pub NoneLast : List (List ℕ) → Type 0
NoneLast [] = Unit {0}
NoneLast (line ∷ lines) = (line ≢ last_line) × NoneLast lines

pub none-append : (xs ys : List (List ℕ)) → NoneLast xs → NoneLast ys → NoneLast (xs ++ ys)
none-append [] ys h k = k
none-append (x ∷ xs) ys h k = (h.0, none-append xs ys h.1 k)

pub has-last : (xs ys : List (List ℕ)) → NoneLast (xs ++ last_line ∷ ys) → ⊥
has-last [] ys h = h.0 refl
has-last (x ∷ xs) ys h = has-last xs ys h.1

pub first-is : (x y : List ℕ) (xs ys : List (List ℕ)) → x ∷ xs ≡ y ∷ ys → x ≡ y
first-is x y xs ys e = cc

pub rest-is : (x y : List ℕ) (xs ys : List (List ℕ)) → x ∷ xs ≡ y ∷ ys → xs ≡ ys
rest-is x y xs ys e = cc

-- nothing stands behind the last line of whole lines
pub not-inner : (ls ks : List (List ℕ)) (m : List ℕ) (ms : List (List ℕ)) → NoneLast ls →
    ls ++ last_line ∷ [] ≡ (ks ++ last_line ∷ []) ++ m ∷ ms → ⊥
not-inner [] [] m ms h e = let two : [] ≡ m ∷ ms = rest-is _ _ _ _ e in cc
not-inner (a ∷ ls) [] m ms h e = h.0 (first-is _ _ _ _ e)
not-inner [] (b ∷ ks) m ms h e =
    let tail : [] ≡ (ks ++ last_line ∷ []) ++ m ∷ ms = rest-is _ _ _ _ e in
    omega (arith, ap length tail, length-append (ks ++ last_line ∷ []) (m ∷ ms))
not-inner (a ∷ ls) (b ∷ ks) m ms h e = not-inner ls ks m ms h.1 (rest-is _ _ _ _ e)
