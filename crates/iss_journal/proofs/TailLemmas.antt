-- Entries of which each ends in shared bytes.
use Rattle.std.proofs.Common.{◌≡◌, ℕ, zero, suc, ◌+◌, ◌<◌, ◌≤◌, List, [], ◌∷◌, ◌++◌, length, take, drop, get_or, refl, ◌∙◌, ap, arith, length-append}
use Rattle.std.proofs.lemmas.List.{append-nil}
use Rattle.iss_journal.specs.Frames.{frame, frames}
use Rattle.iss_journal.specs.Tails.{with_tails}
use Rattle.iss_journal.proofs.Book.{frames_split, length_more}
use Rattle.iss_journal.proofs.FrameLemmas.{frames-push}

pub length-tails : (es ts : List (List ℕ)) → length (with_tails es ts) ≡ length es
length-tails [] ts = refl
length-tails (e ∷ es) [] = refl
length-tails (e ∷ es) (t ∷ ts) = ap suc (length-tails es ts)

pub at_tail : (es ts : List (List ℕ)) (k : ℕ) → k < length es → length ts ≡ length es →
    get_or (with_tails es ts) k [] ≡ get_or es k [] ++ get_or ts k []
at_tail [] ts k lt each = absurd (omega (arith, lt))
at_tail (e ∷ es) [] k lt each = absurd (omega (arith, each))
at_tail (e ∷ es) (t ∷ ts) zero lt each = refl
at_tail (e ∷ es) (t ∷ ts) (suc k) lt each = at_tail es ts k (omega (arith, lt)) (omega (arith, each))

-- the first entries
pub tails_first : (es ts : List (List ℕ)) (k : ℕ) → with_tails (take k es) (take k ts) ≡ take k (with_tails es ts)
tails_first [] ts zero = refl
tails_first [] ts (suc k) = refl
tails_first (e ∷ es) [] zero = refl
tails_first (e ∷ es) [] (suc k) = refl
tails_first (e ∷ es) (t ∷ ts) zero = refl
tails_first (e ∷ es) (t ∷ ts) (suc k) = ap (λ (l : List (List ℕ)). (e ++ t) ∷ l) (tails_first es ts k)

-- one more entry with its shared end
pub tails_push : (es ts : List (List ℕ)) (e t : List ℕ) → length ts ≡ length es →
    with_tails (es ++ e ∷ []) (ts ++ t ∷ []) ≡ with_tails es ts ++ (e ++ t) ∷ []
tails_push [] [] e t each = refl
tails_push [] (s ∷ ts) e t each = absurd (omega (arith, each))
tails_push (d ∷ es) [] e t each = absurd (omega (arith, each))
tails_push (d ∷ es) (s ∷ ts) e t each =
    ap (λ (l : List (List ℕ)). (d ++ s) ∷ l) (tails_push es ts e t (omega (arith, each)))

-- the entries after one more, whose head alone is copied
pub grown : (es new ts tails : List (List ℕ)) (head body : List ℕ) →
    length ts ≡ length es → new ≡ es ++ (head ++ []) ∷ [] → tails ≡ ts ++ body ∷ [] →
    with_tails new tails ≡ with_tails es ts ++ (head ++ body) ∷ []
grown es new ts tails head body each is more =
    ap (λ (l : List (List ℕ)). with_tails l tails) is
    ∙ ap (λ (l : List (List ℕ)). with_tails (es ++ (head ++ []) ∷ []) l) more
    ∙ tails_push es ts (head ++ []) body each
    ∙ ap (λ (l : List ℕ). with_tails es ts ++ (l ++ body) ∷ []) (append-nil head)

-- each of them has its shared end again
pub each_after : (es new ts tails : List (List ℕ)) (e t : List ℕ) →
    length ts ≡ length es → new ≡ es ++ e ∷ [] → tails ≡ ts ++ t ∷ [] → length tails ≡ length new
each_after es new ts tails e t each is more =
    omega (arith, each, ap length is, ap length more, length-append es (e ∷ []), length-append ts (t ∷ []))

-- the offset of the last gate after one more entry
pub end_after : (old new : List (List ℕ)) (e : List ℕ) (end next : ℕ) → end ≡ length (frames old) →
    new ≡ old ++ e ∷ [] → next ≡ end + (5 + length e) → next ≡ length (frames new)
end_after old new e end next is more is_next =
    omega (
      arith,
      is,
      is_next,
      ap (λ (es : List (List ℕ)). length (frames es)) more,
      ap length (frames-push old e),
      length-append (frames old) (frame e),
    )

-- how much longer the frames are
pub longer_by : (old new : List (List ℕ)) (e : List ℕ) (most : ℕ) → new ≡ old ++ e ∷ [] → length e ≤ most →
    length (frames new) ≤ length (frames old) + (5 + most)
longer_by old new e most more le =
    omega (
      arith,
      le,
      ap (λ (es : List (List ℕ)). length (frames es)) more,
      ap length (frames-push old e),
      length-append (frames old) (frame e),
    )

-- a gate lies before the end
pub gate_within : (es : List (List ℕ)) (k : ℕ) → k < length es →
    length (frames (take (suc k) es)) ≤ length (frames es)
gate_within es k lt =
    let more = length_more es k lt in
    let all = ap length (frames_split es k lt) in
    omega (
      arith,
      more,
      all,
      length-append (frames (take k es)) (frame (get_or es k []) ++ frames (drop (suc k) es)),
      length-append (frame (get_or es k [])) (frames (drop (suc k) es)),
    )
