-- Bytes that are read and written piece by piece.
use Rattle.std.proofs.Common.{◌∙◌, ◌≡◌, ℕ, zero, suc, ◌+◌, ◌≤◌, Option, None, Some, Ok, IsErrOf, List, ◌++◌, length, take, drop, refl, sym, ap, subst, arith, append_assoc, length-append, length-drop}
use Rattle.std.proofs.Math.Seq.{take-add}
use Rattle.std.proofs.lemmas.List.{drop-drop, take_at, length-take, length-take-le}
use Rattle.iss_cli.specs.Ends.{Taken, Takes, and_more, empties_after}

pub and_more_more : (h : Option (List ℕ)) (a b : List ℕ) → and_more (and_more h a) b ≡ and_more h (a ++ b)
and_more_more None a b = refl
and_more_more (Some held) a b = ap Some (append_assoc held a b)

-- One more piece is written.
pub and_more_piece : (h now next : Option (List ℕ)) (put n : ℕ) (bytes : List ℕ) → now ≡ and_more h (take put bytes) → next ≡ and_more now (take n (drop put bytes)) → next ≡ and_more h (take (put + n) bytes)
and_more_piece h now next put n bytes e f =
    f ∙ ap (λ o. and_more o (take n (drop put bytes))) e ∙ and_more_more h (take put bytes) (take n (drop put bytes)) ∙ ap (and_more h) (sym (take-add put n bytes))

-- A result that is Ok is no error.
pub no_error : {T E : Type 0} (x : T) (e : E) → IsErrOf {T = T} {E = E} (Ok x) e → ⊥
no_error x e is = absurd (cc)

-- What was read so far of the remaining bytes.
abbrev pub IsRead : Option (List ℕ) → Option (List ℕ) → List ℕ → Type 0
IsRead None now bytes = now ≡ None
IsRead (Some all) now bytes = (bytes ≡ take (length bytes) all) × (now ≡ Some (drop (length bytes) all))

-- One more piece is read.
pub read_piece : (left now next : Option (List ℕ)) (bytes slice slice_now : List ℕ) (n : ℕ) → IsRead left now bytes → Takes n now next slice slice_now → IsRead left next (bytes ++ take n slice_now)
read_piece None now next bytes slice slice_now n h t =
    let P : Option (List ℕ) → Type 0 = λ o. Takes n o next slice slice_now in subst P h t
read_piece (Some all) now next bytes slice slice_now n h t =
    let P : Option (List ℕ) → Type 0 = λ o. Takes n o next slice slice_now in
    let taken : Taken n (drop (length bytes) all) next slice slice_now = subst P h.1 t in
    let piece : take n slice_now ≡ take n (drop (length bytes) all) =
    ap (take n) taken.bytes ∙ take_at (take n (drop (length bytes) all)) (drop n slice) n (length-take-le n (drop (length bytes) all) taken.within) in
    let whole : bytes ++ take n slice_now ≡ take (length bytes + n) all =
    ap (λ b. b ++ take n slice_now) h.0 ∙ ap (λ b. take (length bytes) all ++ b) piece ∙ sym (take-add (length bytes) n all) in
    let size : length (bytes ++ take n slice_now) ≡ length bytes + n =
    length-append bytes (take n slice_now) ∙ ap (λ m. length bytes + m) (ap length piece ∙ length-take-le n (drop (length bytes) all) taken.within) in
    (whole ∙ ap (λ m. take m all) (sym size), taken.rest ∙ ap Some (drop-drop n (length bytes) all ∙ ap (λ m. drop m all) (sym size)))

-- Overwriting the beginning of a buffer does not change its length.
pub refilled : (n : ℕ) (front xs : List ℕ) → n ≡ length xs → length (take n (front ++ drop (length front) xs)) ≡ n
refilled n front xs e = omega (arith, length-take n (front ++ drop (length front) xs), length-append front (drop (length front) xs), length-drop (length front) xs)

pub longer : (xs ys zs : List ℕ) (n : ℕ) → zs ≡ xs ++ take n ys → length zs ≤ length xs + n
longer xs ys zs n e = omega (arith, ap length e, length-append xs (take n ys), length-take n ys)

-- ---- reads that gave nothing

pub gave_some : (n k : ℕ) → (n ≡ 0 → ⊥) → empties_after n k ≡ k
gave_some zero k some = absurd (some refl)
gave_some (suc n) k some = refl
