-- Parts of bytes: the bytes between two offsets.
use Rattle.std.proofs.Common.{◌≡◌, ◌∙◌, ℕ, ◌+◌, ◌-◌, ◌<◌, ◌≤◌, List, ◌++◌, length, take, drop, min, refl, sym, ap, subst, arith, ◌⊎◌, inl, inr}
use Rattle.std.specs.Prelude.{Result, Ok, Err, IfOk}
use Rattle.iss_request.specs.Fields.{Reading, Good, left, IsRead}
use Rattle.iss_request.specs.Parsing.{Parser}
use Rattle.std.proofs.Math.Nat.{min-le_left, min-le_right}
use Rattle.std.proofs.lemmas.Bool.{cases_lt}
use Rattle.std.proofs.lemmas.List.{append_cancel_right, take-append-drop, take-take, take_min, drop_min, drop-take, drop-drop, length-take, length-drop}

-- offsets past the end select the same bytes as the end
pub cut_off : (all : List ℕ) (from to t f : ℕ) → t ≡ min to (length all) → f ≡ min from t →
    take (t - f) (drop f all) ≡ drop from (take to all)
cut_off all from to t f t-is f-is =
    let front : take t all ≡ take to all = ap (λ (n : ℕ). take n all) t-is ∙ take_min to all in
    let long : length (take t all) ≡ t = ap (λ (xs : List ℕ). length xs) front ∙ length-take to all ∙ sym t-is in
    let low : f ≤ t = subst (λ (n : ℕ). n ≤ t) (sym f-is) (min-le_right from t) in
    let whole : f + (t - f) ≡ t = omega (arith, low) in
    let start : drop f (take t all) ≡ drop from (take t all) =
    ap (λ (n : ℕ). drop n (take t all)) (f-is ∙ ap (λ (n : ℕ). min from n) (sym long))
    ∙ drop_min from (take t all) in
    sym (drop-take f (t - f) all) ∙ ap (λ (n : ℕ). drop f (take n all)) whole ∙ start
    ∙ ap (λ (xs : List ℕ). drop from xs) front

-- a part of a prefix is a part of the whole
in_front : (all : List ℕ) (k i last : ℕ) → (k ≡ 0) ⊎ (i + k ≤ last) →
    take k (drop i (take last all)) ≡ take k (drop i all)
in_front all k i last (inl none) = rw none refl
in_front all k i last (inr fits) =
    let whole : i + (last - i) ≡ last = omega (arith, fits) in
    let room : k ≤ last - i = omega (arith, fits) in
    ap (λ (n : ℕ). take k (drop i (take n all))) (sym whole)
    ∙ ap (λ (xs : List ℕ). take k xs) (drop-take i (last - i) all) ∙ take-take k (last - i) (drop i all) room

some_or_none : (first last from to m : ℕ) → m ≤ last → to ≤ m - first → from ≤ to → (0 < to) ⊎ (to ≤ 0) →
    (to - from ≡ 0) ⊎ (first + from + (to - from) ≤ last)
some_or_none first last from to m low fits order (inl some) = inr (omega (arith, some, low, fits, order))
some_or_none first last from to m low fits order (inr none) = inl (omega (arith, none))

-- a part of a part is a part of the whole
pub part_again : (all shown : List ℕ) (first last from to : ℕ) → shown ≡ drop first (take last all) →
    to ≤ length shown → from ≤ to →
    drop (first + from) (take (first + to) all) ≡ take (to - from) (drop from shown)
part_again all shown first last from to is fits order =
    let long : length shown ≡ min last (length all) - first = ap (λ (xs : List ℕ). length xs) is
    ∙ length-drop first (take last all) ∙ ap (λ (n : ℕ). n - first) (length-take last all) in
    let low : min last (length all) ≤ last = min-le_left last (length all) in
    let whole : first + from + (to - from) ≡ first + to = omega (arith, order) in
    let room : (to - from ≡ 0) ⊎ (first + from + (to - from) ≤ last) =
    some_or_none first last from to (min last (length all)) low (subst (λ (n : ℕ). to ≤ n) long fits) order
    (cases_lt 0 to) in
    ap (λ (n : ℕ). drop (first + from) (take n all)) (sym whole) ∙ drop-take (first + from) (to - from) all
    ∙ sym (in_front all (to - from) (first + from) last room)
    ∙ ap (λ (xs : List ℕ). take (to - from) xs) (sym (drop-drop from first (take last all))
    ∙ ap (λ (xs : List ℕ). drop from xs) (sym is))

-- the bytes read since an offset, followed by those left to read
pub since_and_left : {E : Type 0} (r : Result (List ℕ) E) (all shown : List ℕ) (from at : ℕ) →
    IfOk r (λ b. b ≡ take (at - from) (drop from shown)) → shown ≡ all →
    from ≤ at → IfOk r (λ b. b ++ drop at all ≡ drop from all)
since_and_left {E} (Err e) all shown from at found same order = found
since_and_left {E} (Ok b) all shown from at found same order =
    let whole : from + (at - from) ≡ at = omega (arith, order) in
    let rest : drop (at - from) (drop from all) ≡ drop at all = drop-drop (at - from) from all
    ∙ ap (λ (n : ℕ). drop n all) whole in
    let front : b ≡ take (at - from) (drop from all) = found
    ∙ ap (λ (xs : List ℕ). take (at - from) (drop from xs)) same in
    ap (λ (xs : List ℕ). xs ++ drop at all) front
    ∙ ap (λ (xs : List ℕ). take (at - from) (drop from all) ++ xs) (sym rest)
    ∙ take-append-drop (at - from) (drop from all)

-- the same for a reader
pub since_read : {E : Type 0} (r : Result (List ℕ) E) (f : Reading) (version at from : ℕ) (all shown : List ℕ) →
    record { version = version; all = all; at = at } ≡ f →
    IfOk r (λ b. b ≡ take (at - from) (drop from shown)) → shown ≡ all → from ≤ f.at →
    IfOk r (λ b. b ++ left f ≡ drop from f.all)
since_read {E} r f version at from all shown is found same order =
    let here : at ≡ f.at = ap (λ (z : Reading). z.at) is in
    let moved : IfOk r (λ b. b ≡ take (f.at - from) (drop from shown)) =
    subst (λ (n : ℕ). IfOk r (λ b. b ≡ take (n - from) (drop from shown))) here found in
    since_and_left r f.all shown from f.at moved (same ∙ ap (λ (z : Reading). z.all) is) order

-- If a parser returns bytes unchanged, its result is the bytes read since then.
pub read_as_is : (p : Parser (List ℕ)) → ((bytes rest x : List ℕ) → p bytes ≡ Good x rest → bytes ≡ x ++ rest) →
    {a f : Reading} {x : List ℕ} (b : List ℕ) (from : ℕ) → IsRead p a f x → b ++ left f ≡ drop from f.all →
    from ≡ a.at → IsRead p a f b
read_as_is p only {a} {f} {x} b from read is at =
    let same : left a ≡ drop from f.all = ap (λ (n : ℕ). drop n a.all) (sym at)
    ∙ ap (λ (xs : List ℕ). drop from xs) (sym read.same) in
    let one : x ≡ b = append_cancel_right x b (left f) (sym (only (left a) (left f) x read.found) ∙ same ∙ sym is) in
    subst (λ (xs : List ℕ). IsRead p a f xs) one read
