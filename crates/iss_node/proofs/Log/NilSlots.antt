-- Which slots of a log are nil.
use Rattle.std.proofs.Common.{arith, ◌≡◌, ℕ, suc, ◌+◌, ◌<◌, ◌≤◌, true, false, eqb, not, List, [], ◌∷◌, ◌++◌, length, length-append, take, drop, get_or, reverse, refl, sym, ap, ◌∙◌, add-one, drop-cons, append_assoc}
use Rattle.std.proofs.lemmas.Bool.Decides.{nat_tests}
use Rattle.std.proofs.lemmas.List.{length-reverse, length-take-le, reverse-append, take-append-drop}
use Rattle.iss_model.specs.Node.{is_nil_at}
use Rattle.iss_request.specs.Formats.{is_batch}
use Rattle.iss_request.specs.declared.requests.Value.{Value}

pub nil-past : (log : List Value) (s : ℕ) → length log ≤ s → is_nil_at log s ≡ false
nil-past [] s le = refl
nil-past (v ∷ older) s le =
    let apart : eqb s (length older) ≡ false = grind (arith, nat_tests) in
    rw apart (nil-past older s (omega (arith, le)))

-- The value of a slot below later ones.
nil-below : (newer older : List Value) (v : Value) → is_nil_at (newer ++ v ∷ older) (length older) ≡ not (is_batch v)
nil-below [] older v =
    let here : eqb (length older) (length older) ≡ true = grind (arith, nat_tests) in
    rw here refl
nil-below (w ∷ newer) older v =
    let long = length-append newer (v ∷ older) in
    let apart : eqb (length older) (length (newer ++ v ∷ older)) ≡ false = grind (arith, nat_tests, long) in
    rw apart (nil-below newer older v)

pub nil-at : (xs : List Value) (k : ℕ) (v : Value) → k < length xs → v ≡ get_or xs k v → not (is_batch v) ≡ is_nil_at (reverse xs) k
nil-at xs k v lt is =
    let back : drop k xs ≡ v ∷ drop (k + 1) xs = rw (add-one, drop-cons xs k v) (ap (λ (z : Value). z ∷ drop (suc k) xs) (sym is)) in
    let whole : xs ≡ take k xs ++ v ∷ drop (k + 1) xs = sym (take-append-drop k xs) ∙ ap (λ (ys : List Value). take k xs ++ ys) back in
    let turned : reverse xs ≡ reverse (v ∷ drop (k + 1) xs) ++ reverse (take k xs) = ap (λ (ys : List Value). reverse ys) whole ∙ reverse-append (take k xs) (v ∷ drop (k + 1) xs) in
    let last : reverse (v ∷ drop (k + 1) xs) ≡ reverse (drop (k + 1) xs) ++ v ∷ [] = reverse-append (v ∷ []) (drop (k + 1) xs) in
    let all : reverse xs ≡ reverse (drop (k + 1) xs) ++ v ∷ reverse (take k xs) = turned ∙ ap (λ (ys : List Value). ys ++ reverse (take k xs)) last ∙ append_assoc (reverse (drop (k + 1) xs)) (v ∷ []) (reverse (take k xs)) in
    let front : length (reverse (take k xs)) ≡ k = length-reverse (take k xs) ∙ length-take-le k xs (omega (arith, lt)) in
    sym (ap (λ (ys : List Value). is_nil_at ys k) all ∙ ap (λ (n : ℕ). is_nil_at (reverse (drop (k + 1) xs) ++ v ∷ reverse (take k xs)) n) (sym front) ∙ nil-below (reverse (drop (k + 1) xs)) (reverse (take k xs)) v)
