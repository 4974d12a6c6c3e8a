-- Frames as bytes.
use Rattle.std.proofs.Common.{◌≡◌, ℕ, ◌+◌, ◌-◌, ◌^◌, ◌<◌, ◌≤◌, min, List, ◌∷◌, ◌++◌, length, get_or, take, drop, refl, ap, sym, ◌∙◌, arith, length-drop, true, false, drop-cons, drop-drop}
use Rattle.std.proofs.lemmas.Bool.{false≢true}
use Rattle.std.specs.Int.{w32, w64, to_be_bytes, from_be_bytes}
use Rattle.std.proofs.lemmas.List.{take_min, take_all, length-take, take-append-drop}
use Rattle.std.proofs.lemmas.Nat.{from_be_bytes-to_be_bytes_4, from_be_bytes-to_be_bytes_8}
use Rattle.iss_links.specs.Frames.{Fragment, spell_frame, is_part, IsSpellable, IsFrame}

-- the bytes of a part, whose end is at most that of the packet
pub part-bytes : (xs : List ℕ) (first from n end : ℕ) → first ≡ from → first ≤ length xs → end ≡ min (length xs) (first + n) → take (end - first) (drop first xs) ≡ take n (drop from xs)
part-bytes xs first from n end same within is =
    let e : end - first ≡ min n (length (drop first xs)) = rw (length-drop first xs) (omega (arith, within, is)) in
    rw (e, ← same) (take_min n (drop first xs))

-- the range in a datagram's head are those of the frame that it spells
same-short : (m n : ℕ) → m < 2 ^ 32 → n < 2 ^ 32 → to_be_bytes w32 m ≡ to_be_bytes w32 n → m ≡ n
same-short m n fits fits2 e = sym (from_be_bytes-to_be_bytes_4 m fits) ∙ ap (from_be_bytes w32) e ∙ from_be_bytes-to_be_bytes_4 n fits2

part-fits : (part parts len : ℕ) → is_part part parts len ≡ true → part < parts
part-fits part parts len h = grind (arith, h)

spelled-len : (f : Fragment) → length (spell_frame f) ≡ 17 + length f.bytes
spelled-len f = omega arith

pub no-frame : (d : List ℕ) (part parts : ℕ) → part < 2 ^ 32 → parts < 2 ^ 32 → take 4 (drop 9 d) ≡ to_be_bytes w32 part → take 4 (drop 13 d) ≡ to_be_bytes w32 parts
    → is_part part parts (length (take (length d - 17) (drop 17 d))) ≡ false → (f : Fragment) → IsFrame d f → ⊥
no-frame d part parts fits fits2 e e2 none f h =
    let whole = h.1 in
    let within : f.part < f.parts = part-fits f.part f.parts (length f.bytes) whole.is_one in
    let p : f.part ≡ part = same-short f.part part (let u = whole.parts_fit in omega (arith, u, within)) fits (ap (λ (x : List ℕ). take 4 (drop 9 x)) (sym h.0) ∙ e) in
    let ps : f.parts ≡ parts = same-short f.parts parts whole.parts_fit fits2 (ap (λ (x : List ℕ). take 4 (drop 13 x)) (sym h.0) ∙ e2) in
    let long : length d ≡ 17 + length f.bytes = ap (λ (x : List ℕ). length x) h.0 ∙ spelled-len f in
    let len : length (take (length d - 17) (drop 17 d)) ≡ length f.bytes = length-take (length d - 17) (drop 17 d) ∙ rw (length-drop 17 d) (omega (arith, long)) in
    false≢true (sym none ∙ rw (len, ← p, ← ps) whole.is_one)

pub some-frame : (d : List ℕ) (number part parts : ℕ) (bytes : List ℕ) → 17 ≤ length d → take 8 (drop 1 d) ≡ to_be_bytes w64 number → take 4 (drop 9 d) ≡ to_be_bytes w32 part → take 4 (drop 13 d) ≡ to_be_bytes w32 parts
    → bytes ≡ take (length d - 17) (drop 17 d) → d ≡ get_or d 0 0 ∷ to_be_bytes w64 number ++ to_be_bytes w32 part ++ to_be_bytes w32 parts ++ bytes
some-frame d number part parts bytes long a b e r =
    let first : d ≡ get_or d 0 0 ∷ drop 1 d = drop-cons d 0 0 (omega (arith, long)) in
    let next : drop 1 d ≡ to_be_bytes w64 number ++ drop 9 d = sym (take-append-drop 8 (drop 1 d)) ∙ rw (a, drop-drop 8 1 d) refl in
    let next2 : drop 9 d ≡ to_be_bytes w32 part ++ drop 13 d = sym (take-append-drop 4 (drop 9 d)) ∙ rw (b, drop-drop 4 9 d) refl in
    let next3 : drop 13 d ≡ to_be_bytes w32 parts ++ drop 17 d = sym (take-append-drop 4 (drop 13 d)) ∙ rw (e, drop-drop 4 13 d) refl in
    let last : drop 17 d ≡ bytes = sym (r ∙ take_all (length d - 17) (drop 17 d) (rw (length-drop 17 d) (omega arith))) in
    first ∙ ap (λ (x : List ℕ). get_or d 0 0 ∷ x) (next ∙ ap (λ (x : List ℕ). to_be_bytes w64 number ++ x) (next2 ∙ ap (λ (x : List ℕ). to_be_bytes w32 part ++ x) (next3 ∙ ap (λ (x : List ℕ). to_be_bytes w32 parts ++ x) last)))

-- ---- a datagram is the frame of at most one fragment

same-wide : (m n : ℕ) → m < 2 ^ 64 → n < 2 ^ 64 → to_be_bytes w64 m ≡ to_be_bytes w64 n → m ≡ n
same-wide m n fits fits2 e = sym (from_be_bytes-to_be_bytes_8 m fits) ∙ ap (from_be_bytes w64) e ∙ from_be_bytes-to_be_bytes_8 n fits2

abbrev pub fragment_of : ℕ → ℕ → ℕ → ℕ → List ℕ → Fragment
fragment_of from number part parts bytes =
    record { from = from; number = number; part = part; parts = parts; bytes = bytes }

same-fields : (f g : Fragment) → f.from ≡ g.from → f.number ≡ g.number → f.part ≡ g.part → f.parts ≡ g.parts → f.bytes ≡ g.bytes → f ≡ g
same-fields f g a b c d e =
    ap (λ (x : ℕ). fragment_of x f.number f.part f.parts f.bytes) a
    ∙ ap (λ (x : ℕ). fragment_of g.from x f.part f.parts f.bytes) b
    ∙ ap (λ (x : ℕ). fragment_of g.from g.number x f.parts f.bytes) c
    ∙ ap (λ (x : ℕ). fragment_of g.from g.number g.part x f.bytes) d
    ∙ ap (λ (x : List ℕ). fragment_of g.from g.number g.part g.parts x) e

part-within : (f : Fragment) → IsSpellable f → f.part < 2 ^ 32
part-within f h =
    let below : f.part < f.parts = part-fits f.part f.parts (length f.bytes) h.is_one in
    let few = h.parts_fit in
    omega (arith, below, few)

pub frames-exact : (d : List ℕ) (f g : Fragment) → IsFrame d f → IsFrame d g → f ≡ g
frames-exact d f g h i =
    let e : spell_frame f ≡ spell_frame g = sym h.0 ∙ i.0 in
    same-fields f g
    (ap (λ (x : List ℕ). get_or x 0 0) e)
    (same-wide f.number g.number h.1.number_fits i.1.number_fits (ap (λ (x : List ℕ). take 8 (drop 1 x)) e))
    (same-short f.part g.part (part-within f h.1) (part-within g i.1) (ap (λ (x : List ℕ). take 4 (drop 9 x)) e))
    (same-short f.parts g.parts h.1.parts_fit i.1.parts_fit (ap (λ (x : List ℕ). take 4 (drop 13 x)) e))
    (ap (λ (x : List ℕ). drop 17 x) e)
