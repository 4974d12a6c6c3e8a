-- Pairs of digits are the bytes that they were read as, and no other word is that of bytes.
use Rattle.std.proofs.Common.{◌≡◌, ◌≢◌, ◌∙◌, ℕ, zero, suc, ◌+◌, ◌*◌, ◌/◌, ◌%◌, ◌-◌, ◌<◌, ◌==◌, Bool, true, false, ◌&&◌, inl, inr, List, [], ◌∷◌, ◌++◌, length, take, drop, slice_index, codes, slice_set, ◌≤◌, refl, sym, ap, subst, arith, append_assoc}
use Rattle.std.specs.Prelude.{nat_lt, if◌then◌else◌}
use Rattle.std.proofs.lemmas.Bool.{and_parts, cases_lt, eqb-true}
use Rattle.std.proofs.lemmas.List.{append-nil, drop_all, length-drop, take_all, take_more_set}
use Rattle.hex.specs.Hex.{IsBytes, encode_lower, encode_with, lower_digits}
use Rattle.hex.proofs.HexLemmas.{length-encode_with}
use Rattle.hex.proofs.Pairs.{drop-pair}
use Rattle.iss_schedule.specs.Words.{word_of}
use Rattle.iss_audit.specs.Digits.{AreDigits, ArePairs, is_digit}

-- ---- one digit

abbrev value : ℕ → ℕ
value c = c % 16 + 9 * (c / 64)

-- the test of one byte, which computes
abbrev is_read : ℕ → Bool
is_read c = if is_digit c then nat_lt (value c) 16 && (slice_index lower_digits (value c) == c) else true

abbrev are_read : ℕ → Bool
are_read zero = true
are_read (suc n) = is_read n && are_read n

are_read-at : (n k : ℕ) → are_read n ≡ true → k < n → is_read k ≡ true
are_read-at zero k h lt = absurd (omega arith)
are_read-at (suc n) k h lt =
    let parts = and_parts (is_read n) (are_read n) h in
    elim (cases_lt k n) [
      | inl below ↦ are_read-at n k parts.1 below
      | inr top ↦ let e : k ≡ n = omega arith in rw e parts.0
    ]

-- the test of one place of the table
abbrev is_written : ℕ → Bool
is_written d = is_digit (slice_index lower_digits d)

abbrev are_written : ℕ → Bool
are_written zero = true
are_written (suc n) = is_written n && are_written n

are_written-at : (n k : ℕ) → are_written n ≡ true → k < n → is_written k ≡ true
are_written-at zero k h lt = absurd (omega arith)
are_written-at (suc n) k h lt =
    let parts = and_parts (is_written n) (are_written n) h in
    elim (cases_lt k n) [
      | inl below ↦ are_written-at n k parts.1 below
      | inr top ↦ let e : k ≡ n = omega arith in rw e parts.0
    ]

pub table-digit : (d : ℕ) → d < 16 → is_digit (slice_index lower_digits d) ≡ true
table-digit d lt = are_written-at 16 d refl lt

-- what a digit is read as, and that it is the digit of that value
pub digit-read : (c : ℕ) → is_digit c ≡ true → (value c < 16) × (slice_index lower_digits (value c) ≡ c)
digit-read c is = go (is_digit c) is (are_read-at 103 c refl (below c is))
  where
    below : (n : ℕ) → is_digit n ≡ true → n < 103
    below n h = grind (arith, h)

    go : (b : Bool) → b ≡ true → (if b then nat_lt (value c) 16 && (slice_index lower_digits (value c) == c) else true) ≡ true → (value c < 16) × (slice_index lower_digits (value c) ≡ c)
    go true h test =
        let parts = and_parts (nat_lt (value c) 16) (slice_index lower_digits (value c) == c) test in
        (grind (arith, parts.0), eqb-true (slice_index lower_digits (value c)) c parts.1)
    go false h test = absurd (cc)

-- ---- pairs of digits

encode-append : (t xs ys : List ℕ) → encode_with t (xs ++ ys) ≡ encode_with t xs ++ encode_with t ys
unfolding encode_with
encode-append t [] ys = refl
encode-append t (b ∷ xs) ys = ap (λ (r : List ℕ). slice_index t (b / 16) ∷ slice_index t (b % 16) ∷ r) (encode-append t xs ys)

-- the bytes before this place are those of the digits before it
abbrev pub IsDecoded : List ℕ → List ℕ → ℕ → Type 0
IsDecoded word bytes place = encode_lower (take place bytes) ++ drop (2 * place) word ≡ word

pub decode-start : (word bytes : List ℕ) → IsDecoded word bytes 0
unfolding encode_with
decode-start word bytes = refl

encode-pair : (t : List ℕ) (b x y high low : ℕ) → b / 16 ≡ high → b % 16 ≡ low → slice_index t high ≡ x → slice_index t low ≡ y → encode_with t (b ∷ []) ≡ x ∷ y ∷ []
unfolding encode_with
encode-pair t b x y high low up down is are = rw (up, down, is, are) refl

-- the rest of the word, as a slice from this pair on
pair-seen : (word : List ℕ) (place : ℕ) → 2 * place + 1 < length word → take (length word - 2 * place) (drop (2 * place) word) ≡ slice_index word (2 * place) ∷ slice_index word (2 * place + 1) ∷ drop (2 * (place + 1)) word
pair-seen word place fits =
    let long = length-drop (2 * place) word in
    take_all (length word - 2 * place) (drop (2 * place) word) (omega (arith, long)) ∙ drop-pair word place fits

pub first-seen : (word : List ℕ) (place : ℕ) → 2 * place + 1 < length word → slice_index (take (length word - 2 * place) (drop (2 * place) word)) 0 ≡ slice_index word (2 * place)
first-seen word place fits = ap (λ (r : List ℕ). slice_index r 0) (pair-seen word place fits)

pub second-seen : (word : List ℕ) (place : ℕ) → 2 * place + 1 < length word → slice_index (take (length word - 2 * place) (drop (2 * place) word)) 1 ≡ slice_index word (2 * place + 1)
second-seen word place fits = ap (λ (r : List ℕ). slice_index r 1) (pair-seen word place fits)

-- one byte more is written
pub decode-step : (word bytes : List ℕ) (place high low : ℕ) → 2 * place + 1 < length word → place < length bytes → high < 16 → low < 16 →
    slice_index lower_digits high ≡ slice_index word (2 * place) → slice_index lower_digits low ≡ slice_index word (2 * place + 1) →
    IsDecoded word bytes place → IsDecoded word (slice_set bytes place (high * 16 + low)) (place + 1)
decode-step word bytes place high low fits room small little first second before =
    let b : ℕ = high * 16 + low in
    let up : b / 16 ≡ high = omega arith in
    let down : b % 16 ≡ low = omega arith in
    let x : ℕ = slice_index word (2 * place) in
    let y : ℕ = slice_index word (2 * place + 1) in
    let rest : List ℕ = drop (2 * (place + 1)) word in
    let front : List ℕ = encode_lower (take place bytes) in
    let pair = encode-pair lower_digits b x y high low up down first second in
    let more : encode_lower (take (place + 1) (slice_set bytes place b)) ≡ front ++ x ∷ y ∷ [] =
    ap encode_lower (take_more_set bytes place b room) ∙ encode-append lower_digits (take place bytes) (b ∷ []) ∙ ap (λ (r : List ℕ). front ++ r) pair in
    ap (λ (r : List ℕ). r ++ rest) more ∙ append_assoc front (x ∷ y ∷ []) rest ∙ ap (λ (r : List ℕ). front ++ r) (sym (drop-pair word place fits)) ∙ before

-- all bytes are written
pub decode-done : (word bytes : List ℕ) (place : ℕ) → length bytes ≤ place → length word ≤ 2 * place → IsDecoded word bytes place → word ≡ encode_lower bytes
decode-done word bytes place all few at =
    sym at ∙ ap (λ (r : List ℕ). encode_lower (take place bytes) ++ r) (drop_all (2 * place) word few) ∙ append-nil (encode_lower (take place bytes)) ∙ ap encode_lower (take_all place bytes all)

-- ---- words of bytes

encode-digits : (xs : List ℕ) → IsBytes xs → AreDigits (encode_lower xs)
unfolding encode_with
encode-digits [] fits k lt = absurd (omega arith)
encode-digits (b ∷ rest) fits zero lt = let small : b < 256 = fits 0 in table-digit (b / 16) (omega arith)
encode-digits (b ∷ rest) fits (suc zero) lt = table-digit (b % 16) (omega arith)
encode-digits (b ∷ rest) fits (suc (suc k)) lt = encode-digits rest (λ i. fits (suc i)) k (omega arith)

encode-pairs : (b : ℕ) (bs : List ℕ) → IsBytes (b ∷ bs) → ArePairs (encode_lower (b ∷ bs))
encode-pairs b bs fits =
    let long = length-encode_with lower_digits (b ∷ bs) in
    record { some = omega (arith, long); even = omega (arith, long); digits = encode-digits (b ∷ bs) fits }

-- a word that is neither a minus nor pairs of digits is not that of bytes
pub no-bytes : (word : List ℕ) → word ≢ codes "-" → (ArePairs word → ⊥) → (bytes : List ℕ) → IsBytes bytes → word ≢ word_of bytes
no-bytes word minus none [] fits is = minus is
no-bytes word minus none (b ∷ bs) fits is = none (subst ArePairs (sym is) (encode-pairs b bs fits))

-- bytes that pairs of digits were read as
pub some-bytes : (word bytes : List ℕ) → ArePairs word → word ≡ encode_lower bytes → word ≡ word_of bytes
unfolding encode_with
some-bytes word [] pairs is = let none : 0 < 0 = subst (λ (w : List ℕ). 0 < length w) is pairs.some in absurd (omega (arith, none))
some-bytes word (b ∷ bs) pairs is = is
