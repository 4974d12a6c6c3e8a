-- Words of bytes.
use Rattle.std.proofs.Common.{◌≡◌, ℕ, List, [], ◌∷◌, codes, ◌<◌, length, arith, ap, Ok, refl, sym, ◌∙◌}
use Rattle.std.specs.Prelude.{◌≢◌, Result}
use Rattle.hex.specs.Hex.{IsBytes, encode_lower, encode_with, decode_of, lower_digits}
use Rattle.hex.specs.declared.error.FromHexError.{FromHexError}
use Rattle.std.specs.Result.{result_unwrap_or}
use Rattle.hex.proofs.HexLemmas.{decode_of-encode_lower, length-encode_with}
use Rattle.iss_schedule.specs.Words.{word_of}

-- no word is empty
pub word_is_long : (bytes : List ℕ) → 0 < length (word_of bytes)
unfolding encode_with
word_is_long [] = omega arith
word_is_long (b ∷ bs) = omega arith

-- a word other than `-` decodes to its bytes
pub decoded : (word bytes : List ℕ) → word ≢ codes "-" → IsBytes bytes → word ≡ word_of bytes →
    decode_of word ≡ Ok bytes
decoded word [] other fits e = absurd (other e)
decoded word (b ∷ bs) other fits e = rw e (decode_of-encode_lower (b ∷ bs) fits)

-- a nonempty text that is the encoding of some bytes is their word
pub is_word : (word bytes : List ℕ) → (length word ≡ 0 → ⊥) → word ≡ encode_lower bytes → word ≡ word_of bytes
unfolding encode_with
is_word word [] some e = absurd (some (ap length e))
is_word word (b ∷ bs) some e = e

pub is_encoding : (word bytes : List ℕ) → word ≢ codes "-" → word ≡ word_of bytes → word ≡ encode_lower bytes
is_encoding word [] other e = absurd (other e)
is_encoding word (b ∷ bs) other e = e

-- byte strings with the same word are equal
pub word_injective : (xs ys : List ℕ) → IsBytes xs → IsBytes ys → word_of xs ≡ word_of ys → xs ≡ ys
word_injective [] [] fits fits' e = refl
word_injective [] (y ∷ ys) fits fits' e = absurd (omega (arith, ap length e, length-encode_with lower_digits (y ∷ ys)))
word_injective (x ∷ xs) [] fits fits' e = absurd (omega (arith, ap length e, length-encode_with lower_digits (x ∷ xs)))
word_injective (x ∷ xs) (y ∷ ys) fits fits' e =
    ap (λ (r : Result (List ℕ) FromHexError). result_unwrap_or r [])
    (sym (decode_of-encode_lower (x ∷ xs) fits) ∙ ap decode_of e ∙ decode_of-encode_lower (y ∷ ys) fits')
