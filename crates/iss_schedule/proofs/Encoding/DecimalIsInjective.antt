-- Words of numbers.
use Rattle.std.proofs.Common.{◌≡◌, ◌≢◌, ℕ, zero, suc, ◌<◌, ◌^◌, List, length, get_or, Ok, Err, ap, decimal, arith, subst, sym}
use Rattle.std.specs.Prelude.{Result}
use Rattle.std.specs.Result.{result_unwrap_or}
use Rattle.std.specs.Str.{IsUtf8}
use Rattle.std.specs.Str.Parse.{ParsesUnsigned}
use Rattle.std.proofs.lemmas.Fmt.{parse-decimal, IsAscii-decimal, decimal_is_IsNumeral, decimal_nonempty, first_decimal, decimal_digit, decimal_injective}
use Rattle.std.proofs.lemmas.Str.Parse.{digit_at}
use Rattle.std.proofs.lemmas.Str.{IsUtf8-from_ascii}
use Rattle.iss_schedule.specs.Reads.{IsWithin}
use Rattle.iss_schedule.specs.Words.{IsNumber}

-- what was read from a number's word is that number
pub read_same : (E : Type 0) (w : List ℕ) (m n : ℕ) → ParsesUnsigned {E = E} 64 10 w (Ok m) → n < 2 ^ 64 →
    w ≡ decimal n → m ≡ n
read_same E w m n p lt e = ap (λ (r : Result ℕ E). result_unwrap_or r 0) (parse-decimal 64 n w (Ok m) lt lt e p)

pub read_some : {E : Type 0} (w : List ℕ) (x : E) (n : ℕ) → ParsesUnsigned {E = E} 64 10 w (Err x) → n < 2 ^ 64 →
    w ≢ decimal n
read_some w x n p lt e = let r = parse-decimal 64 n w (Err x) lt lt e p in cc

-- a number's word is text
pub decimal_is_text : (w : List ℕ) (n : ℕ) → n < 2 ^ 64 → w ≡ decimal n → IsUtf8 w
decimal_is_text w n lt e = subst IsUtf8 (sym e) (IsUtf8-from_ascii (decimal n) (IsAscii-decimal n lt))

-- the word of a number has the form of a number
pub decimal_is_number : (n : ℕ) → n < 2 ^ 64 → IsNumber (decimal n)
decimal_is_number n lt = (
  (λ k at. digit_at (decimal n) k (decimal_is_IsNumeral n lt).0.1 at),
  decimal_nonempty n lt,
  single n lt,
)
  where
    single : (n : ℕ) → n < 2 ^ 64 → get_or (decimal n) 0 0 ≡ 48 → length (decimal n) ≡ 1
    single zero lt e = ap length (decimal_digit 0 (omega arith))
    single (suc n) lt e = absurd (omega (arith, first_decimal (suc n) (omega arith) lt))

-- a word of a number out of range is no word of a number in range
pub outside : (low end m n : ℕ) → m < 2 ^ 64 → end < 2 ^ 64 → (IsWithin low end m → ⊥) → IsWithin low end n →
    decimal m ≡ decimal n → ⊥
outside low end m n fits ends out within same =
    out (subst (IsWithin low end) (sym (decimal_injective m n fits (omega arith) same)) within)
