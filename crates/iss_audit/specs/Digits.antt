-- Digits of lower-case hexadecimal, for private functions alone.
use Rattle.std.specs.Prelude.{◌≡◌, ℕ, nat_le, ◌&&◌, ◌||◌, ◌<◌, ◌%◌, Bool, true, List, length, EachIndex, slice_index}

-- `0` to `9` are 48 to 57, and `a` to `f` are 97 to 102
abbrev pub is_digit : ℕ → Bool
is_digit c = (nat_le 48 c && nat_le c 57) || (nat_le 97 c && nat_le c 102)

abbrev pub AreDigits : List ℕ → Type 0
AreDigits word = EachIndex word (λ k. is_digit (slice_index word k) ≡ true)

-- pairs of digits, at least one
pub record ArePairs (word : List ℕ) : Type 0 where
  pub some : 0 < length word
  pub even : length word % 2 ≡ 0
  pub digits : AreDigits word
