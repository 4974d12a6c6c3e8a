-- Numbers as words: decimal digits without a sign or a leading zero.
use Rattle.std.specs.Prelude.{◌≡◌, ℕ, ◌≤◌, List, Some, decimal}
use Rattle.clap.specs.Words.{Row, Text, first_of}

-- the word spells a number in a range
-- rule: Program: A number is decimal digits, without a sign or a leading zero, in its range
pub record IsNumber (low high : ℕ) (word : Text) (n : ℕ) : Type 0 where
  pub spelled : word ≡ decimal n
  pub least : low ≤ n
  pub most : n ≤ high

-- the positional spells a number in a range
pub record IsNumberAt (rows : List Row) (id : Text) (low high n : ℕ) : Type 0 where
  pub spelled : first_of id rows ≡ Some (decimal n)
  pub least : low ≤ n
  pub most : n ≤ high
