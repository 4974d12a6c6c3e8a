-- An entry of the book of signed statements: who signed, and what.
use Rattle.std.specs.Prelude.{ℕ, List}

-- a statement, and the node that signed it
pub record Signed : Type 0 where
  pub by : ℕ
  pub statement : List ℕ
