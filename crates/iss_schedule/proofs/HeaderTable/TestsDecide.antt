-- What tests of numbers and fault models decide.
use Rattle.std.proofs.Common.{◌≡◌, ℕ, ◌≤◌, true, false, eqb, leb, arith}

pub is_small : (n : ℕ) → leb n 3 ≡ true → n ≤ 3
is_small n t = grind (arith)

pub is_zero : (n : ℕ) → eqb n 0 ≡ true → n ≡ 0
is_zero n t = grind (arith)

pub is_equal : (m n : ℕ) → eqb m n ≡ true → m ≡ n
is_equal m n t = grind (arith)

pub no_equal : (m n : ℕ) → eqb m n ≡ false → m ≡ n → ⊥
no_equal m n f e = grind (arith)
