-- What small steps change in a list of bytes.
use Rattle.std.specs.Prelude.{◌≡◌, ℕ, ◌+◌, ◌-◌, ◌≤◌, min, List, ◌++◌, length, take, drop, Vec, vec_len, vec_capacity}

-- there is room for this number of items more
abbrev pub HasSpare : {A Z : Type 0} → ℕ → Vec A Z → Type 0
HasSpare more list = vec_len list + more ≤ vec_capacity list

-- these are the items now, and there is room for no fewer
pub record IsNow {A Z : Type 0} (now : List A) (old new : Vec A Z) : Type 0 where
  pub items : new.items ≡ now
  pub capacity : vec_capacity old ≤ vec_capacity new

-- `n` bytes from an offset on were copied into the slice, as many as there are and fit
pub record IsCopied (at : ℕ) (content old new : List ℕ) (n : ℕ) : Type 0 where
  pub count : n ≡ min (length old) (length content - at)
  pub bytes : new ≡ take n (drop at content) ++ drop n old
