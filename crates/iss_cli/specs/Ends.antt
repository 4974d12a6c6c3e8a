-- What sources and sinks of bytes do. A source gives the next bytes of its input, and none only at its end; a sink
-- keeps what it was given. Each counts its failed calls, and the count never falls; a source counts the calls that gave
-- nothing. A source or sink that tells nothing about its bytes, as real files and pipes do, promises nothing about
-- them.
use Rattle.std.specs.Prelude.{◌≡◌, ◌⊎◌, ℕ, zero, suc, ◌-◌, ◌^◌, ◌≤◌, min, Option, None, Some, List, [], ◌++◌, length, take, drop}
pub use Rattle.iss_base.specs.Counts.{Rose}

-- A failure was counted. The count never falls, and it changes only if something failed.
-- rule: Program: A failure is reported only where the source or the sink counted one
pub record HasCause (before now : ℕ) (failed : Type 0) : Type 0 where
  pub never_falls : before ≤ now
  pub rose : failed → Rose before now
  pub still : ¬ failed → now ≡ before

-- P holds for the bytes, if contracts can see them.
abbrev pub IfTold : Option (List ℕ) → (List ℕ → Type 0) → Type 0
IfTold None P = Unit {0}
IfTold (Some bytes) P = P bytes

-- n of the remaining bytes were copied to the beginning of a slice. None only if none was left or the slice is empty.
pub record Taken (n : ℕ) (left : List ℕ) (left_now : Option (List ℕ)) (slice slice_now : List ℕ) : Type 0 where
  pub rest : left_now ≡ Some (drop n left)
  pub within : n ≤ length left
  pub bytes : slice_now ≡ take n left ++ drop n slice
  pub end : n ≡ 0 → (left ≡ []) ⊎ (length slice ≡ 0)

abbrev pub Takes : ℕ → Option (List ℕ) → Option (List ℕ) → List ℕ → List ℕ → Type 0
Takes n None left_now slice slice_now = left_now ≡ None
Takes n (Some left) left_now slice slice_now = Taken n left left_now slice slice_now

-- How often a source gave nothing, after a call that gave n bytes. The count stops at 2^64 - 1.
-- rule: Program: Each read but the last gives at least one byte
abbrev pub empties_after : ℕ → ℕ → ℕ
empties_after zero count = min (suc count) (2 ^ 64 - 1)
empties_after (suc n) count = count

-- At most `most` of the remaining bytes were read.
-- rule: Program: The input is read to its end, at most one byte past the limit
abbrev pub Drains : ℕ → Option (List ℕ) → Option (List ℕ) → Type 0
Drains most None left_now = left_now ≡ None
Drains most (Some left) left_now = (n : ℕ) × (n ≤ most) × (left_now ≡ Some (drop n left))

-- The first `most` of the remaining bytes were read, or all of them if there were fewer.
abbrev pub IsDrained : ℕ → Option (List ℕ) → Option (List ℕ) → Type 0
IsDrained most None left_now = left_now ≡ None
IsDrained most (Some left) left_now = left_now ≡ Some (drop most left)

-- The bytes in a sink after more were written.
abbrev pub and_more : Option (List ℕ) → List ℕ → Option (List ℕ)
and_more None bytes = None
and_more (Some held) bytes = Some (held ++ bytes)
