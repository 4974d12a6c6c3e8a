-- A linear congruential generator modulo 2^64, with the factor of MMIX (Knuth). Draws use the high bits of a state.
use Rattle.std.specs.Prelude.{ℕ, ◌+◌, ◌*◌, ◌/◌, ◌%◌, ◌^◌}

abbrev pub next : ℕ → ℕ
next x = (x * 6364136223846793005 + 1442695040888963407) % 2 ^ 64

-- the number below `end` that a state gives
-- rule: Lab: A draw takes the high bits of the next state
abbrev pub drawn : ℕ → ℕ → ℕ
drawn end x = (x / 2 ^ 33) % end
