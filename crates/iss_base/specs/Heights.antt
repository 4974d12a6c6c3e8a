-- Heights of keys, and how long a signature is. A key of height h has 2 ^ h one-time leaves. Up to height 12 they are
-- under one tree. A taller key has two levels: a top tree, and a bottom tree of height 10 under each of its leaves.
use Rattle.std.specs.Prelude.{ℕ, ◌+◌, ◌*◌, ◌≤◌, Bool, nat_le, nat_lt, ◌&&◌, if◌then◌else◌}

-- the heights that a key may have
-- rule: Signatures: A key's height is from 2 to 20
abbrev pub IsHeight : ℕ → Type 0
IsHeight h = (2 ≤ h) × (h ≤ 20)

abbrev pub is_height : ℕ → Bool
is_height h = nat_le 2 h && nat_le h 20

-- whether a key of this height has two levels
abbrev pub has_two_levels : ℕ → Bool
has_two_levels h = nat_lt 12 h

-- How many digests a signature has: 67 values of chains and a sibling for each level of a tree. With two levels that
-- is 67 + 10 under the bottom tree, and 67 + (h - 10) under the top tree.
unfoldable pub digests_of_height : ℕ → ℕ
digests_of_height h = if has_two_levels h then 134 + h else 67 + h

-- the length of a signature: the height (1 byte), the leaf's number (4), and the digests
abbrev pub signature_length : ℕ → ℕ
signature_length h = 5 + 32 * digests_of_height h
