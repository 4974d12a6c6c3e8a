-- Facts about heights of keys.
use Rattle.std.proofs.Common.{◌≡◌, ℕ, ◌+◌, ◌<◌, ◌≤◌, ◌&&◌, Bool, true, refl}
use Rattle.std.specs.Prelude.{nat_le}
use Rattle.std.proofs.lemmas.Bool.{lt-ltb, le-ltb, le-leb, leb-true}
use Rattle.iss_base.specs.Heights.{IsHeight, is_height, digests_of_height}
use Rattle.iss_base.proofs.Lists.{and-true, both}

pub digests_of_one_tree : (h : ℕ) → h ≤ 12 → digests_of_height h ≡ 67 + h
unfolding digests_of_height
digests_of_one_tree h le = rw (le-ltb 12 h le) refl

pub digests_of_two_levels : (h : ℕ) → 12 < h → digests_of_height h ≡ 134 + h
unfolding digests_of_height
digests_of_two_levels h lt = rw (lt-ltb 12 h lt) refl

pub height-tested : (h : ℕ) → IsHeight h → is_height h ≡ true
height-tested h is = both (nat_le 2 h) (nat_le h 20) (le-leb 2 h is.0) (le-leb h 20 is.1)

pub tested-height : (h : ℕ) → is_height h ≡ true → IsHeight h
tested-height h e = let parts = and-true (nat_le 2 h) (nat_le h 20) e in (leb-true 2 h parts.0, leb-true h 20 parts.1)
