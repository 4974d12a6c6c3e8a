use Rattle.std.proofs.Common.{◌≡◌, ℕ, ◌<◌, slice_get}
use Rattle.std.specs.Prelude.{Some}
use Rattle.iss_keys.proofs.digests.find_digest.Given as goal

-- the string is not among the places visited so far
abbrev pub invariant-places : goal.invariant-places
invariant-places l = (k : ℕ) → k < l.place-index → slice_get l.digests k ≡ Some (Some l.string) → ⊥
