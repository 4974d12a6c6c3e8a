-- Why a run ends early: a claim of a correct node that it never made, or two different strings with one digest. Either
-- is evidence that a cryptographic assumption failed.
use Rattle.std.specs.Prelude.{ℕ, List}
use Rattle.iss_sb.specs.declared.effects.Claim.{Claim}

-- The evidence that stops a run: a valid signature of a correct node that the node never made, or two different strings
-- with one digest (`first` was hashed earlier).
pub data End : Type 0 where
  Forged : (claim : Claim) → End
  Collision : (first second : List ℕ) → End
