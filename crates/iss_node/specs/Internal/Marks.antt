-- The epochs whose certificates snapshots hold, one more, and behind another mark.
use Rattle.std.specs.Prelude.{◌≡◌, ℕ, ◌==◌, cond, true}
use Rattle.iss_node.specs.Saved.{SavedState, holds}

-- The certificate of an epoch is held.
pub record HasPut (old : SavedState) (epoch : ℕ) (new : SavedState) : Type 0 where
  pub from : new.from ≡ old.from
  pub held : (e : ℕ) → holds new e ≡ cond (epoch == e) true (holds old e)

pub record HoldsTheSame (old new : SavedState) : Type 0 where
  pub from : new.from ≡ old.from
  pub held : (e : ℕ) → holds new e ≡ holds old e
