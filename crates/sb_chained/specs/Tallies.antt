-- What the code keeps of a leader's turns: the turns, and for each round the view of the first one with a full branch.
use Rattle.std.specs.Prelude.{◌≡◌, ℕ, ◌==◌, Bool, true, false, List, Option, Some, None, if◌then◌else◌}
use Rattle.std.specs.BTreeMap.{get}
use Rattle.std.specs.Ordering.{nat_cmp}
use Rattle.iss_base.specs.Lists.{first_of}
use Rattle.iss_sb.specs.declared.effects.Params.{Params}
use Rattle.sb_chained.specs.declared.turns.Turns.{Turns}
use Rattle.sb_chained.specs.Rules.{full_turn}
use Rattle.hs_views.specs.Turns.{AreTurns as AreMade}
use Rattle.hs_views.specs.Views.{Turn}

-- the view kept for the round: that of its first turn with a full branch
abbrev pub full_at : Turns → ℕ → Option ℕ
full_at m round = get nat_cmp m.full round

-- the value represents the list of turns
pub record AreTurns (p : Params) (m : Turns) (ts : List Turn) : Type 0 where
  pub made : AreMade m.made ts
  pub full : (round : ℕ) → full_at m round ≡ full_turn p ts round

-- the view of a turn of this round, if its branch is full
abbrev pub when_full : Bool → ℕ → ℕ → ℕ → Option ℕ
when_full true round view r = if round == r then Some view else None
when_full false round view r = None

-- the view is kept for its round, if its branch is full and none was kept before
pub record Fills (old new : Turns) (round view : ℕ) (full : Bool) : Type 0 where
  pub made : new.made ≡ old.made
  pub each : (r : ℕ) → full_at new r ≡ first_of (full_at old r) (when_full full round view r)
