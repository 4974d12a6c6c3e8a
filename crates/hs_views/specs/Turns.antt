-- How the code keeps a leader's turns: as a set, and the newest one.
use Rattle.std.specs.Prelude.{◌≡◌, ℕ, List, [], ◌∷◌, Option, Some, None}
use Rattle.std.specs.BTreeSet.{contains}
use Rattle.std.specs.declared.cmp.Ordering.{Ordering}
use Rattle.hs_views.specs.declared.turns.Last.{Last}
use Rattle.hs_views.specs.declared.turns.Own.{Own}
use Rattle.hs_views.specs.declared.turns.Turns.{Turns}
use Rattle.hs_views.specs.contracts.turns.OwnOrd.TheImpl as own_ord
use Rattle.hs_views.specs.Views.{Turn, is_own_turn}

abbrev pub own_order : Own → Own → Ordering
own_order = (own_ord.ghosts).cmp

-- a turn without its justification and content
abbrev pub own_of : Turn → Last
own_of t = record { view = t.view; digest = t.digest; slots = t.slots }

-- the newest turn
abbrev pub last_of : List Turn → Option Last
last_of [] = None
last_of (t ∷ ts) = Some (own_of t)

-- the set represents the list of turns
pub record AreTurns (m : Turns) (ts : List Turn) : Type 0 where
  pub has : (view : ℕ) (d : List ℕ) →
      contains own_order m.all (record { view = view; digest = d }) ≡ is_own_turn ts view d
  pub last : m.last ≡ last_of ts
