-- Which echoes were heard, as the set that the code keeps.
use Rattle.std.specs.Prelude.{ℕ, Bool, List}
use Rattle.std.specs.BTreeSet.{contains}
use Rattle.std.specs.declared.cmp.Ordering.{Ordering}
use Rattle.sb_echo.specs.declared.echoes.Heard.{Heard}
use Rattle.sb_echo.specs.declared.echoes.Echoes.{Echoes}
use Rattle.sb_echo.specs.contracts.echoes.HeardOrd.TheImpl as heard_ord

abbrev pub order : Heard → Heard → Ordering
order = (heard_ord.ghosts).cmp

abbrev pub has : Echoes → ℕ → List ℕ → ℕ → Bool
has m s d k = contains order m.all (record { slot = s; from = k; digest = d })
