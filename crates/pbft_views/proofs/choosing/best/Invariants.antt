use Rattle.std.proofs.Common.{◌≡◌, option_copied, take}
use Rattle.pbft_views.specs.Choice.{best}
use Rattle.pbft_views.proofs.choosing.best.Given as goal

abbrev pub invariant-loop-c : goal.invariant-loop-c
invariant-loop-c l = option_copied l.found ≡ best l.slot.0 (take l.c-index l.certificates)
