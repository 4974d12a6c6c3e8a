use Rattle.std.proofs.Common.{◌≡◌, option_copied, take}
use Rattle.pbft_views.specs.Choice.{best, certificates_of}
use Rattle.pbft_views.proofs.choosing.best_shown.Given as goal

abbrev pub invariant-loop-x : goal.invariant-loop-x
invariant-loop-x l = option_copied l.found ≡ best l.slot.0 (certificates_of (take l.x-index l.changes))
