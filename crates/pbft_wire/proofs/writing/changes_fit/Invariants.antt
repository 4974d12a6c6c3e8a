use Rattle.std.proofs.Common.{◌≡◌, drop}
use Rattle.pbft_wire.specs.Certificates.{after_node}
use Rattle.pbft_wire.specs.Messages.{fits_changes}
use Rattle.pbft_wire.proofs.writing.changes_fit.Given as goal

abbrev pub invariant-loop-change : goal.invariant-loop-change
invariant-loop-change l = fits_changes l.version 0 l.changes ≡ fits_changes l.version (after_node l.last) (drop l.change-index l.changes)
