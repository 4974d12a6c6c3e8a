use Rattle.std.proofs.Common.{take}
use Rattle.iss_audit.specs.Exports.{log_of}
use Rattle.iss_export.specs.Certified.{HasPrinted}
use Rattle.iss_export.proofs.printing.put_epochs.Given as goal

abbrev pub invariant-loop-epoch : goal.invariant-loop-epoch
invariant-loop-epoch l = HasPrinted (log_of (take l.epoch-index l.epochs)) l.initial.out.items l.out.items l.place
