use Rattle.std.proofs.Common.{length}
use Rattle.iss_audit.proofs.ReadLemmas.{IsAt}
use Rattle.iss_audit.proofs.reading.read_epochs.Given as goal

abbrev pub invariant-lines : goal.invariant-lines
invariant-lines l = IsAt l.setup l.initial.lines.rest l.epochs l.values l.lines

abbrev pub decreases-lines : goal.decreases-lines
decreases-lines l = length l.lines.rest
