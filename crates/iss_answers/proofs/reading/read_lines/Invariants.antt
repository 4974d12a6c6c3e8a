use Rattle.std.proofs.Common.{length}
use Rattle.iss_answers.proofs.ReadLemmas.{IsAt}
use Rattle.iss_answers.proofs.reading.read_lines.Given as goal

abbrev pub invariant-lines : goal.invariant-lines
invariant-lines l = IsAt l.initial.lines.rest l.replies l.lines

abbrev pub decreases-lines : goal.decreases-lines
decreases-lines l = length l.lines.rest
