use Rattle.std.proofs.Common.{length}
use Rattle.iss_log.proofs.LogLemmas.{IsAdvancing}
use Rattle.iss_log.proofs.log.Log.advance.Given as goal

abbrev pub invariant-run : goal.invariant-run
invariant-run l = IsAdvancing l.fn.self l.self

abbrev pub decreases-run : goal.decreases-run
decreases-run l = length l.self.ahead
