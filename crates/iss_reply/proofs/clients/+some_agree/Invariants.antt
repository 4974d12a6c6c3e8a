use Rattle.std.proofs.Common.{length}
use Rattle.iss_reply.proofs.clients.+some_agree.Given as goal

abbrev pub decreases-some_agree : goal.decreases-some_agree
decreases-some_agree l = length l.some.now
