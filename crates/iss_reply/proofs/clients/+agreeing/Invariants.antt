use Rattle.std.proofs.Common.{length}
use Rattle.iss_reply.proofs.clients.+agreeing.Given as goal

abbrev pub decreases-agreeing : goal.decreases-agreeing
decreases-agreeing l = length l.all.now
