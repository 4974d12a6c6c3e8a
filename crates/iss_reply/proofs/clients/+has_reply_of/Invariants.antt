use Rattle.std.proofs.Common.{length}
use Rattle.iss_reply.proofs.clients.+has_reply_of.Given as goal

abbrev pub decreases-has_reply_of : goal.decreases-has_reply_of
decreases-has_reply_of l = length l.all.now
