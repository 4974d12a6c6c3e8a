use Rattle.std.proofs.Common.{reverse, take}
use Rattle.iss_answers.specs.Internal.Short.{IsLeastOf}
use Rattle.iss_answers.proofs.printing.short_of.Given as goal

abbrev pub invariant-loop-reply : goal.invariant-loop-reply
invariant-loop-reply l = IsLeastOf l.client.cluster (reverse l.replies) (take l.reply-index l.replies) l.least
