use Rattle.std.proofs.Common.{refl, rules}
use Rattle.iss_reply.proofs.ReplierLemmas.{answered-none}
use Rattle.iss_reply.proofs.repliers.Replier.make.Goals as goal

pub returns-clause-none : goal.returns-clause-none
returns-clause-none c = λ log. answered-none _ log refl refl refl (search rules)
