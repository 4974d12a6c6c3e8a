use Rattle.iss_reply.proofs.LawLemmas.{answered-longer, reply-longer}
use Rattle.iss_reply.proofs.laws.repliers_follow_the_log.Goals as goal

pub returns-clause-answered : goal.returns-clause-answered
returns-clause-answered c = λ r log more a. answered-longer r log more a

pub returns-clause-replies : goal.returns-clause-replies
returns-clause-replies c = λ w log more q r h. reply-longer w log more q r h
