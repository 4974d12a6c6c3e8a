use Rattle.iss_reply.proofs.LawLemmas.{own-reply, own-signed}
use Rattle.iss_reply.proofs.laws.replies_are_their_nodes.Goals as goal

pub returns-clause-own : goal.returns-clause-own
returns-clause-own c = λ s me q log r h. own-reply s me q log r h

pub returns-clause-signed : goal.returns-clause-signed
returns-clause-signed c = λ s me q log r below high lt h. own-signed s me q log r below high lt h
