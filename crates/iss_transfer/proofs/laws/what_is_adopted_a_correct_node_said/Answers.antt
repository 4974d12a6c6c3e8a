use Rattle.iss_transfer.proofs.AdoptionLemmas.{one-log, said-by-correct}
use Rattle.iss_transfer.proofs.laws.what_is_adopted_a_correct_node_said.Goals as goal

pub returns-clause-correct : goal.returns-clause-correct
returns-clause-correct c = λ s d log e p hashed good h. said-by-correct s d log e p hashed good h

pub returns-clause-one_log : goal.returns-clause-one_log
returns-clause-one_log c = λ s w log theirs e p hashed all h said long sep ours others. one-log s w log theirs e p hashed all h said long sep ours others
