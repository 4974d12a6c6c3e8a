use Rattle.hs_tree.proofs.Signers.{quorum-nodes}
use Rattle.hs_tree.proofs.laws.certificates_count_nodes.Goals as goal

pub returns-clause-count : goal.returns-clause-count
returns-clause-count c = λ quorum phase view x h. (quorum-nodes quorum phase view x h).0

pub returns-clause-different : goal.returns-clause-different
returns-clause-different c = λ quorum phase view x h. (quorum-nodes quorum phase view x h).1
