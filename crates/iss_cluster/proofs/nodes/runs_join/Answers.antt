use Rattle.iss_cluster.proofs.EventLemmas.{joined}
use Rattle.iss_cluster.proofs.nodes.runs_join.Goals as goal

pub returns : goal.returns
returns g c = λ s me events taken. joined s g.M.Sequenced.spec me events taken
