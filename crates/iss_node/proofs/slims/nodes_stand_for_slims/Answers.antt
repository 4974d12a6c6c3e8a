use Rattle.iss_node.proofs.Steps.SlimCoresRefine.{refines-same}
use Rattle.iss_node.proofs.slims.nodes_stand_for_slims.Goals as goal

pub returns : goal.returns
returns g c = λ v c' d h placed same. refines-same g.M.Sequenced.spec g.M.Sequenced.refines v c' d h placed same
