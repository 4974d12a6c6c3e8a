use Rattle.iss_node.proofs.EpochEnd.LeafIsKept.{before-there}
use Rattle.iss_node.proofs.state.NodeState.adoption.Goals as goal

pub adopt-requires-clause-whole : goal.adopt-requires-clause-whole
adopt-requires-clause-whole g c = before-there g.M.Sequenced.spec g.M.Sequenced.refines _ (rw (← c.self.view_is) at c.requires)
