use Rattle.std.proofs.Common.{◌∙◌, sym}
use Rattle.iss_node.proofs.EpochEnd.LeafIsKept.{end-there}
use Rattle.iss_node.proofs.state.NodeState.vote.Goals as goal

pub unreachable-requires : goal.unreachable-requires
unreachable-requires g c = end-there g.M.Sequenced.spec g.M.Sequenced.refines c.args.self.now c.requires (sym c.end.ensures ∙ c.in_default.is)
