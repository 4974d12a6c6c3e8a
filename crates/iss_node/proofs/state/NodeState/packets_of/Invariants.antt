use Rattle.std.proofs.Common.{◌≡◌, take}
use Rattle.iss_model.specs.Frames.{frame_of}
use Rattle.iss_node.specs.State.{seen_early}
use Rattle.iss_rebuilt.specs.Stored.{packets_of}
use Rattle.iss_node.proofs.state.NodeState.packets_of.Given as goal

abbrev pub invariant-loop-message : goal.invariant-loop-message
invariant-loop-message g l = l.packets ≡ packets_of (frame_of l.self.setup g.M.Sequenced.spec) l.self.epoch (seen_early (take l.message-index l.early))
