use Rattle.std.proofs.Common.{◌≡◌, Some, take}
use Rattle.iss_model.specs.Frames.{frame_of}
use Rattle.iss_node.specs.Internal.Shape.{AreFrom}
use Rattle.iss_node.specs.State.{seen_early}
use Rattle.iss_rebuilt.specs.Reading.{early_each}
use Rattle.iss_node.proofs.state.NodeState.messages_in.Given as goal

abbrev pub invariant-loop-packet : goal.invariant-loop-packet
invariant-loop-packet g l = record {
  read : early_each (frame_of l.self.setup g.M.Sequenced.spec) l.self.epoch (take l.packet-index l.packets) ≡ Some (seen_early l.early.items);
  from : AreFrom l.self.setup.n l.early.items;
}
