use Rattle.std.proofs.Common.{◌≡◌, ◌++◌, Some, true}
use Rattle.iss_model.specs.Frames.{frame_of}
use Rattle.iss_model.specs.Node.{Core}
use Rattle.iss_node.specs.Internal.Rebuilding.{AreTaken}
use Rattle.iss_node.specs.State.{StateRefinesCore}
use Rattle.iss_node.specs.Steps.{IsSameNode}
use Rattle.iss_rebuilt.specs.Reading.{takes_votes}
use Rattle.iss_node.proofs.state.NodeState.take_votes.Given as goal

abbrev pub invariant-loop-vote : goal.invariant-loop-vote
invariant-loop-vote g l = record {
  taken : (c : Core g.row.M-Msg.Denot) → StateRefinesCore g.M.Sequenced.spec g.M.Sequenced.refines l.fn.self c →
      AreTaken g.M.Sequenced.spec g.M.Sequenced.refines (takes_votes (frame_of l.fn.self.setup g.M.Sequenced.spec) l.yielded (Some c)) l.self true;
  same : IsSameNode l.fn.self l.self;
  whole : l.fn.votes ≡ l.yielded ++ l.vote-iterator.rest.items;
}
