use Rattle.std.proofs.Common.{◌≡◌, ◌++◌}
use Rattle.iss_model.specs.Node.{Turn}
use Rattle.iss_node.proofs.EpochEnd.StepCompletes.{Owes}
use Rattle.iss_node.specs.Internal.Ready.{IsOpen}
use Rattle.iss_node.specs.Internal.Shape.{AreFrom}
use Rattle.iss_node.specs.Steps.{IsLater, IsTurned}
use Rattle.iss_node.proofs.state.NodeState.take_each.Given as goal

abbrev pub invariant-loop-message : goal.invariant-loop-message
invariant-loop-message g l = record {
  owes : (t : Turn g.row.M-Msg.Denot) → IsTurned g.M.Sequenced.spec g.M.Sequenced.refines t l.fn.self l.fn.outcome →
      Owes g.M.Sequenced.spec g.M.Sequenced.refines l.fn.self l.self l.all l.yielded t;
  later : IsLater l.fn.self l.self;
  from : AreFrom l.fn.self.setup.n l.message-iterator.rest.items;
  lasts : IsOpen g.M.Sequenced.spec g.M.Sequenced.refines l.self;
  whole : l.fn.early.items ≡ l.yielded ++ l.message-iterator.rest.items;
}
