use Rattle.std.proofs.Common.{subst}
use Rattle.iss_node.proofs.Instances.ChecksRefine.{input-turn}
use Rattle.iss_node.specs.Internal.Shape.{IsNodeState}
use Rattle.iss_node.specs.State.{StateView}
use Rattle.iss_node.proofs.EpochEnd.LeafIsKept.{took-leaf-ok}
use Rattle.iss_node.proofs.state.NodeState.step_unjudged.Goals as goal

pub returns-clause-taken : goal.returns-clause-taken
returns-clause-taken g c =
    let m = g.M.Sequenced.spec in
    let v = c.args.self.now in
    let shape : IsNodeState m v = subst (λ (z : StateView g.row.M.Denot g.row.M-Msg.Denot). IsNodeState m z) c.self.view_is c.self.invariant in
    input-turn m c.laws.ensures.lawful g.M.Sequenced.refines v c.unjudged_step.new.self c.apply_effects.new.self shape c.args.leader c.args.input c.in_ok-effects.effects c.apply_effects.result c.in_ok-effects.ensures.taken c.apply_effects.ensures.absorbed c.apply_effects.ensures.made c.apply_effects.ensures.hashed

pub returns-clause-leaf : goal.returns-clause-leaf
returns-clause-leaf g c =
    took-leaf-ok g.M.Sequenced.spec g.M.Sequenced.refines c.args.self.now c.unjudged_step.new.self c.apply_effects.new.self c.args.leader c.args.input c.in_ok-effects.effects c.apply_effects.result c.requires.leaves c.in_ok-effects.ensures.taken c.apply_effects.ensures.absorbed
