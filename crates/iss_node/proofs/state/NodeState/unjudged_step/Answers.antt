use Rattle.std.proofs.Common.{◌≡◌, Ok, Result, subst}
use Rattle.std.proofs.lemmas.Result.{IfOk-weaker}
use Rattle.iss_node.proofs.Instances.InputKeepsInvariant.{good-input, input-taken, leads-there, no-leaves, placed, same-shape}
use Rattle.iss_node.specs.Internal.Inputs.{IsInputTaken}
use Rattle.iss_sb.specs.declared.effects.Effects.{Effects}
use Rattle.iss_sb.specs.declared.effects.StepError.{StepError}
use Rattle.iss_segment.specs.Answers.{IsInstanceStep}
use Rattle.iss_node.proofs.state.NodeState.unjudged_step.Goals as goal

pub take-stepped-requires : goal.take-stepped-requires
take-stepped-requires g c = good-input c.self.inside.setup c.in-Some.segment.params c.args.input (placed g.M.Sequenced.spec g.M.Sequenced.refines _ c.self.invariant c.args.leader.0 (rw (← c.self.view_is) at c.requires.leader) c.in-Some.segment c.index_mut.result.now c.index_mut.ensures.value c.in-Some.is).setup (rw (← c.self.view_is) at c.requires.input)

pub unreachable-requires : goal.unreachable-requires
unreachable-requires g c =
    let has = rw (← c.self.view_is) at c.requires.leaves in
    leads-there g.M.Sequenced.spec _ c.self.invariant c.args.leader.0 c.index_mut.result.now (rw (← c.self.view_is) at c.requires.leader) c.index_mut.ensures.value c.in_default.is has.leads

pub invariant_of-self : goal.invariant_of-self
invariant_of-self g c = same-shape g.M.Sequenced.spec g.M.Sequenced.refines _ c.self.invariant c.args.leader.0 (rw (← c.self.view_is) at c.requires.leader) c.in-Some.segment c.index_mut.result.now c.index_mut.ensures.value c.in-Some.is c.take-stepped.new.self c.take-stepped.new.keys c.take-stepped.ensures.same

pub with_leaves-requires : goal.with_leaves-requires
with_leaves-requires g c = λ is.
    no-leaves g.M.Sequenced.spec g.M.Sequenced.refines _ c.self.invariant c.args.leader.0 (rw (← c.self.view_is) at c.requires.leader) c.in-Some.segment c.index_mut.result.now c.index_mut.ensures.value c.in-Some.is c.take-stepped.new.self c.take-stepped.new.keys
    (rw (← c.self.view_is) at c.requires.leaves)
    (subst (λ (r : Result (Effects g.row.M-Msg.Denot) StepError). IsInstanceStep g.M.Sequenced.spec g.M.Sequenced.refines c.in-Some.segment c.take-stepped.new.self c.args.input c.self.inside.keys c.take-stepped.new.keys r) is c.take-stepped.ensures.step)

pub returns-clause-taken : goal.returns-clause-taken
returns-clause-taken g c =
    let m = g.M.Sequenced.spec in
    rw (← c.self.view_is)
    (IfOk-weaker c.with_leaves.result
    (λ e. c.take-stepped.result ≡ Ok e)
    (λ e. IsInputTaken m g.M.Sequenced.refines _ _ c.args.leader.0 c.args.input e)
    (λ e is. input-taken m g.M.Sequenced.refines _ c.self.invariant c.args.leader.0 (rw (← c.self.view_is) at c.requires.leader) c.in-Some.segment c.index_mut.result.now c.index_mut.ensures.value c.in-Some.is c.take-stepped.new.self c.take-stepped.new.keys c.args.input e
    (subst (λ (r : Result (Effects g.row.M-Msg.Denot) StepError). IsInstanceStep m g.M.Sequenced.refines c.in-Some.segment c.take-stepped.new.self c.args.input c.self.inside.keys c.take-stepped.new.keys r) is c.take-stepped.ensures.step))
    c.with_leaves.ensures)
