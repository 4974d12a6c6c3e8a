use Rattle.iss_node.proofs.Instances.InputKeepsInvariant.{good-input, judged-input, leads-there, placed, same-shape}
use Rattle.iss_node.proofs.state.NodeState.judged_step.Goals as goal

pub step-requires : goal.step-requires
step-requires g c = good-input c.self.inside.setup c.in-Some.segment.params c.args.input (placed g.M.Sequenced.spec g.M.Sequenced.refines _ c.self.invariant c.args.leader.0 (rw (← c.self.view_is) at c.requires.leader) c.in-Some.segment c.index_mut.result.now c.index_mut.ensures.value c.in-Some.is).setup (rw (← c.self.view_is) at c.requires.input)

pub invariant_of-self : goal.invariant_of-self
invariant_of-self g c = same-shape g.M.Sequenced.spec g.M.Sequenced.refines _ c.self.invariant c.args.leader.0 (rw (← c.self.view_is) at c.requires.leader) c.in-Some.segment c.index_mut.result.now c.index_mut.ensures.value c.in-Some.is c.step.new.self c.step.new.keys c.step.ensures.same

pub returns-clause-step : goal.returns-clause-step
returns-clause-step g c = rw (← c.self.view_is) (judged-input g.M.Sequenced.spec g.M.Sequenced.refines _ c.self.invariant c.args.leader.0 (rw (← c.self.view_is) at c.requires.leader) c.in-Some.segment c.index_mut.result.now c.index_mut.ensures.value c.in-Some.is c.step.new.self c.step.new.keys (rw (← c.self.view_is) at c.requires.leaves) c.args.input c.step.result c.step.ensures.step)

pub unreachable-requires : goal.unreachable-requires
unreachable-requires g c =
    let has = rw (← c.self.view_is) at c.requires.leaves in
    leads-there g.M.Sequenced.spec _ c.self.invariant c.args.leader.0 c.index_mut.result.now (rw (← c.self.view_is) at c.requires.leader) c.index_mut.ensures.value c.in_default.is has.leads
