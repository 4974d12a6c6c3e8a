use Rattle.std.proofs.Common.{◌<◌, ◌∙◌, ℕ, length, take, arith, ap, refl}
use Rattle.std.proofs.lemmas.Option.{slice_get_read}
use Rattle.iss_model.specs.Run.{cores_of}
use Rattle.iss_world.specs.State.{SimulationState}
use Rattle.iss_world.proofs.StepLemmas.{forged-left, same-network, still-running}
use Rattle.iss_world.proofs.simulation.Simulation.stop_at.Goals as goal

pub invariant_of-self : goal.invariant_of-self
invariant_of-self g c =
    let v : SimulationState g.row.M.Denot g.row.M-Msg.Denot = record { setup = c.self.inside.members; nodes = c.self.inside.nodes.items; network = c.self.inside.network; signed = c.self.inside.signed; hashed = c.self.inside.hashed } in
    let lt : c.args.core < length c.self.inside.nodes.items = omega (arith, ap (λ (z : SimulationState _ _). cores_of z.setup) c.self.view_is, c.self.invariant.count) in
    let at = slice_get_read c.self.inside.nodes.items _ c.args.core c.index_mut-node.result.now refl lt c.index_mut-node.ensures.value in
    still-running g.M.Sequenced.spec g.M.Sequenced.refines v c.args.core c.index_mut-node.result.now c.retreat.new.self c.self.inside.network c.self.inside.signed c.self.inside.hashed c.self.invariant lt at c.retreat.ensures.same
    (same-network g.M.Sequenced.spec g.M.Sequenced.refines v c.self.invariant)

pub returns-clause-left : goal.returns-clause-left
returns-clause-left g c =
    let v : SimulationState g.row.M.Denot g.row.M-Msg.Denot = record { setup = c.self.inside.members; nodes = c.self.inside.nodes.items; network = c.self.inside.network; signed = c.self.inside.signed; hashed = c.self.inside.hashed } in
    let lt : c.args.core < length c.self.inside.nodes.items = omega (arith, ap (λ (z : SimulationState _ _). cores_of z.setup) c.self.view_is, c.self.invariant.count) in
    let at = slice_get_read c.self.inside.nodes.items _ c.args.core c.index_mut-node.result.now refl lt c.index_mut-node.ensures.value in
    rw (← c.self.view_is) (λ w st.
    forged-left g.M.Sequenced.spec g.M.Sequenced.refines v w c.args.core c.index_mut-node.result.now c.retreat.new.self c.self.invariant lt st at
    (c.retreat.ensures.log ∙ ap (λ (k : ℕ). take k c.index_mut-node.result.now.node.state.log.entries) c.savepoint_of-held.ensures.slots)
    (c.retreat.ensures.epoch ∙ c.savepoint_of-held.ensures.epoch) c.retreat.ensures.stale c.retreat.ensures.journal.1 c.retreat.ensures.same)
