use Rattle.std.proofs.Common.{◌<◌, length, arith, ap, refl}
use Rattle.std.proofs.lemmas.Option.{slice_get_read}
use Rattle.iss_model.specs.Run.{cores_of}
use Rattle.iss_world.specs.State.{SimulationState}
use Rattle.iss_world.proofs.OverLemmas.{fused-over}
use Rattle.iss_world.proofs.StepLemmas.{crashed, same-network, still-running}
use Rattle.iss_world.proofs.simulation.Simulation.crash.Goals as goal

pub invariant_of-self : goal.invariant_of-self
invariant_of-self g c =
    let v : SimulationState g.row.M.Denot g.row.M-Msg.Denot = record { setup = c.self.inside.members; nodes = c.self.inside.nodes.items; network = c.self.inside.network; signed = c.self.inside.signed; hashed = c.self.inside.hashed } in
    let lt : c.args.core < length c.self.inside.nodes.items = omega (arith, ap (λ (z : SimulationState _ _). cores_of z.setup) c.self.view_is, c.self.invariant.count) in
    let at = slice_get_read c.self.inside.nodes.items _ c.args.core c.index_mut.result.now refl lt c.index_mut.ensures.value in
    still-running g.M.Sequenced.spec g.M.Sequenced.refines v c.args.core c.index_mut.result.now c.fuse.new.self c.self.inside.network c.self.inside.signed c.self.inside.hashed c.self.invariant lt at c.fuse.ensures.only.same
    (same-network g.M.Sequenced.spec g.M.Sequenced.refines v c.self.invariant)

pub returns-clause-happened : goal.returns-clause-happened
returns-clause-happened g c =
    let v : SimulationState g.row.M.Denot g.row.M-Msg.Denot = record { setup = c.self.inside.members; nodes = c.self.inside.nodes.items; network = c.self.inside.network; signed = c.self.inside.signed; hashed = c.self.inside.hashed } in
    let lt : c.args.core < length c.self.inside.nodes.items = omega (arith, ap (λ (z : SimulationState _ _). cores_of z.setup) c.self.view_is, c.self.invariant.count) in
    let at = slice_get_read c.self.inside.nodes.items _ c.args.core c.index_mut.result.now refl lt c.index_mut.ensures.value in
    rw (← c.self.view_is) (λ w st.
    crashed g.M.Sequenced.spec g.M.Sequenced.refines v c.args.core c.index_mut.result.now c.fuse.new.self c.self.invariant lt at w c.args.calls st
    (fused-over g.M.Sequenced.spec g.M.Sequenced.refines c.index_mut.result.now c.fuse.new.self c.fuse.ensures.only.same (w.held.net.cores c.args.core) (w.disks c.args.core) c.args.calls
    (st.cores c.args.core c.index_mut.result.now at) c.fuse.ensures.disk.passes c.fuse.ensures.only.node c.fuse.ensures.only.entries c.fuse.ensures.stale c.fuse.ensures.disk.same))
