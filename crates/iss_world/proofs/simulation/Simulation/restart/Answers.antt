use Rattle.std.proofs.Common.{◌<◌, length, arith, ap, refl, sym, subst}
use Rattle.std.proofs.lemmas.Option.{slice_get_read}
use Rattle.iss_model.specs.Run.{cores_of}
use Rattle.iss_world.specs.Refines.{RefinesMachines}
use Rattle.iss_world.specs.State.{SimulationState}
use Rattle.iss_world.proofs.OverLemmas.{restarted-leads, same-again}
use Rattle.iss_world.proofs.StepLemmas.{remade-runs, same-network, still-running}
use Rattle.iss_world.proofs.simulation.Simulation.restart.Goals as goal

pub invariant_of-self : goal.invariant_of-self
invariant_of-self g c =
    let v : SimulationState g.row.M.Denot g.row.M-Msg.Denot = record { setup = c.self.inside.members; nodes = c.self.inside.nodes.items; network = c.self.inside.network; signed = c.self.inside.signed; hashed = c.self.inside.hashed } in
    let lt : c.args.core < length c.self.inside.nodes.items = omega (arith, ap (λ (z : SimulationState _ _). cores_of z.setup) c.self.view_is, c.self.invariant.count) in
    let at = slice_get_read c.self.inside.nodes.items _ c.args.core c.index_mut-node.result.now refl lt c.index_mut-node.ensures.value in
    still-running g.M.Sequenced.spec g.M.Sequenced.refines v c.args.core c.index_mut-node.result.now c.make_anew.new.node c.self.inside.network c.self.inside.signed c.self.inside.hashed c.self.invariant lt at
    (same-again c.index_mut-node.result.now c.restart.new.self c.make_anew.new.node c.restart.ensures.only.same c.make_anew.ensures.same) (same-network g.M.Sequenced.spec g.M.Sequenced.refines v c.self.invariant)

pub invariant_of-self-2 : goal.invariant_of-self-2
invariant_of-self-2 g c =
    let v : SimulationState g.row.M.Denot g.row.M-Msg.Denot = record { setup = c.self.inside.members; nodes = c.self.inside.nodes.items; network = c.self.inside.network; signed = c.self.inside.signed; hashed = c.self.inside.hashed } in
    let lt : c.args.core < length c.self.inside.nodes.items = omega (arith, ap (λ (z : SimulationState _ _). cores_of z.setup) c.self.view_is, c.self.invariant.count) in
    let at = slice_get_read c.self.inside.nodes.items _ c.args.core c.index_mut-node.result.now refl lt c.index_mut-node.ensures.value in
    still-running g.M.Sequenced.spec g.M.Sequenced.refines v c.args.core c.index_mut-node.result.now c.make_anew.new.node c.self.inside.network c.self.inside.signed c.self.inside.hashed c.self.invariant lt at
    (same-again c.index_mut-node.result.now c.restart.new.self c.make_anew.new.node c.restart.ensures.only.same c.make_anew.ensures.same) (same-network g.M.Sequenced.spec g.M.Sequenced.refines v c.self.invariant)

pub make_anew-requires-clause-whole : goal.make_anew-requires-clause-whole
make_anew-requires-clause-whole g c =
    let v : SimulationState g.row.M.Denot g.row.M-Msg.Denot = record { setup = c.self.inside.members; nodes = c.self.inside.nodes.items; network = c.self.inside.network; signed = c.self.inside.signed; hashed = c.self.inside.hashed } in
    let lt : c.args.core < length c.self.inside.nodes.items = omega (arith, ap (λ (z : SimulationState _ _). cores_of z.setup) c.self.view_is, c.self.invariant.count) in
    let at = slice_get_read c.self.inside.nodes.items _ c.args.core c.index_mut-node.result.now refl lt c.index_mut-node.ensures.value in
    let w = c.requires.standing.0 in
    let st = subst (λ (z : SimulationState _ _). RefinesMachines g.M.Sequenced.spec g.M.Sequenced.refines z w) (sym c.self.view_is) c.requires.standing.1 in (
      (w.disks c.args.core).kept,
      w.held.net.cores c.args.core,
      (restarted-leads g.M.Sequenced.spec g.M.Sequenced.refines c.index_mut-node.result.now c.restart.new.self c.restart.ensures.only.same (w.held.net.cores c.args.core) (w.disks c.args.core) (st.cores c.args.core c.index_mut-node.result.now at)
          c.restart.ensures.disk c.restart.ensures.only.entries c.restart.ensures.only.node),
    )

pub returns-clause-happened : goal.returns-clause-happened
returns-clause-happened g c =
    let v : SimulationState g.row.M.Denot g.row.M-Msg.Denot = record { setup = c.self.inside.members; nodes = c.self.inside.nodes.items; network = c.self.inside.network; signed = c.self.inside.signed; hashed = c.self.inside.hashed } in
    let lt : c.args.core < length c.self.inside.nodes.items = omega (arith, ap (λ (z : SimulationState _ _). cores_of z.setup) c.self.view_is, c.self.invariant.count) in
    let at = slice_get_read c.self.inside.nodes.items _ c.args.core c.index_mut-node.result.now refl lt c.index_mut-node.ensures.value in
    rw (← c.self.view_is) (λ w st.
    remade-runs g.M.Sequenced.spec g.M.Sequenced.refines v c.args.core c.index_mut-node.result.now c.make_anew.new.node c.self.invariant lt at w st
    (c.in_ok-make_anew.ensures.anew (w.disks c.args.core).kept (w.held.net.cores c.args.core) (restarted-leads g.M.Sequenced.spec g.M.Sequenced.refines c.index_mut-node.result.now c.restart.new.self c.restart.ensures.only.same (w.held.net.cores c.args.core) (w.disks c.args.core) (st.cores c.args.core c.index_mut-node.result.now at)
    c.restart.ensures.disk c.restart.ensures.only.entries c.restart.ensures.only.node)))
