use Rattle.std.proofs.Common.{◌<◌, length, arith, ap, refl}
use Rattle.std.proofs.lemmas.Option.{slice_get_read}
use Rattle.iss_model.specs.Run.{cores_of}
use Rattle.iss_world.specs.State.{SimulationState}
use Rattle.iss_world.proofs.StepLemmas.{shown-shows}
use Rattle.iss_world.proofs.simulation.Simulation.node.Goals as goal

pub returns-clause-at : goal.returns-clause-at
returns-clause-at g c =
    let lt : c.args.core < length c.self.inside.nodes.items = omega (arith, ap (λ (z : SimulationState _ _). cores_of z.setup) c.self.view_is, c.self.invariant.count) in
    rw (← c.self.view_is) (slice_get_read c.self.inside.nodes.items _ c.args.core c.index.result.now refl lt c.index.ensures)

pub returns-clause-shown : goal.returns-clause-shown
returns-clause-shown g c =
    let v : SimulationState g.row.M.Denot g.row.M-Msg.Denot = record { setup = c.self.inside.members; nodes = c.self.inside.nodes.items; network = c.self.inside.network; signed = c.self.inside.signed; hashed = c.self.inside.hashed } in
    let lt : c.args.core < length c.self.inside.nodes.items = omega (arith, ap (λ (z : SimulationState _ _). cores_of z.setup) c.self.view_is, c.self.invariant.count) in
    let at = slice_get_read c.self.inside.nodes.items _ c.args.core c.index.result.now refl lt c.index.ensures in
    rw (← c.self.view_is) (λ w k. shown-shows g.M.Sequenced.spec g.M.Sequenced.refines v w c.self.invariant k c.args.core c.index.result.now at)

pub returns-clause-same : goal.returns-clause-same
returns-clause-same g c =
    let lt : c.args.core < length c.self.inside.nodes.items = omega (arith, ap (λ (z : SimulationState _ _). cores_of z.setup) c.self.view_is, c.self.invariant.count) in
    let at = slice_get_read c.self.inside.nodes.items _ c.args.core c.index.result.now refl lt c.index.ensures in
    rw (← c.self.view_is) (c.self.invariant.setups c.args.core c.index.result.now at, c.self.invariant.places c.args.core c.index.result.now at)
