use Rattle.std.proofs.Common.{sym}
use Rattle.iss_world.specs.State.{SimulationState}
use Rattle.iss_world.proofs.CourseLemmas.{lost-settled}
use Rattle.iss_world.proofs.simulation.Simulation.lose.Goals as goal

pub returns-in-Some-clause-happened : goal.returns-in-Some-clause-happened
returns-in-Some-clause-happened g c =
    let v : SimulationState g.row.M.Denot g.row.M-Msg.Denot = record { setup = c.self.inside.members; nodes = c.self.inside.nodes.items; network = c.self.inside.network; signed = c.self.inside.signed; hashed = c.self.inside.hashed } in
    rw (← c.self.view_is)
    (λ w st. lost-settled g.M.Sequenced.spec g.M.Sequenced.refines v w c.settle.new.self c.args.packet c.in-Some.field-0.now st (sym c.in-Some.ensures) c.settle.ensures)
