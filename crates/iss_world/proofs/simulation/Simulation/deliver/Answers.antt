use Rattle.std.proofs.Common.{sym, subst, refl, ap, ◌∙◌}
use Rattle.iss_rules.specs.Concrete.{rules_of}
use Rattle.iss_rules.specs.Formats.{formats_of}
use Rattle.iss_model.specs.Run.{cores_of}
use Rattle.iss_network.specs.Network.{Network, settled}
use Rattle.iss_model.specs.Courses.{with_packets}
use Rattle.iss_world.specs.Refines.{RefinesMachines}
use Rattle.iss_world.specs.State.{SimulationState}
use Rattle.iss_world.proofs.BookLemmas.{if-ok}
use Rattle.iss_world.proofs.CourseLemmas.{happened-delivered, renetworked}
use Rattle.iss_world.proofs.PostLemmas.{for-at}
use Rattle.iss_world.proofs.simulation.Simulation.deliver.Goals as goal

pub take-requires-clause-core : goal.take-requires-clause-core
take-requires-clause-core g c = for-at (cores_of c.self.inside.members) c.self.inside.network.packets c.args.packet c.in-Some.sent.now c.self.invariant.network.packets (sym c.in-Some.ensures)

pub take-requires-clause-standing : goal.take-requires-clause-standing
take-requires-clause-standing g c =
    let w = c.requires.0 in
    let v : SimulationState g.row.M.Denot g.row.M-Msg.Denot = record { setup = c.self.inside.members; nodes = c.self.inside.nodes.items; network = c.self.inside.network; signed = c.self.inside.signed; hashed = c.self.inside.hashed } in
    let st = subst (λ (z : SimulationState _ _). RefinesMachines g.M.Sequenced.spec g.M.Sequenced.refines z c.requires.0) (sym c.self.view_is) c.requires.1 in
    (with_packets w c.settle.new.self, renetworked g.M.Sequenced.spec g.M.Sequenced.refines v w c.settle.new.self c.settle.new.self st refl)

pub returns-clause-happened : goal.returns-clause-happened
returns-clause-happened g c =
    let v : SimulationState g.row.M.Denot g.row.M-Msg.Denot = record { setup = c.self.inside.members; nodes = c.self.inside.nodes.items; network = c.self.inside.network; signed = c.self.inside.signed; hashed = c.self.inside.hashed } in
    rw (← c.self.view_is)
    (if-ok _ _ c.take.result c.take.ensures.happened (λ r f w st.
    happened-delivered g.M.Sequenced.spec g.M.Sequenced.refines c.self.inside.members (formats_of c.self.inside.members g.M.Sequenced.spec) (rules_of c.self.inside.members) v c.take.new.self w r st c.args.packet
    c.in-Some.sent.now c.in_ok-bytes.bytes (sym c.in-Some.ensures) c.in_ok-bytes.ensures
    (f (with_packets w (settled w.held.net.network c.args.packet)) (renetworked g.M.Sequenced.spec g.M.Sequenced.refines v w c.settle.new.self (settled w.held.net.network c.args.packet) st
    (c.settle.ensures ∙ ap (λ (u : Network). settled u c.args.packet) st.network)))))
