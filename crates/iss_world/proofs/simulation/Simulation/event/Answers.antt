use Rattle.std.proofs.Common.{◌≡◌, ◌∙◌, Ok, ap, false, subst, sym, true}
use Rattle.iss_model.specs.Courses.{driver_of}
use Rattle.iss_network.specs.Network.{Network, cleared, held_to}
use Rattle.iss_rules.specs.Concrete.{rules_of}
use Rattle.iss_rules.specs.Formats.{formats_of}
use Rattle.iss_schedule.specs.Events.{IsInRange}
use Rattle.iss_schedule.specs.declared.schedules.Event.{Event}
use Rattle.iss_world.specs.State.{SimulationState}
use Rattle.iss_world.specs.declared.ends.EventOutcome.TheVariants.{Done}
use Rattle.iss_world.proofs.BookLemmas.{if-ok}
use Rattle.iss_world.proofs.CourseLemmas.{at-event, happened-asked, happened-injected, netted, not-stopping, once-pumped}
use Rattle.iss_world.proofs.simulation.Simulation.event.Goals as goal

pub returns-in_ok-packet-in-Request-clause-happened : goal.returns-in_ok-packet-in-Request-clause-happened
returns-in_ok-packet-in-Request-clause-happened g c =
    let s = c.args.self.now.setup in
    at-event g.M.Sequenced.spec g.M.Sequenced.refines c.args.self.now c.take.new.self c.take.result c.args.event.now _ c.in-Request.is
    (if-ok _ _ c.take.result c.take.ensures.happened (λ r f w st.
    happened-asked g.M.Sequenced.spec g.M.Sequenced.refines s (formats_of s g.M.Sequenced.spec) (rules_of s) c.args.self.now c.take.new.self w r st c.self.inside.members c.in-Request.core
    c.in-Request.client c.in-Request.number c.in-Request.payload c.in_ok-packet-in-Request.packet (ap (λ (z : SimulationState _ _). z.setup) c.self.view_is) c.in_ok-packet-in-Request.ensures (f w st)))

pub returns-in-Propose-clause-happened : goal.returns-in-Propose-clause-happened
returns-in-Propose-clause-happened g c =
    at-event g.M.Sequenced.spec g.M.Sequenced.refines c.args.self.now c.take-in-Propose.new.self c.take-in-Propose.result c.args.event.now _ c.in-Propose.is c.take-in-Propose.ensures.happened

pub returns-in-Timeout-clause-happened : goal.returns-in-Timeout-clause-happened
returns-in-Timeout-clause-happened g c =
    at-event g.M.Sequenced.spec g.M.Sequenced.refines c.args.self.now c.take-in-Timeout.new.self c.take-in-Timeout.result c.args.event.now _ c.in-Timeout.is c.take-in-Timeout.ensures.happened

pub returns-in-Ask-clause-happened : goal.returns-in-Ask-clause-happened
returns-in-Ask-clause-happened g c =
    at-event g.M.Sequenced.spec g.M.Sequenced.refines c.args.self.now c.take-in-Ask.new.self c.take-in-Ask.result c.args.event.now _ c.in-Ask.is c.take-in-Ask.ensures.happened

pub returns-in-Deliver-clause-happened : goal.returns-in-Deliver-clause-happened
returns-in-Deliver-clause-happened g c =
    at-event g.M.Sequenced.spec g.M.Sequenced.refines c.args.self.now c.deliver.new.self c.deliver.result c.args.event.now _ c.in-Deliver.is c.deliver.ensures.happened

pub returns-in-Pump-clause-happened : goal.returns-in-Pump-clause-happened
returns-in-Pump-clause-happened g c =
    at-event g.M.Sequenced.spec g.M.Sequenced.refines c.args.self.now c.calm.new.self c.calm.result c.args.event.now _ c.in-Pump.is
    (if-ok _ _ c.calm.result c.calm.ensures.happened (λ r f w st.
    once-pumped g.M.Sequenced.spec g.M.Sequenced.refines (driver_of c.args.self.now.setup g.M.Sequenced.spec) c.calm.new.self w r (f w st)))

pub returns-in-Calm-clause-happened : goal.returns-in-Calm-clause-happened
returns-in-Calm-clause-happened g c =
    at-event g.M.Sequenced.spec g.M.Sequenced.refines c.args.self.now c.calm-in-Calm.new.self c.calm-in-Calm.result c.args.event.now _ c.in-Calm.is c.calm-in-Calm.ensures.happened

pub returns-in-Restart-clause-happened : goal.returns-in-Restart-clause-happened
returns-in-Restart-clause-happened g c =
    at-event g.M.Sequenced.spec g.M.Sequenced.refines c.args.self.now c.restart.new.self c.restart.result c.args.event.now _ c.in-Restart.is c.restart.ensures.happened

pub returns-in-Hold-clause-happened : goal.returns-in-Hold-clause-happened
returns-in-Hold-clause-happened g c =
    let v : SimulationState g.row.M.Denot g.row.M-Msg.Denot = record { setup = c.self-in-Hold.inside.members; nodes = c.self-in-Hold.inside.nodes.items; network = c.self-in-Hold.inside.network; signed = c.self-in-Hold.inside.signed; hashed = c.self-in-Hold.inside.hashed } in
    rw (← c.self-in-Hold.view_is)
    (at-event g.M.Sequenced.spec g.M.Sequenced.refines v (record v { network = c.hold.new.self }) (Ok Done) c.args.event.now _ c.in-Hold.is
    (λ w st. netted g.M.Sequenced.spec g.M.Sequenced.refines v w c.hold.new.self (held_to w.held.net.network c.in-Hold.core true) st
    (c.hold.ensures ∙ ap (λ (u : Network). held_to u c.in-Hold.core true) st.network)))

pub returns-in-Free-clause-happened : goal.returns-in-Free-clause-happened
returns-in-Free-clause-happened g c =
    let v : SimulationState g.row.M.Denot g.row.M-Msg.Denot = record { setup = c.self-in-Free.inside.members; nodes = c.self-in-Free.inside.nodes.items; network = c.self-in-Free.inside.network; signed = c.self-in-Free.inside.signed; hashed = c.self-in-Free.inside.hashed } in
    rw (← c.self-in-Free.view_is)
    (at-event g.M.Sequenced.spec g.M.Sequenced.refines v (record v { network = c.free.new.self }) (Ok Done) c.args.event.now _ c.in-Free.is
    (λ w st. netted g.M.Sequenced.spec g.M.Sequenced.refines v w c.free.new.self (held_to w.held.net.network c.in-Free.core false) st
    (c.free.ensures ∙ ap (λ (u : Network). held_to u c.in-Free.core false) st.network)))

pub returns-in-Drop-clause-happened : goal.returns-in-Drop-clause-happened
returns-in-Drop-clause-happened g c =
    let v : SimulationState g.row.M.Denot g.row.M-Msg.Denot = record { setup = c.self-in-Drop.inside.members; nodes = c.self-in-Drop.inside.nodes.items; network = c.self-in-Drop.inside.network; signed = c.self-in-Drop.inside.signed; hashed = c.self-in-Drop.inside.hashed } in
    rw (← c.self-in-Drop.view_is)
    (at-event g.M.Sequenced.spec g.M.Sequenced.refines v (record v { network = c.drop_for.new.self }) (Ok Done) c.args.event.now _ c.in-Drop.is
    (λ w st. netted g.M.Sequenced.spec g.M.Sequenced.refines v w c.drop_for.new.self (cleared w.held.net.network c.in-Drop.core) st
    (c.drop_for.ensures ∙ ap (λ (u : Network). cleared u c.in-Drop.core) st.network)))

pub returns-in_ok-copy-in-Bytes-clause-happened : goal.returns-in_ok-copy-in-Bytes-clause-happened
returns-in_ok-copy-in-Bytes-clause-happened g c =
    let s = c.args.self.now.setup in
    let range = subst (λ (e : Event). IsInRange s e) c.in-Bytes.is c.requires.range in
    let running : g.M.Sequenced.spec.stopping ≡ false =
    not-stopping g.M.Sequenced.spec.stopping (sym (ap (λ (v : SimulationState _ _). v.setup.kind) c.self-in-Bytes.view_is ∙ range.0) ∙ c.self-in-Bytes.invariant.good.kind) in
    at-event g.M.Sequenced.spec g.M.Sequenced.refines c.args.self.now c.take-in-Bytes.new.self c.take-in-Bytes.result c.args.event.now _ c.in-Bytes.is
    (if-ok _ _ c.take-in-Bytes.result c.take-in-Bytes.ensures.happened (λ r f w st.
    happened-injected g.M.Sequenced.spec g.M.Sequenced.refines s (formats_of s g.M.Sequenced.spec) (rules_of s) c.args.self.now c.take-in-Bytes.new.self w r st c.in-Bytes.core c.in-Bytes.bytes c.in_ok-copy-in-Bytes.field-0 running c.in_ok-copy-in-Bytes.ensures (f w st)))
