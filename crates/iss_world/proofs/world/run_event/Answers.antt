use Rattle.std.proofs.Common.{None}
use Rattle.std.proofs.lemmas.Result.{IfOk-weaker}
use Rattle.iss_rules.specs.Concrete.{rules_of}
use Rattle.iss_rules.specs.Formats.{formats_of}
use Rattle.iss_model.specs.Courses.{driver_of}
use Rattle.iss_world.proofs.WorldLemmas.{goes-ended, not-ended, stale-then}
use Rattle.iss_world.proofs.world.run_event.Goals as goal

pub returns-in_ok-happened-in-Ended-clause-happened : goal.returns-in_ok-happened-in-Ended-clause-happened
returns-in_ok-happened-in-Ended-clause-happened g c = λ p st.
    let m = g.M.Sequenced.spec in
    let s = c.args.simulation.now.setup in
    goes-ended m g.M.Sequenced.refines s (formats_of s m) (rules_of s) c.args.simulation.now c.event.new.self c.args.ended.now p c.args.event.now c.in_ok-event.field-0 c.in-Ended.end
    c.in_default.is c.in-Ended.is c.in_ok-event.ensures.happened c.in_ok-happened-in-Ended.happened c.in_ok-happened-in-Ended.ensures st

pub returns-in-Some-clause-silent : goal.returns-in-Some-clause-silent
returns-in-Some-clause-silent g c =
    IfOk-weaker c.repeat_evidence.result _ _
    (λ r told p st going. absurd (not-ended g.M.Sequenced.spec g.M.Sequenced.refines c.args.simulation.now c.args.ended.now c.in-Some.end p c.in-Some.is st going))
    c.repeat_evidence.ensures

pub returns-in-Done-clause-silent : goal.returns-in-Done-clause-silent
returns-in-Done-clause-silent g c = λ p st going.
    let m = g.M.Sequenced.spec in
    stale-then m g.M.Sequenced.refines (driver_of c.args.simulation.now.setup m) c.args.simulation.now c.event.new.self c.args.ended.now None p c.args.event.now c.in_ok-event.field-0
    c.in_ok-event.ensures.happened st going

pub returns-in-Lost-clause-silent : goal.returns-in-Lost-clause-silent
returns-in-Lost-clause-silent g c = λ p st going.
    let m = g.M.Sequenced.spec in
    stale-then m g.M.Sequenced.refines (driver_of c.args.simulation.now.setup m) c.args.simulation.now c.event.new.self c.args.ended.now None p c.args.event.now c.in_ok-event.field-0
    c.in_ok-event.ensures.happened st going

pub returns-in_ok-happened-in-Ended-clause-silent : goal.returns-in_ok-happened-in-Ended-clause-silent
returns-in_ok-happened-in-Ended-clause-silent g c = λ p st going.
    let m = g.M.Sequenced.spec in
    stale-then m g.M.Sequenced.refines (driver_of c.args.simulation.now.setup m) c.args.simulation.now c.event.new.self c.args.ended.now None p c.args.event.now c.in_ok-event.field-0
    c.in_ok-event.ensures.happened st going
