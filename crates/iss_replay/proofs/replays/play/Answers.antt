use Rattle.std.proofs.Common.{◌<◌, ◌≤◌, ◌≡◌, ◌∙◌, sym, length, arith, List, subst, ap, get_or, take, None, Some, Option, ◌+◌}
use Rattle.iss_theorems.specs.Headline.{course_after}
use Rattle.iss_model.specs.Driver.{run_event}
use Rattle.iss_model.specs.Courses.{driver_of}
use Rattle.iss_schedule.specs.declared.schedules.Event.{Event}
use Rattle.iss_replay.specs.Refines.{ReportRefinesRun, numbered}
use Rattle.iss_replay.proofs.RunLemmas.{in-range-at, number-next, run-next, run-over, stale-on, stale-over}
use Rattle.iss_world.specs.declared.ends.Evidence.{Evidence}
use Rattle.iss_replay.proofs.replays.play.Goals as goal

pub run_event-requires : goal.run_event-requires
run_event-requires g c =
    let lt : c.loop-place.place < length c.args.schedule.now.events = omega (arith, c.loop-place-test.true, ap length c.as_slice-events.ensures) in
    in-range-at c.args.schedule.now.setup c.loop-place.world.simulation.setup c.args.schedule.now.events c.loop-place.place c.index-events-place.result c.loop-place.invariant.same c.requires.range lt
    (subst (λ (es : List Event). c.index-events-place.result ≡ get_or es c.loop-place.place c.index-events-place.result) c.as_slice-events.ensures c.index-events-place.is)

-- The event that reveals the evidence. Later events change nothing.
pub returns-in-Some-clause-run : goal.returns-in-Some-clause-run
returns-in-Some-clause-run g c =
    let m = g.M.Sequenced.spec in
    let refines = g.M.Sequenced.refines in
    let s = c.args.schedule.now.setup in
    let es = c.args.schedule.now.events in
    let i = c.loop-place.place in
    let e = c.index-events-place.result in
    let lt : i < length es = omega (arith, c.loop-place-test.true, ap length c.as_slice-events.ensures) in
    let is : e ≡ get_or es i e = subst (λ (fs : List Event). e ≡ get_or fs i e) c.as_slice-events.ensures c.index-events-place.is in
    let before = c.loop-place.invariant in
    let after = subst (λ (o : Option Evidence). ReportRefinesRun m refines c.run_event.new.world c.run_event.new.drops (numbered i o)
    (run_event (driver_of c.loop-place.world.simulation.setup m) (course_after s m (take i es)) e))
    c.in-Some.is (c.in_ok-end.ensures.went (course_after s m (take i es)) before.number before.run) in
    run-over m refines s c.run_event.new.world c.run_event.new.drops (i, c.in-Some.end) es (i + 1)
    (run-next m refines s c.loop-place.world.simulation.setup c.run_event.new.world c.run_event.new.drops (Some (i, c.in-Some.end)) es i e before.same lt is before.run.end_is after)

pub returns-in-Some-clause-silent : goal.returns-in-Some-clause-silent
returns-in-Some-clause-silent g c =
    let m = g.M.Sequenced.spec in
    let refines = g.M.Sequenced.refines in
    let s = c.args.schedule.now.setup in
    let t = c.loop-place.world.simulation.setup in
    let es = c.args.schedule.now.events in
    let i = c.loop-place.place in
    let e = c.index-events-place.result in
    let lt : i < length es = omega (arith, c.loop-place-test.true, ap length c.as_slice-events.ensures) in
    let is : e ≡ get_or es i e = subst (λ (fs : List Event). e ≡ get_or fs i e) c.as_slice-events.ensures c.index-events-place.is in
    let before = c.loop-place.invariant in
    let p = course_after s m (take i es) in
    let after = subst (λ (o : Option Evidence). ReportRefinesRun m refines c.run_event.new.world c.run_event.new.drops (numbered i o)
    (run_event (driver_of t m) p e)) c.in-Some.is (c.in_ok-end.ensures.went p before.number before.run) in
    let there = run-next m refines s t c.run_event.new.world c.run_event.new.drops (Some (i, c.in-Some.end)) es i e before.same lt is before.run.end_is after in
    stale-over m refines s t c.run_event.new.world c.in-Some.end es i e before.same lt is before.run.end_is there.end_is
    (c.in_ok-end.ensures.silent p (sym before.run.end_is) before.run.refined)

pub loop-place-preserved : goal.loop-place-preserved
loop-place-preserved g c =
    let m = g.M.Sequenced.spec in
    let refines = g.M.Sequenced.refines in
    let s = c.args.schedule.now.setup in
    let es = c.args.schedule.now.events in
    let i = c.loop-place.place in
    let e = c.index-events-place.result in
    let lt : i < length es = omega (arith, c.loop-place-test.true, ap length c.as_slice-events.ensures) in
    let is : e ≡ get_or es i e = subst (λ (fs : List Event). e ≡ get_or fs i e) c.as_slice-events.ensures c.index-events-place.is in
    let before = c.loop-place.invariant in
    let after = subst (λ (o : Option Evidence). ReportRefinesRun m refines c.run_event.new.world c.run_event.new.drops (numbered i o)
    (run_event (driver_of c.loop-place.world.simulation.setup m) (course_after s m (take i es)) e))
    c.in_default.is (c.in_ok-end.ensures.went (course_after s m (take i es)) before.number before.run) in
    record {
      run = run-next m refines s c.loop-place.world.simulation.setup c.run_event.new.world c.run_event.new.drops None es i e before.same lt is before.run.end_is after;
      number = number-next m refines s es i e lt is before.run.end_is before.number;
      same = c.in_ok-end.ensures.same ∙ before.same;
    }

pub returns-clause-silent : goal.returns-clause-silent
returns-clause-silent g c =
    let es = c.args.schedule.now.events in
    let le : length es ≤ c.loop-place.place = omega (arith, c.loop-place-test.false, ap length c.as_slice-events.ensures) in
    stale-on g.M.Sequenced.spec g.M.Sequenced.refines c.args.schedule.now.setup c.loop-place.world es c.loop-place.place le c.loop-place.invariant.run.refined c.loop-place.invariant.run.end_is
