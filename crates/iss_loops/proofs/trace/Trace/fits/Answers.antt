use Rattle.std.proofs.Common.{ap, ◌++◌, ◌∷◌, [], ◌∙◌, ◌<◌, length, arith}
use Rattle.iss_loops.specs.Traces.{is_within_limits, most_trace_events}
use Rattle.iss_schedule.specs.declared.schedules.Schedule.{Schedule}
use Rattle.iss_loops.proofs.TraceLemmas.{limits}
use Rattle.iss_loops.proofs.trace.Trace.fits.Goals as goal

pub returns-then-len-lt-MOST_EVENTS : goal.returns-then-len-lt-MOST_EVENTS
returns-then-len-lt-MOST_EVENTS c =
    let len = c.len.ensures in let lt = c.if-len-lt-MOST_EVENTS.true in
    let few : length c.self.inside.schedule.events < most_trace_events = omega (arith, len, lt) in
    limits c.self.inside.schedule.setup c.self.inside.schedule.events c.args.event.now c.self.inside.bytes c.line_length.result c.self.invariant c.line_length.ensures.same few
    ∙ ap (λ (s : Schedule). is_within_limits s.setup (s.events ++ c.args.event.now ∷ [])) c.self.view_is
