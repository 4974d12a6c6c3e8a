use Rattle.std.proofs.Common.{◌∙◌, ap, sym, arith, ◌++◌, ◌∷◌, [], List}
use Rattle.iss_loops.specs.Traces.{is_within_limits, text_length}
use Rattle.iss_schedule.specs.declared.schedules.Event.{Event}
use Rattle.iss_schedule.specs.declared.schedules.Schedule.{Schedule}
use Rattle.iss_loops.proofs.TraceLemmas.{with-line, with-room}
use Rattle.iss_loops.proofs.trace.Trace.push.Goals as goal

pub overflow_cast-self : goal.overflow_cast-self
overflow_cast-self c =
    let room = with-room c.self.inside.schedule.setup c.self.inside.schedule.events c.args.event c.self.inside.bytes c.line_length-line.result c.self.invariant c.line_length-line.ensures.same
    (ap (λ (s : Schedule). is_within_limits s.setup (s.events ++ c.args.event ∷ [])) c.self.view_is ∙ c.requires) in
    omega (arith, room)

pub overflow_add-self : goal.overflow_add-self
overflow_add-self c =
    let room = with-room c.self.inside.schedule.setup c.self.inside.schedule.events c.args.event c.self.inside.bytes c.line_length-line.result c.self.invariant c.line_length-line.ensures.same
    (ap (λ (s : Schedule). is_within_limits s.setup (s.events ++ c.args.event ∷ [])) c.self.view_is ∙ c.requires) in
    omega (arith, room)

pub overflow_add-self-2 : goal.overflow_add-self-2
overflow_add-self-2 c =
    let room = with-room c.self.inside.schedule.setup c.self.inside.schedule.events c.args.event c.self.inside.bytes c.line_length-line.result c.self.invariant c.line_length-line.ensures.same
    (ap (λ (s : Schedule). is_within_limits s.setup (s.events ++ c.args.event ∷ [])) c.self.view_is ∙ c.requires) in
    omega (arith, room)

pub invariant_of-self-2 : goal.invariant_of-self-2
invariant_of-self-2 c =
    with-line c.self.inside.schedule.setup c.self.inside.schedule.events c.args.event c.self.inside.bytes c.line_length-line.result c.self.invariant c.line_length-line.ensures.same
    ∙ ap (λ (events : List Event). text_length c.self.inside.schedule.setup events) (sym c.in_ok-push.ensures.ok)
