use Rattle.std.proofs.Common.{◌∙◌, ◌-◌, ◌+◌, ◌++◌, ap, List, ℕ, ◌<◌, arith}
use Rattle.iss_schedule.specs.declared.schedules.Event.{Event}
use Rattle.iss_lab.specs.Generated.{drawn_event, drawn_events}
use Rattle.iss_lab.proofs.GeneratedLemmas.{one_more}
use Rattle.iss_lab.proofs.generating.draw_events.Goals as goal

pub loop-place-preserved : goal.loop-place-preserved
loop-place-preserved c =
    let i = c.loop-place.place in
    let x = c.loop-place.draws.state in
    let rest = drawn_events (i + 1) (c.args.count - (i + 1)) c.draw_event.new.draws.state in
    let lt : i < c.args.count = omega (arith, c.loop-place-test.true) in
    let drawn = c.in_ok-draw_event.ensures ∙ ap (λ (k : ℕ). drawn_event k x) c.from.ensures in
    record {
      rest = ap (λ (es : List Event). es ++ rest) c.in_ok-push.ensures.ok
          ∙ one_more c.loop-place.events i c.args.count x c.draw_event.new.draws.state c.in_ok-draw_event.field-0 lt drawn
          ∙ c.loop-place.invariant.rest;
    }
