use Rattle.std.proofs.Common.{◌++◌, List, map, ap, ◌∙◌, arith}
use Rattle.iss_schedule.specs.declared.schedules.Event.{Event}
use Rattle.iss_schedule.specs.Events.{spell_event}
use Rattle.iss_schedule.specs.Schedules.{header_lines}
use Rattle.iss_schedule.specs.Words.{ended}
use Rattle.iss_schedule.proofs.Encoding.TextIsWritten.{event_after, events_all}
use Rattle.iss_schedule.proofs.writing.write.Goals as goal

pub loop-event-preserved : goal.loop-event-preserved
loop-event-preserved c =
    event_after (header_lines c.args.schedule.now.setup) c.as_slice-event-items.result.now c.loop-event.event-index
    c.event-item.result c.loop-event.out.items c.put_event.new.out.items c.put.new.out.items
    (omega arith) c.event-item.is c.loop-event.invariant c.in_ok-put_event.ensures c.in_ok-put.ensures

pub returns : goal.returns
returns c =
    events_all (header_lines c.args.schedule.now.setup) c.as_slice-event-items.result.now c.loop-event.event-index
    c.loop-event.out.items c.of.result (omega arith) c.loop-event.invariant c.of.ensures
    ∙ ap (λ (es : List Event). ended (header_lines c.args.schedule.now.setup ++ map spell_event es))
    c.as_slice-event-items.ensures
