use Rattle.std.proofs.Common.{arith}
use Rattle.iss_schedule.proofs.BadLines.PrefixesAreRead.{events_more}
use Rattle.iss_schedule.proofs.reading.read_events.Goals as goal

pub lines-preserved : goal.lines-preserved
lines-preserved c =
    let more = events_more c.args.setup.now c.args.lines.now.rest c.lines.events c.push.new.self c.in_ok-event.event
    c.lines.lines.rest c.read_event.new.lines.rest
    c.in_ok-push.ensures.ok c.lines.invariant.text c.lines.invariant.range c.in_ok-event.ensures.range
    c.in_ok-event.ensures.ok.text in
    record {
      text = more.0;
      range = more.1;
      few = omega (arith, more.2);
      read = omega (arith, more.2, c.in_ok-event.ensures.count);
    }
