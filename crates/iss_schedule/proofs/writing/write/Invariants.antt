use Rattle.std.proofs.Common.{◌≡◌, ◌++◌, map, take}
use Rattle.iss_schedule.specs.Events.{spell_event}
use Rattle.iss_schedule.specs.Schedules.{header_lines}
use Rattle.iss_schedule.specs.Words.{ended}
use Rattle.iss_schedule.proofs.writing.write.Given as goal

abbrev pub invariant-loop-event : goal.invariant-loop-event
invariant-loop-event l = l.out.items
    ≡ ended (header_lines l.schedule.setup ++ map spell_event (take l.event-index l.event-items))
