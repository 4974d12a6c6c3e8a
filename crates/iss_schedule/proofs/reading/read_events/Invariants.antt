use Rattle.std.proofs.Common.{◌≡◌, ◌+◌, ◌≤◌, ◌++◌, length, map}
use Rattle.iss_schedule.specs.Events.{spell_event, AreInRange}
use Rattle.iss_schedule.specs.Schedules.{most_events}
use Rattle.iss_schedule.specs.Words.{ended}
use Rattle.iss_schedule.proofs.reading.read_events.Given as goal

abbrev pub invariant-lines : goal.invariant-lines
invariant-lines l = record {
  text : l.initial.lines.rest ≡ ended (map spell_event l.events) ++ l.lines.rest;
  range : AreInRange l.setup l.events;
  few : length l.events ≤ most_events;
  read : l.lines.read ≡ 11 + length l.events;
}

abbrev pub decreases-lines : goal.decreases-lines
decreases-lines l = length l.lines.rest
