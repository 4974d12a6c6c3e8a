use Rattle.std.proofs.Common.{◌≡◌, None, take}
use Rattle.iss_theorems.specs.Headline.{course_after}
use Rattle.iss_replay.specs.Refines.{ReportRefinesRun}
use Rattle.iss_replay.proofs.replays.play.Given as goal

abbrev pub invariant-loop-place : goal.invariant-loop-place
invariant-loop-place g l = record {
  run : ReportRefinesRun g.M.Sequenced.spec g.M.Sequenced.refines l.world l.drops None (course_after l.schedule.setup g.M.Sequenced.spec (take l.place l.schedule.events));
  number : (course_after l.schedule.setup g.M.Sequenced.spec (take l.place l.schedule.events)).event ≡ l.place;
  same : l.world.simulation.setup ≡ l.schedule.setup;
}
