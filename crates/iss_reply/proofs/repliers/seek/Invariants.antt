use Rattle.std.proofs.Common.{length, ◌-◌, ◌≡◌, ◌≤◌}
use Rattle.iss_reply.specs.Repliers.{number_at}
use Rattle.iss_reply.proofs.repliers.seek.Given as goal

abbrev pub invariant-run : goal.invariant-run
invariant-run l = (l.at.slot ≤ length l.entries) × (number_at l.entries l.at.slot l.at.place ≡ number_at l.entries l.initial.at.slot l.initial.at.place)

abbrev pub decreases-run : goal.decreases-run
decreases-run l = length l.entries - l.at.slot
