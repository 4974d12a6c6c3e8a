use Rattle.std.proofs.Common.{◌≡◌}
use Rattle.hs_views.specs.Counts.{votes_at}
use Rattle.hs_views.proofs.ballots.Ballots.votes.Given as goal

abbrev pub invariant-loop-by : goal.invariant-loop-by
invariant-loop-by l = l.votes ≡ votes_at l.self l.by l.poll.phase l.poll.view l.poll.digest
