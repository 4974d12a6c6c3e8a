use Rattle.std.proofs.Common.{◌≡◌, ◌≤◌, length}
use Rattle.iss_checkpoint.specs.Tallies.{signed_below, with_vote}
use Rattle.iss_checkpoint.proofs.tallies.Tally.count.Given as goal

abbrev pub invariant-loop-node : goal.invariant-loop-node
invariant-loop-node l = (l.count ≡ length (signed_below (with_vote l.self.votes l.vote) l.vote l.node)) × (l.count ≤ l.node)
