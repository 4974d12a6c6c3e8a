use Rattle.counterexamples.proofs.VotesCountedTwice.{not-safe}
use Rattle.counterexamples.proofs.pbft.pbft_needs_distinct_voters.Goals as goal

pub returns : goal.returns
returns c = not-safe
