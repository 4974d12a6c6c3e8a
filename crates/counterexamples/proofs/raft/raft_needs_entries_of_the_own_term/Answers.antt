use Rattle.counterexamples.proofs.OlderTermsCounted.{not-safe}
use Rattle.counterexamples.proofs.raft.raft_needs_entries_of_the_own_term.Goals as goal

pub returns : goal.returns
returns c = not-safe
