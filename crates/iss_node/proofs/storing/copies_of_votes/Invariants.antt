use Rattle.std.proofs.Common.{◌≡◌, take}
use Rattle.iss_node.proofs.storing.copies_of_votes.Given as goal

abbrev pub invariant-loop-vote : goal.invariant-loop-vote
invariant-loop-vote l = l.copies ≡ take l.vote-index l.votes
