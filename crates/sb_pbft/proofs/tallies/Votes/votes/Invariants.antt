use Rattle.std.proofs.Common.{◌≡◌, take}
use Rattle.sb_pbft.specs.Places.{vote_at}
use Rattle.sb_pbft.specs.Rules.{voters}
use Rattle.sb_pbft.proofs.tallies.Votes.votes.Given as goal

abbrev pub invariant-loop-node : goal.invariant-loop-node
invariant-loop-node l = l.votes ≡ take l.most (voters (vote_at l.self l.view l.slot.0) l.digest 0 l.node)
