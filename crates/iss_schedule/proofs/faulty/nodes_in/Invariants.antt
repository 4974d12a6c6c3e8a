use Rattle.std.proofs.Common.{◌≡◌, ◌+◌, ◌++◌, length}
use Rattle.iss_request.specs.Setup.{AreAscendingBelow}
use Rattle.iss_schedule.specs.Headers.{node_words}
use Rattle.iss_schedule.proofs.HeaderTable.LineDeterminesFaultyNodes.{after}
use Rattle.iss_schedule.proofs.faulty.nodes_in.Given as goal

abbrev pub invariant-loop-word : goal.invariant-loop-word
invariant-loop-word l = record {
  text : l.initial.words ≡ node_words l.nodes ++ l.words;
  ascending : AreAscendingBelow 0 l.bounds.n l.nodes;
  from : l.from ≡ after 0 l.nodes;
  left : l.left + length l.nodes ≡ l.bounds.most;
}

abbrev pub decreases-loop-word : goal.decreases-loop-word
decreases-loop-word l = length l.words
