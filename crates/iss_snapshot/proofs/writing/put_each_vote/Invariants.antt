use Rattle.std.proofs.Common.{◌≡◌, take}
use Rattle.std.specs.List.{flat_map}
use Rattle.iss_request.specs.Fields.{and_bytes}
use Rattle.iss_snapshot.specs.Snapshots.{vote_entry}
use Rattle.iss_snapshot.proofs.writing.put_each_vote.Given as goal

abbrev pub invariant-loop-vote : goal.invariant-loop-vote
invariant-loop-vote l = l.out ≡ and_bytes l.fn.out (flat_map vote_entry (take l.vote-index l.votes))
