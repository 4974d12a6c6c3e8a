use Rattle.std.proofs.Common.{◌≡◌, ◌++◌, List, reverse}
use Rattle.iss_ballots.specs.Ballots.{AreKept}
use Rattle.iss_checkpoint.specs.declared.votes.Cert.{Cert}
use Rattle.iss_checkpoint.specs.declared.votes.Vote.{Vote}
use Rattle.iss_node.proofs.resuming.put_all.Given as goal

abbrev pub invariant-loop-cert : goal.invariant-loop-cert
invariant-loop-cert l = record {
  kept : (votes : List Vote) (older : List Cert) → AreKept l.fn.ballots votes older → AreKept l.ballots votes (reverse l.yielded ++ older);
  voters : l.ballots.voters ≡ l.fn.ballots.voters;
  whole : l.fn.certs ≡ l.yielded ++ l.cert-iterator.rest.items;
}
