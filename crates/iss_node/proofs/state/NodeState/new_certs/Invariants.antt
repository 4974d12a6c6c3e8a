use Rattle.std.proofs.Common.{◌≡◌, List}
use Rattle.iss_ballots.specs.Ballots.{AreKept}
use Rattle.iss_base.specs.Lists.{below}
use Rattle.iss_checkpoint.specs.declared.votes.Cert.{Cert}
use Rattle.iss_checkpoint.specs.declared.votes.Vote.{Vote}
use Rattle.iss_node.specs.Saved.{holds}
use Rattle.iss_rebuilt.specs.Stored.{new_certs}
use Rattle.iss_node.proofs.state.NodeState.new_certs.Given as goal

abbrev pub invariant-loop-epoch : goal.invariant-loop-epoch
invariant-loop-epoch g l = (votes : List Vote) (certs : List Cert) → AreKept l.self.ballots votes certs → l.certs ≡ new_certs (holds l.self.saved) certs (below l.epoch)
