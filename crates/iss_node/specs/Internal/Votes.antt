-- How a node votes: its next leaf signs the end of its log for the epoch, and the vote goes to all nodes with its
-- claim.
use Rattle.std.specs.Prelude.{◌≡◌, ◌+◌, [], ◌∷◌, None, Some, slice_get}
use Rattle.iss_ballots.specs.Claims.{claim_by}
use Rattle.iss_checkpoint.specs.Bodies.{spell_vote}
use Rattle.iss_checkpoint.specs.Votes.{vote_statement}
use Rattle.iss_checkpoint.specs.declared.votes.Vote.{Vote}
use Rattle.iss_keys.specs.Signatures.{signature_of}
use Rattle.iss_node.specs.State.{StateView}
use Rattle.iss_node.specs.declared.answers.Outcome.{Outcome}
use Rattle.iss_packet.specs.Packets.{spell_packet}
use Rattle.iss_packet.specs.declared.packets.PacketKind.TheVariants.{Vote as Kind_vote}
use Rattle.iss_sb.specs.declared.effects.To.TheVariants.{All as To_all}

-- The next leaf signed the digest and the number of requests of the log at the end of the epoch.
pub record IsVoted {M Msg : Type 0} (old new : StateView M Msg) (v : Vote) : Type 0 where
  pub end : slice_get old.chains.ends (old.plan.start + old.setup.epoch) ≡ Some
      (record { chain = v.chain; requests = v.requests })
  pub epoch : v.epoch.0 ≡ old.epoch
  pub by : v.by ≡ old.me
  pub sig : v.sig ≡ signature_of old.keys.secret old.keys.height old.keys.used
      (vote_statement old.setup.tag old.epoch v.chain v.requests)
  pub rest : new ≡ record old { keys = record old.keys { used = old.keys.used + 1 } }

-- The vote is sent to all, with the node's signature.
pub record IsVoteHandedOut {M Msg : Type 0} (old : StateView M Msg) (v : Vote) (o : Outcome) : Type 0 where
  pub sent : o.sends ≡ (
    To_all,
    spell_packet old.setup.version
        (record { kind = Kind_vote; from = v.by.0; epoch = v.epoch; leader = 0; body = spell_vote v }),
  ) ∷ []
  pub own : o.own ≡ claim_by old.setup.tag v ∷ []
  pub early : o.early ≡ []
  pub hashed : o.hashed ≡ []
  pub entered : o.entered ≡ None
