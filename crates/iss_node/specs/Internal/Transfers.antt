-- State transfer: how a node hands out an epoch that its log holds, and how it adopts one under a certificate.
use Rattle.std.specs.Prelude.{◌≡◌, ℕ, suc, ◌*◌, List, [], ◌∷◌, Option, Some, None, cond, drop, length, nat_le, take}
use Rattle.iss_checkpoint.specs.Votes.{vote_statement}
use Rattle.iss_rules.specs.Concrete.{rules_of}
use Rattle.iss_rules.specs.Formats.{formats_of}
use Rattle.iss_rules.specs.Votes.{claims_by}
use Rattle.iss_model.specs.Node.{Core, adopts_piece, then_turn, only_by, takes_each}
use Rattle.iss_node.specs.State.{StateRefinesCore, StateView}
use Rattle.iss_node.specs.Steps.{IsHeldTurn}
use Rattle.iss_node.specs.declared.answers.Outcome.{Outcome}
use Rattle.iss_packet.specs.Packets.{spell_packet}
use Rattle.iss_packet.specs.declared.packets.PacketKind.TheVariants.{Piece as Kind_piece}
use Rattle.iss_request.specs.declared.ids.NodeId.{NodeId}
use Rattle.iss_request.specs.declared.ids.Slot.{Slot}
use Rattle.iss_request.specs.declared.requests.Value.{Value}
use Rattle.iss_sb.specs.Evidence.{Module}
use Rattle.iss_sb.specs.declared.effects.To.TheVariants.{One as To_one}
use Rattle.iss_sb.specs.Calls.{Relation}
use Rattle.iss_transfer.specs.Bodies.{spell_piece}
use Rattle.iss_transfer.specs.Adoption.{adoption}
use Rattle.iss_transfer.specs.declared.adopting.Adoption.TheVariants.{Adopt}
use Rattle.iss_transfer.specs.declared.pieces.Piece.{Piece}
use Rattle.iss_checkpoint.specs.Votes.{voters_of}

-- The first slot of an epoch and the slot after its last, then its values, if the log has all of them.
abbrev pub held_slots : {M Msg : Type 0} → StateView M Msg → ℕ → Option (ℕ × ℕ)
held_slots v e = cond (nat_le (suc e * v.setup.epoch) (length v.log.entries))
    (Some (e * v.setup.epoch, suc e * v.setup.epoch)) None

abbrev pub held_values : {M Msg : Type 0} → StateView M Msg → ℕ → Option (List Value)
held_values v e =
    cond (nat_le (suc e * v.setup.epoch) (length v.log.entries))
    (Some (drop (e * v.setup.epoch) (take (suc e * v.setup.epoch) v.log.entries))) None

-- The outcome that sends a piece to one node, with the node's own signatures in its certificate.
pub record IsHandedPiece {M Msg : Type 0} (v : StateView M Msg) (to : NodeId) (p : Piece) (o : Outcome) : Type 0 where
  pub sent : o.sends ≡ (
    To_one to,
    spell_packet v.setup.version
        (record {
          kind = Kind_piece;
          from = v.me.0;
          epoch = p.epoch;
          leader = 0;
          body = spell_piece v.setup.version p;
        }),
  ) ∷ []
  pub own : o.own ≡ only_by v.me.0
      (claims_by (vote_statement v.setup.tag p.cert.epoch.0 p.cert.chain p.cert.requests) p.cert.signers)
  pub early : o.early ≡ []
  pub hashed : o.hashed ≡ []
  pub entered : o.entered ≡ None

-- Values with their slots, which are consecutive from s on.
abbrev pub at_slots : ℕ → List Value → List (Slot × Value)
at_slots s [] = []
at_slots s (v ∷ vs) = (record { 0 = s }, v) ∷ at_slots (suc s) vs

-- The node adopted the values of its epoch, for which these strings were hashed. Then it took the messages that arrived
-- early for the next epoch.
abbrev pub IsAdoptedBy : {M Msg : Type 0} → Module Msg → Relation M Msg → StateView M Msg → Piece → List (List ℕ) →
    StateView M Msg → Outcome → Type 0
IsAdoptedBy {Msg = Msg} m refines old p hashed new outcome = (c : Core Msg) → StateRefinesCore m refines old c →
    adoption old.setup (voters_of old.setup old.directory) old.log.entries old.epoch p ≡ Adopt hashed →
    IsHeldTurn m refines (Unit {0})
    (then_turn (adopts_piece (rules_of old.setup) m old.me.0 c p)
    (takes_each (formats_of old.setup m) (rules_of old.setup) m old.me.0 (suc c.past.epoch) c.early))
    new outcome
