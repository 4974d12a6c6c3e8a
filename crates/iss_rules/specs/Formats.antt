-- How packets are encoded and decoded under a set-up. A module's message uses the module's own encoding in the
-- packet's body. Node and epoch of a vote and of a piece are the packet's. Bytes must be used up.
use Rattle.std.specs.Prelude.{ℕ, [], ◌∷◌, Option, Some, None}
use Rattle.iss_checkpoint.specs.Bodies.{parse_vote, spell_vote}
use Rattle.iss_checkpoint.specs.declared.votes.Vote.{Vote as Voted}
use Rattle.iss_packet.specs.Packets.{parse_packet, spell_packet}
use Rattle.iss_packet.specs.declared.packets.Packet.{Packet}
use Rattle.iss_packet.specs.declared.packets.PacketKind.{PacketKind}
use Rattle.iss_packet.specs.declared.packets.PacketKind.TheVariants.{Message, Vote as Kind_vote, Ask, Piece as Kind_piece, Request as Kind_request}
use Rattle.iss_request.specs.Fields.{Bad, Good, Parsed}
use Rattle.iss_request.specs.Formats.{parse_request, spell_request}
use Rattle.iss_request.specs.declared.requests.Request.{Request}
use Rattle.iss_request.specs.declared.setups.Setup.{Setup}
use Rattle.iss_sb.specs.Evidence.{Module}
use Rattle.iss_transfer.specs.Bodies.{parse_ask, parse_piece, spell_ask, spell_piece}
use Rattle.iss_transfer.specs.declared.pieces.Ask.{Ask as Asked_for}
use Rattle.iss_transfer.specs.declared.pieces.Piece.{Piece as Sent_piece}
use Rattle.iss_rules.specs.Parcels.{Body, Formats, OfAsk, OfModule, OfPiece, OfRequest, OfVote, Parcel}

-- what was parsed, if it takes up all of the bytes
abbrev pub whole : {A : Type 0} → Parsed A → Option A
whole (Good thing []) = Some thing
whole (Good thing (b ∷ rest)) = None
whole (Bad at) = None

-- a parcel as a packet; only a module's message names a leader
abbrev pub packet_as : {Msg : Type 0} → Module Msg → ℕ → ℕ → ℕ → Body Msg → Packet
packet_as M version from e (OfModule l msg) =
    record { kind = Message; from = from; epoch = record { 0 = e }; leader = l; body = M.spell version msg }
packet_as M version from e (OfVote v) = record {
  kind = Kind_vote;
  from = from;
  epoch = record { 0 = e };
  leader = 0;
  body = spell_vote v;
}
packet_as M version from e OfAsk =
    record {
      kind = Ask;
      from = from;
      epoch = record { 0 = e };
      leader = 0;
      body = spell_ask (record { epoch = record { 0 = e } });
    }
packet_as M version from e (OfPiece p) = record {
  kind = Kind_piece;
  from = from;
  epoch = record { 0 = e };
  leader = 0;
  body = spell_piece version p;
}
packet_as M version from e (OfRequest q) = record {
  kind = Kind_request;
  from = from;
  epoch = record { 0 = e };
  leader = 0;
  body = spell_request q;
}

-- The content of a packet by its kind. Votes, asks and pieces are of the packet's epoch, and a vote is its sender's.
abbrev pub message_in : {Msg : Type 0} → Packet → Option Msg → Option (Parcel Msg)
message_in p None = None
message_in p (Some msg) = Some (record { from = p.from; epoch = p.epoch.0; body = OfModule p.leader msg })

abbrev pub request_in : {Msg : Type 0} → Packet → Option Request → Option (Parcel Msg)
request_in p None = None
request_in p (Some q) = Some (record { from = p.from; epoch = p.epoch.0; body = OfRequest q })

abbrev pub vote_in : {Msg : Type 0} → Packet → Option Voted → Option (Parcel Msg)
vote_in p None = None
vote_in p (Some v) = Some (record { from = p.from; epoch = p.epoch.0; body = OfVote v })

abbrev pub ask_in : {Msg : Type 0} → Packet → Option Asked_for → Option (Parcel Msg)
ask_in p None = None
ask_in p (Some a) = Some (record { from = p.from; epoch = p.epoch.0; body = OfAsk })

abbrev pub piece_in : {Msg : Type 0} → Packet → Option Sent_piece → Option (Parcel Msg)
piece_in p None = None
piece_in p (Some x) = Some (record { from = p.from; epoch = p.epoch.0; body = OfPiece x })

-- decodes the content of a packet by its kind
abbrev pub parcel_of_kind : {Msg : Type 0} → Module Msg → ℕ → Packet → PacketKind → Option (Parcel Msg)
parcel_of_kind M version p Message = message_in p (whole (M.parse version p.body))
parcel_of_kind M version p Kind_vote = vote_in p (whole (parse_vote p.from p.epoch.0 p.body))
parcel_of_kind M version p Ask = ask_in p (whole (parse_ask p.epoch.0 p.body))
parcel_of_kind M version p Kind_piece = piece_in p (whole (parse_piece version p.epoch.0 p.body))
parcel_of_kind M version p Kind_request = request_in p (whole (parse_request p.body))

-- the same of a packet, if the bytes are one
abbrev pub parcel_in : {Msg : Type 0} → Module Msg → ℕ → Option Packet → Option (Parcel Msg)
parcel_in M version None = None
parcel_in M version (Some p) = parcel_of_kind M version p p.kind

-- the packet formats of this set-up, in its version
abbrev pub formats_of : {Msg : Type 0} → Setup → Module Msg → Formats Msg
formats_of s M =
    record {
      wrap = λ k. spell_packet s.version (packet_as M s.version k.from k.epoch k.body);
      unwrap = λ bytes. parcel_in M s.version (whole (parse_packet s.version s.n bytes));
    }
