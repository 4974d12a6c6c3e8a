-- A parcel of the code, seen as the model's parcel.
use Rattle.std.specs.Prelude.{ℕ, ◌<◌, Option, Some, None}
use Rattle.iss_rules.specs.Parcels.{Body as ModelBody, OfAsk, OfModule, OfPiece, OfRequest, OfVote, Parcel as Carried}
use Rattle.iss_node.specs.declared.parcels.Body.{Body}
use Rattle.iss_node.specs.declared.parcels.Body.TheVariants.{Ask as Body_ask, Message as Body_message, Piece as Body_piece, Request as Body_request, Vote as Body_vote}
use Rattle.iss_node.specs.declared.parcels.Parcel.{Parcel}
use Rattle.iss_checkpoint.specs.declared.votes.Vote.{Vote as Voted}
use Rattle.iss_packet.specs.declared.packets.Packet.{Packet}
use Rattle.iss_transfer.specs.declared.pieces.Ask.{Ask as Asked_for}
use Rattle.iss_transfer.specs.declared.pieces.Piece.{Piece as Sent_piece}

abbrev pub seen_body : {Msg : Type 0} → Body Msg → ModelBody Msg
seen_body (Body_message leader msg) = OfModule leader.0 msg
seen_body (Body_vote v) = OfVote v
seen_body Body_ask = OfAsk
seen_body (Body_piece p) = OfPiece p
seen_body (Body_request q) = OfRequest q

abbrev pub seen_some : {Msg : Type 0} → Parcel Msg → Carried Msg
seen_some k = record { from = k.from.0; epoch = k.epoch.0; body = seen_body k.body }

abbrev pub seen : {Msg : Type 0} → Option (Parcel Msg) → Option (Carried Msg)
seen None = None
seen (Some k) = Some (seen_some k)

-- The content of a packet, once its body was decoded.
abbrev pub body_of_vote : {Msg : Type 0} → Option Voted → Option (Body Msg)
body_of_vote None = None
body_of_vote (Some v) = Some (Body_vote v)

abbrev pub body_of_ask : {Msg : Type 0} → Option Asked_for → Option (Body Msg)
body_of_ask None = None
body_of_ask (Some a) = Some Body_ask

abbrev pub body_of_piece : {Msg : Type 0} → Option Sent_piece → Option (Body Msg)
body_of_piece None = None
body_of_piece (Some p) = Some (Body_piece p)

abbrev pub carried : {Msg : Type 0} → Packet → Option (Body Msg) → Option (Parcel Msg)
carried p None = None
carried p (Some body) = Some (record { from = record { 0 = p.from }; epoch = p.epoch; body = body })

-- Every packet but a request comes from an existing node.
abbrev pub IsBodyFrom : {Msg : Type 0} → ℕ → ℕ → Body Msg → Type 0
IsBodyFrom n from (Body_message leader msg) = from < n
IsBodyFrom n from (Body_vote v) = from < n
IsBodyFrom n from Body_ask = from < n
IsBodyFrom n from (Body_piece p) = from < n
IsBodyFrom n from (Body_request q) = Unit {0}

abbrev pub IsFromNode : {Msg : Type 0} → ℕ → Parcel Msg → Type 0
IsFromNode n k = IsBodyFrom n k.from.0 k.body
