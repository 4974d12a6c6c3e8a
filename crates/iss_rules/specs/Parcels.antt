-- A parcel, what a packet holds: a module's message, a vote, an ask, a piece or a request.
use Rattle.std.specs.Prelude.{ℕ, List, Option}
use Rattle.iss_checkpoint.specs.declared.votes.Vote.{Vote}
use Rattle.iss_request.specs.declared.requests.Request.{Request}
use Rattle.iss_transfer.specs.declared.pieces.Piece.{Piece as Sent_piece}

-- The content of a packet: a module's message in the instance of a leader, a checkpoint vote, an ask for an epoch, an
-- epoch's values with their certificate, or a client's request.
pub data Body (Msg : Type 0) : Type 0 where
  OfModule : (leader : ℕ) → (msg : Msg) → Body Msg
  OfVote : (vote : Vote) → Body Msg
  OfAsk : Body Msg
  OfPiece : (piece : Sent_piece) → Body Msg
  OfRequest : (request : Request) → Body Msg

-- a decoded packet: its sender, its epoch, and its content
pub record Parcel (Msg : Type 0) : Type 0 where
  pub from : ℕ
  pub epoch : ℕ
  pub body : Body Msg

-- how parcels are encoded and decoded; decoding gives nothing for bytes that are no packet
pub record Formats (Msg : Type 0) : Type 0 where
  pub wrap : Parcel Msg → List ℕ
  pub unwrap : List ℕ → Option (Parcel Msg)
