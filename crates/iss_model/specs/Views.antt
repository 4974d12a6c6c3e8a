-- What a node shows of its core, and the claims in bytes that it receives: those of a message of its epoch, of a vote,
-- and of a piece's certificate.
use Rattle.std.specs.Prelude.{ℕ, Bool, true, cond, ◌&&◌, ◌==◌, not, is_some, List, [], ◌∷◌, Option, Some, None}
use Rattle.std.specs.List.{filter}
use Rattle.iss_base.specs.Lists.{below}
use Rattle.iss_request.specs.declared.ids.Slot.{Slot}
use Rattle.iss_request.specs.declared.requests.Batch.{Batch}
use Rattle.iss_sb.specs.declared.effects.Params.{Params}
use Rattle.iss_sb.specs.Evidence.{Item, Module, accepts, delivered}
use Rattle.iss_sb.specs.declared.effects.Claim.{Claim}
use Rattle.iss_rules.specs.Parcels.{Body, Formats, OfAsk, OfModule, OfPiece, OfRequest, OfVote, Parcel}
use Rattle.iss_rules.specs.Votes.{claim_of_vote, claims_of_cert}
use Rattle.iss_model.specs.Node.{Core, claims_in, next_slot}
use Rattle.iss_rules.specs.Past.{Past, leads_in, params_of, taken_in}
use Rattle.iss_rules.specs.Rules.{Rules}

-- what the instance of a leader accepted in the node's epoch, newest first
abbrev pub accepted_by : {Msg : Type 0} → Core Msg → ℕ → List (Slot × Batch)
accepted_by c l = accepts (taken_in c.past l)

-- whether each of these slots was delivered
abbrev pub are_filled : {Msg : Type 0} → Module Msg → Params → ℕ → List (Item Msg) → List Slot → Bool
are_filled M p me xs [] = true
are_filled M p me xs (s ∷ ss) = is_some (delivered M p me xs s.0) && are_filled M p me xs ss

-- whether l leads the node's epoch and has an undelivered slot
abbrev pub is_unfilled : {Msg : Type 0} → Rules → Module Msg → ℕ → Past Msg → ℕ → Bool
is_unfilled R M me c l =
    let p = params_of R M me c l in
    leads_in R M me c l && not (are_filled M p me (taken_in c l) p.slots)

-- the leaders below n with undelivered slots, ascending
abbrev pub unfilled : {Msg : Type 0} → Rules → Module Msg → ℕ → ℕ → Past Msg → List ℕ
unfilled R M n me c = filter (is_unfilled R M me c) (below n)

-- whether the node leads its epoch and has a free slot to propose at
abbrev pub is_castable_now : {Msg : Type 0} → Rules → Module Msg → ℕ → Core Msg → Bool
is_castable_now R M me c = leads_in R M me c.past me && is_some (next_slot R M me c)

-- The claims in received bytes: a vote's, those of a piece's certificate, and those of a module's message of the node's
-- epoch whose leader leads it.
abbrev pub claims_of_body : {Msg : Type 0} → Rules → Module Msg → ℕ → Core Msg → ℕ → ℕ → Body Msg → List Claim
claims_of_body R M me c from e (OfRequest q) = []
claims_of_body R M me c from e (OfVote v) = claim_of_vote R v ∷ []
claims_of_body R M me c from e OfAsk = []
claims_of_body R M me c from e (OfPiece p) = claims_of_cert R p.cert
claims_of_body R M me c from e (OfModule l msg) = cond (e == c.past.epoch) (claims_in R M me c.past from l msg) []

abbrev pub claims_of_parcel : {Msg : Type 0} → Rules → Module Msg → ℕ → Core Msg → Option (Parcel Msg) → List Claim
claims_of_parcel R M me c None = []
claims_of_parcel R M me c (Some k) = claims_of_body R M me c k.from k.epoch k.body

-- rule: Evidence: The claims of a packet are all signatures of its vote, certificate or message
abbrev pub claims_of_bytes : {Msg : Type 0} → Formats Msg → Rules → Module Msg → ℕ → Core Msg → List ℕ → List Claim
claims_of_bytes F R M me c bytes = claims_of_parcel R M me c (F.unwrap bytes)
