-- The text of a report, line by line. A node's block has its epoch, slots and requests, and a line for each slot with
-- the number of its first request. A lost event has a line with its cause. The last line is `end ok`, or the event
-- that ended the run with its evidence. Logs are newest first here; numbers are decimal.
use Rattle.std.specs.Prelude.{ℕ, List, [], ◌∷◌, ◌++◌, length, codes, decimal, Option, Some, None}
use Rattle.sha2.specs.Sha256.{sha256}
use Rattle.iss_request.specs.Log.{requests}
use Rattle.iss_request.specs.declared.requests.Request.{Request}
use Rattle.iss_request.specs.declared.requests.Value.{Value}
use Rattle.iss_request.specs.declared.requests.Value.TheVariants.{Nil as Value_nil, Batch as Value_batch}
use Rattle.iss_schedule.specs.Words.{word_of}
use Rattle.iss_sb.specs.declared.effects.Claim.{Claim}
use Rattle.iss_rules.specs.Ends.{End, Forged, Collision}
use Rattle.iss_rules.specs.declared.events.Refusal.{Refusal}
use Rattle.iss_rules.specs.declared.events.Refusal.TheVariants.{TooLarge, ForeignBucket, BadSignature, OutOfWindow, Ordered, Marked}
use Rattle.iss_rules.specs.declared.events.Why.{Why}
use Rattle.iss_rules.specs.declared.events.Why.TheVariants.{NoPacket, Stopped, NotPacket, BadRequest, Known, OutOfWindow as Why_out_of_window, OtherEpoch, EarlyFull, NotLeader, BadClaim, NothingToCast, NoKeys, Refused, NoCert, NotNeeded, WrongChain as Why_wrong_chain}

abbrev pub refusal_word : Refusal → List ℕ
refusal_word TooLarge = codes "TooLarge"
refusal_word ForeignBucket = codes "ForeignBucket"
refusal_word BadSignature = codes "BadSignature"
refusal_word OutOfWindow = codes "OutOfWindow"
refusal_word Ordered = codes "Ordered"
refusal_word Marked = codes "Marked"

abbrev pub why_word : Why → List ℕ
why_word NoPacket = codes "NoPacket"
why_word Stopped = codes "Stopped"
why_word NotPacket = codes "NotPacket"
why_word BadRequest = codes "BadRequest"
why_word Known = codes "Known"
why_word Why_out_of_window = codes "OutOfWindow"
why_word OtherEpoch = codes "OtherEpoch"
why_word EarlyFull = codes "EarlyFull"
why_word NotLeader = codes "NotLeader"
why_word BadClaim = codes "BadClaim"
why_word NothingToCast = codes "NothingToCast"
why_word NoKeys = codes "NoKeys"
why_word (Refused x) = codes "Refused " ++ refusal_word x
why_word NoCert = codes "NoCert"
why_word NotNeeded = codes "NotNeeded"
why_word Why_wrong_chain = codes "WrongChain"

-- Each line ends with one line feed, the byte 10.
-- rule: Reports: Each lost event is reported with its cause
abbrev pub drop_line : ℕ → Why → List ℕ
drop_line event why = codes "drop " ++ decimal event ++ codes " " ++ why_word why ++ 10 ∷ []

-- A claim: its node, its statement and its signature.
abbrev pub claim_words : Claim → List ℕ
claim_words c = codes " " ++ decimal c.by.0 ++ codes " " ++ word_of c.statement ++ codes " " ++ word_of c.sig

-- The evidence that stopped the run at this event: a forged claim, or two strings with one digest.
abbrev pub evidence_line : ℕ → End → List ℕ
evidence_line event (Forged c) = codes "end forged " ++ decimal event ++ claim_words c ++ 10 ∷ []
evidence_line event (Collision first second) =
    codes "end collision " ++ decimal event ++ codes " " ++ word_of first ++ codes " " ++ word_of second ++ 10 ∷ []

-- The last line.
abbrev pub end_line : Option (ℕ × End) → List ℕ
end_line None = codes "end ok" ++ 10 ∷ []
end_line (Some at) = evidence_line at.0 at.1

abbrev pub request_word : Request → List ℕ
request_word q = codes " " ++ decimal q.id.client ++ codes "." ++ decimal q.id.number

abbrev pub request_words : List Request → List ℕ
request_words [] = []
request_words (q ∷ qs) = request_word q ++ request_words qs

-- Nil, or the number of the first request, the size of the batch, and the identities of its requests.
abbrev pub value_words : ℕ → Value → List ℕ
value_words first Value_nil = codes " nil"
value_words first (Value_batch b) = codes " " ++ decimal first ++ codes " " ++ decimal (length b) ++ request_words b

abbrev pub slot_line : ℕ → ℕ → Value → List ℕ
slot_line slot first v = decimal slot ++ value_words first v ++ 10 ∷ []

-- The number of a slot's first request is the sum of the sizes of all earlier batches.
abbrev pub slot_lines : List Value → List ℕ
slot_lines [] = []
slot_lines (v ∷ older) = slot_lines older ++ slot_line (length older) (requests older) v

abbrev pub node_line : ℕ → ℕ → ℕ → ℕ → List ℕ
node_line node epoch slots count = codes "node " ++ decimal node ++ codes " epoch " ++ decimal epoch ++ codes " slots "
    ++ decimal slots
    ++ codes " requests " ++ decimal count ++ 10 ∷ []

-- rule: Reports: A node's block has its epoch, and each slot with its first number and its requests
abbrev pub node_block : ℕ → ℕ → List Value → List ℕ
node_block node epoch log = node_line node epoch (length log) (requests log) ++ slot_lines log

-- the first line of a node's block
abbrev pub first_line : ℕ → ℕ → List Value → List ℕ
first_line node epoch log = node_line node epoch (length log) (requests log)

-- the SHA-256 of a report, in hexadecimal
-- rule: Reports: A summary has the digest of the whole report
abbrev pub digest_line : List ℕ → List ℕ
digest_line report = codes "digest " ++ word_of (sha256 report) ++ 10 ∷ []
