-- The line of a reply: its words, their ranges, and their form whatever their size.
--
--   reply NODE EPOCH Q CLIENT.NUMBER ANSWER SIGNATURE
--
-- Q is the request's number in the log, CLIENT.NUMBER its identity. Bytes are hexadecimal, as in schedules.
use Rattle.std.specs.Prelude.{◌≡◌, ℕ, ◌<◌, ◌≤◌, ◌^◌, List, [], ◌∷◌, ◌++◌, length, codes, decimal}
use Rattle.hex.specs.Hex.{IsBytes}
use Rattle.iss_request.specs.declared.ids.ReqId.{ReqId}
use Rattle.iss_reply.specs.declared.replies.Reply.{Reply}
use Rattle.iss_schedule.specs.Words.{IsNumber, line_of, word_of, words_of}

-- ---- the line of a reply

-- an identity: client and number, parted by a point
abbrev pub id_word : ReqId → List ℕ
id_word id = decimal id.client ++ 46 ∷ decimal id.number

abbrev pub reply_name : List ℕ
reply_name = codes "reply"

-- the words after the name
abbrev pub reply_words : Reply → List (List ℕ)
reply_words r =
    decimal r.by.0 ∷ decimal r.epoch.0 ∷ decimal r.q ∷ id_word r.id ∷ word_of r.answer ∷ word_of r.sig ∷ []

-- rule: Replies: A reply is a line with its node, epoch, number, identity, answer and signature
abbrev pub reply_line : Reply → List ℕ
reply_line r = reply_name ++ 32 ∷ line_of (reply_words r)

-- ---- ranges

abbrev pub IsIdInRange : ReqId → Type 0
IsIdInRange id = (id.client < 256) × (id.number < 2 ^ 32)

-- an answer has at most 65,535 bytes
abbrev pub IsAnswerInRange : List ℕ → Type 0
IsAnswerInRange answer = IsBytes answer × (length answer ≤ 65535)

-- A signature may be any bytes: what is no signature is refused by a client.
-- rule: Replies: The numbers of a reply's line fit their types, and its answer has at most 65,535 bytes
abbrev pub IsInRange : Reply → Type 0
IsInRange r = (r.by.0 ≤ 255) × (r.epoch.0 < 2 ^ 64) × (r.q < 2 ^ 64) × IsIdInRange r.id × IsAnswerInRange r.answer
    × IsBytes r.sig

-- ---- forms

-- two numbers, parted by a point
abbrev pub IsIdFormed : List ℕ → Type 0
IsIdFormed word = (client : List ℕ)
    × ((number : List ℕ) × ((word ≡ client ++ 46 ∷ number) × IsNumber client × IsNumber number))

abbrev pub IsHex : List ℕ → Type 0
IsHex word = (bytes : List ℕ) × (IsBytes bytes × (word ≡ word_of bytes))

-- an identity, and bytes twice
abbrev pub AreLastFormed : List (List ℕ) → Type 0
AreLastFormed (id ∷ answer ∷ sig ∷ []) = IsIdFormed id × IsHex answer × IsHex sig
AreLastFormed words = ⊥

-- three numbers before these
abbrev pub AreFormed : List (List ℕ) → Type 0
AreFormed (by ∷ epoch ∷ q ∷ last) = IsNumber by × IsNumber epoch × IsNumber q × AreLastFormed last
AreFormed words = ⊥

-- the line has the form of a reply's, whatever the size of its numbers and of its answer
abbrev pub IsFormed : List ℕ → Type 0
IsFormed line = (rest : List ℕ) × ((line ≡ reply_name ++ 32 ∷ rest) × AreFormed (words_of rest))
