-- What is printed for a text of replies: a line for each reply that a new client refuses, one for each answer that it
-- accepts, and a last line. That is `end ok`, or `short` with the least identity of which a reply was counted and no
-- answer accepted.
use Rattle.std.specs.Prelude.{◌≡◌, ◌⊎◌, ℕ, ◌+◌, ◌<◌, ◌≤◌, true, false, List, [], ◌∷◌, ◌++◌, length, reverse, codes, decimal, Option, Some, None}
use Rattle.iss_request.specs.declared.ids.ReqId.{ReqId}
use Rattle.iss_request.specs.declared.requests.Value.{Value}
use Rattle.iss_request.specs.declared.setups.Setup.{Setup}
use Rattle.iss_schedule.specs.Words.{word_of}
use Rattle.iss_reply.specs.Clients.{Cluster, IsBelieved, cluster_of, is_open_after, outcome}
use Rattle.iss_reply.specs.declared.clients.Refusal.{Refusal}
use Rattle.iss_reply.specs.declared.clients.Refusal.TheVariants.{BadReply, Twice}
use Rattle.iss_reply.specs.declared.clients.Taken.{Taken}
use Rattle.iss_reply.specs.declared.clients.Taken.TheVariants.{Counted, Accepted, Late, Refused}
use Rattle.iss_reply.specs.declared.replies.Reply.{Reply}
use Rattle.iss_answers.specs.Lines.{id_word}
use Rattle.iss_answers.specs.declared.printing.Printed.{Printed}

-- ---- lines; each ends with a line feed

abbrev pub why_word : Refusal → List ℕ
why_word BadReply = codes "BadReply"
why_word Twice = codes "Twice"

-- what is printed for a reply in a line with this number
-- rule: Replies: A refused reply and an accepted answer each print a line, a late or counted reply none
abbrev pub taken_line : ℕ → ReqId → Taken → List ℕ
taken_line number id (Refused why) = codes "drop " ++ decimal number ++ codes " " ++ why_word why ++ 10 ∷ []
taken_line number id (Accepted q answer) =
    codes "answer " ++ id_word id ++ codes " " ++ decimal q ++ codes " " ++ word_of answer ++ 10 ∷ []
taken_line number id Counted = []
taken_line number id Late = []

-- The lines for replies, newest first here. The first reply is in line 12, behind the header.
abbrev pub taken_lines : Cluster → List Reply → List ℕ
taken_lines c [] = []
taken_lines c (r ∷ earlier) = taken_lines c earlier ++ taken_line (12 + length earlier) r.id (outcome c earlier r)

abbrev pub end_line : Option ReqId → List ℕ
end_line None = codes "end ok" ++ 10 ∷ []
end_line (Some id) = codes "short " ++ id_word id ++ 10 ∷ []

-- ---- the least identity without an answer

-- an identity is not above another: by client, then by number
abbrev pub IsUpTo : ReqId → ReqId → Type 0
IsUpTo a b = (a.client < b.client) ⊎ ((a.client ≡ b.client) × (a.number ≤ b.number))

-- rule: Replies: The last line names the least identity of which a reply was counted and no answer accepted
abbrev pub IsShort : Cluster → List Reply → Option ReqId → Type 0
IsShort c replies None = (id : ReqId) → is_open_after c replies id ≡ false
IsShort c replies (Some least) = (is_open_after c replies least ≡ true)
    × ((id : ReqId) → is_open_after c replies id ≡ true → IsUpTo least id)

-- ---- the whole answer

-- what is printed for these replies
pub record IsPrinted (s : Setup) (replies : List Reply) (p : Printed) : Type 0 where
  pub text : p.text ≡ taken_lines (cluster_of s) (reverse replies) ++ end_line p.short
  pub short : IsShort (cluster_of s) (reverse replies) p.short

-- ---- what may be believed

-- each answer that is accepted is the log's; replies are newest first
abbrev pub AreBelieved : List Value → Cluster → List Reply → Type 0
AreBelieved log c [] = Unit {0}
AreBelieved log c (r ∷ earlier) = IsBelieved log r (outcome c earlier r) × AreBelieved log c earlier
