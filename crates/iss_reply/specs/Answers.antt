-- The state machine on the log: a store of keys and values. A request is answered with what its key held before it.
-- So the answer is a function of the log and the request's number.
--
--   answer   0 for nothing, or 1 and the value; 2 for a malformed payload
use Rattle.std.specs.Prelude.{ℕ, if◌then◌else◌, List, [], ◌∷◌, ◌++◌, take, Option, Some, None, slice_get}
use Rattle.std.specs.Str.{bytes_eq}
use Rattle.iss_base.specs.Lists.{first_of}
use Rattle.iss_request.specs.declared.requests.Request.{Request}
use Rattle.iss_request.specs.declared.requests.Value.{Value}
use Rattle.iss_request.specs.declared.requests.Value.TheVariants.{Nil as Value_nil, Batch as Value_batch}
use Rattle.iss_reply.specs.declared.commands.Action.{Action}
use Rattle.iss_reply.specs.declared.commands.Action.TheVariants.{Get, Put, Delete}
use Rattle.iss_reply.specs.Commands.{CommandView, command_of}

-- ---- the requests of a log

-- the requests of a value, and of a log, in the order of their numbers
abbrev pub requests_in : Value → List Request
requests_in Value_nil = []
requests_in (Value_batch b) = b

abbrev pub requests_of : List Value → List Request
requests_of [] = []
requests_of (v ∷ later) = requests_in v ++ requests_of later

-- ---- what a key holds

-- What a command leaves under a key: a value, or nothing after a delete. None if it does not write this key.
abbrev pub left_by : Action → List ℕ → Option (Option (List ℕ))
left_by Get value = None
left_by Put value = Some (Some value)
left_by Delete value = Some None

abbrev pub left_under : List ℕ → Option CommandView → Option (Option (List ℕ))
left_under key None = None
left_under key (Some c) = if bytes_eq c.key key then left_by c.action c.value else None

-- what the last put or delete of the key among these requests left
abbrev pub last_left : List ℕ → List Request → Option (Option (List ℕ))
last_left key [] = None
last_left key (r ∷ later) = first_of (last_left key later) (left_under key (command_of r.payload))

-- what was left, where nothing was before
abbrev pub or_before : Option (List ℕ) → Option (Option (List ℕ)) → Option (List ℕ)
or_before before None = before
or_before before (Some now) = now

-- what a key holds after these requests: nothing, if none of them put or deleted it
-- rule: Replies: A key holds what the last put or delete of it among smaller numbers left
abbrev pub held_after : List Request → List ℕ → Option (List ℕ)
held_after requests key = or_before None (last_left key requests)

-- ---- answers

abbrev pub answer_for : Option (List ℕ) → List ℕ
answer_for None = 0 ∷ []
answer_for (Some value) = 1 ∷ value

-- the answer to a command, given what each key holds
abbrev pub answer_by : (List ℕ → Option (List ℕ)) → Option CommandView → List ℕ
answer_by held None = 2 ∷ []
answer_by held (Some c) = answer_for (held c.key)

-- the answer to a payload
-- rule: Replies: A request is answered with what its key held before it
abbrev pub answer_to : (List ℕ → Option (List ℕ)) → List ℕ → List ℕ
answer_to held payload = answer_by held (command_of payload)

-- the answer to request q of a log, after the requests with smaller numbers
abbrev pub answer_after : List Request → ℕ → Option Request → Option (List ℕ)
answer_after requests q None = None
answer_after requests q (Some r) = Some (answer_to (held_after (take q requests)) r.payload)

abbrev pub answer_at : List Value → ℕ → Option (List ℕ)
answer_at log q = answer_after (requests_of log) q (slice_get (requests_of log) q)
