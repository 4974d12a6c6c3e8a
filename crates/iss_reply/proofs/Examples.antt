-- What the definitions give for a small log: a put of `bb` under `a` and a get of it in slot 0, nil in slot 1, and a
-- delete of it, a get and a malformed payload in slot 2.
use Rattle.std.proofs.Common.{◌≡◌, ℕ, [], ◌∷◌, List, refl, Some, None, length, true, false, replicate}
use Rattle.iss_request.specs.declared.ids.ReqId.{ReqId}
use Rattle.iss_request.specs.declared.requests.Request.{Request}
use Rattle.iss_request.specs.declared.requests.Value.{Value}
use Rattle.iss_request.specs.declared.requests.Value.TheVariants.{Nil as Value_nil, Batch as Value_batch}
use Rattle.iss_reply.specs.declared.clients.Stated.{Stated}
use Rattle.iss_reply.specs.declared.clients.Taken.TheVariants.{Counted, Accepted}
use Rattle.iss_reply.specs.declared.replies.Reply.{Reply}
use Rattle.iss_reply.specs.Answers.{answer_at}
use Rattle.iss_reply.specs.Clients.{accepted_with, agreeing, has_reply_of, is_answered, stated_by, stated_to}
use Rattle.iss_reply.specs.Commands.{command_of}
use Rattle.iss_reply.specs.Replies.{reply_statement, slot_of}
use Rattle.iss_reply.specs.Repliers.{number_at}

abbrev id : ℕ → ReqId
id t = record { client = 0; number = t }

abbrev request : ℕ → List ℕ → Request
request t payload = record { id = id t; payload = payload; sig = [] }

abbrev log : List Value
log =
    Value_batch (request 0 (1 ∷ 1 ∷ 97 ∷ 98 ∷ 98 ∷ []) ∷ request 1 (0 ∷ 1 ∷ 97 ∷ []) ∷ []) ∷ Value_nil
    ∷ Value_batch (request 2 (2 ∷ 1 ∷ 97 ∷ []) ∷ request 3 (0 ∷ 1 ∷ 97 ∷ []) ∷ request 4 (0 ∷ 1 ∷ 97 ∷ 98 ∷ []) ∷ []) ∷ []

-- a put finds nothing, and a get finds what was put
put_finds_nothing : answer_at log 0 ≡ Some (0 ∷ [])
put_finds_nothing = refl

get_finds_the_value : answer_at log 1 ≡ Some (1 ∷ 98 ∷ 98 ∷ [])
get_finds_the_value = refl

-- a delete finds the value, and a get behind it finds nothing
delete_finds_the_value : answer_at log 2 ≡ Some (1 ∷ 98 ∷ 98 ∷ [])
delete_finds_the_value = refl

nothing_is_left : answer_at log 3 ≡ Some (0 ∷ [])
nothing_is_left = refl

-- a get with a byte behind its key is malformed
get_with_a_value : answer_at log 4 ≡ Some (2 ∷ [])
get_with_a_value = refl

none_behind : answer_at log 5 ≡ None
none_behind = refl

short_payload : command_of (1 ∷ 2 ∷ 97 ∷ []) ≡ None
short_payload = refl

-- nil has no request, so request 2 is in slot 2
in_slot_two : slot_of log 2 ≡ 2
in_slot_two = refl

third_of_slot_two : number_at log 2 2 ≡ 4
third_of_slot_two = refl

-- 32 bytes of tag, then 26, then the answer
statement : length (reply_statement (replicate 32 1) 5 (id 7) 9 (1 ∷ 98 ∷ [])) ≡ 60
statement = refl

-- ---- f = 1: nodes 0 and 2 agree, node 1 gives another answer

abbrev reply : ℕ → ℕ → Reply
reply by answer = record {
  by = record { 0 = by };
  epoch = record { 0 = 0 };
  q = 3;
  id = id 3;
  answer = answer ∷ [];
  sig = [];
}

abbrev two : List Stated
two = stated_to (id 3) (reply 1 9 ∷ reply 0 0 ∷ [])

oldest_first : two ≡ stated_by (reply 0 0) ∷ stated_by (reply 1 9) ∷ []
oldest_first = refl

other_identity : stated_to (id 4) (reply 1 9 ∷ reply 0 0 ∷ []) ≡ []
other_identity = refl

no_two_agree : is_answered 1 two ≡ false
no_two_agree = refl

second_of_node_one : has_reply_of 1 two ≡ true
second_of_node_one = refl

node_two_completes : accepted_with 1 (reply 2 0) (agreeing (stated_by (reply 2 0)) two) ≡ Accepted 3 (0 ∷ [])
node_two_completes = refl

a_third_answer_counts : accepted_with 1 (reply 2 7) (agreeing (stated_by (reply 2 7)) two) ≡ Counted
a_third_answer_counts = refl

then_answered : is_answered 1 (stated_to (id 3) (reply 2 0 ∷ reply 1 9 ∷ reply 0 0 ∷ [])) ≡ true
then_answered = refl
