-- What is seen of a replier: whose replies it makes, the least number not answered, where that request is in the log,
-- and the store.
use Rattle.std.specs.Prelude.{◌≡◌, ◌≢◌, ℕ, ◌+◌, ◌^◌, ◌<◌, ◌≤◌, List, length, take, Option, Some, None, slice_get, Result, Ok, Err}
use Rattle.iss_request.specs.Log.{requests}
use Rattle.iss_request.specs.declared.errors.NoMemory.{NoMemory}
use Rattle.iss_request.specs.declared.requests.Request.{Request}
use Rattle.iss_request.specs.declared.requests.Value.{Value}
use Rattle.iss_reply.specs.declared.repliers.Next.{Next}
use Rattle.iss_reply.specs.declared.repliers.Next.TheVariants.{Reply as Next_reply, UpToDate, Spent}
use Rattle.iss_reply.specs.Answers.{held_after, requests_in, requests_of}
use Rattle.iss_reply.specs.Internal.Held.{held_in}
use Rattle.iss_reply.specs.Replies.{Replying, reply_at}

pub record ReplierState : Type 0 where
  pub who : Replying
  -- the least number not answered
  pub number : ℕ
  -- where to look for this request: a place in the batch of a slot, or behind
  pub slot : ℕ
  pub place : ℕ
  pub store : List (List ℕ × List ℕ)

-- the number of requests before a position in a log
abbrev pub number_at : List Value → ℕ → ℕ → ℕ
number_at log slot place = requests (take slot log) + place

-- the request there, if the slot is in the log and the place in its batch
abbrev pub request_in : Option Value → ℕ → Option Request
request_in None place = None
request_in (Some v) place = slice_get (requests_in v) place

abbrev pub request_at : List Value → ℕ → ℕ → Option Request
request_at log slot place = request_in (slice_get log slot) place

-- the replier answered the first requests of this log
pub record Answered (r : ReplierState) (log : List Value) : Type 0 where
  pub position : r.number ≡ number_at log r.slot r.place
  pub slot : r.slot ≤ length log
  pub number : r.number ≤ requests log
  pub held : (key : List ℕ) → held_in r.store key ≡ held_after (take r.number (requests_of log)) key

-- The replier answers the least number not answered. It is up to date exactly if the log has no such request, and else
-- spent exactly if the reply key has no such leaf; nothing changes then.
-- rule: Replies: A replier answers the least number not answered, up to the leaves of its key
abbrev pub IsNext : ReplierState → List Value → ReplierState → Result Next NoMemory → Type 0
IsNext old log new (Ok (Next_reply reply)) = (reply_at old.who log old.number ≡ Some reply)
    × (old.number < 2 ^ old.who.height) × (new.number ≡ old.number + 1) × (new.who ≡ old.who)
IsNext old log new (Ok UpToDate) = (old.number ≡ requests log) × (new ≡ old)
IsNext old log new (Ok Spent) = (old.number ≢ requests log) × (2 ^ old.who.height ≤ old.number) × (new ≡ old)
IsNext old log new (Err e) = new ≡ old
