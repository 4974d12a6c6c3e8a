-- The rules of the protocol as functions of the log before an epoch. They give its length and leaders, the owners of
-- buckets, and which requests are signed and inside their window. They also say how an instance starts, what a vote
-- states, and what is hashed for a log. The theory is proved for any such rules. Logs are newest first.
use Rattle.std.specs.Prelude.{ℕ, List, Bool}
use Rattle.iss_log.specs.declared.chains.End.{End}
use Rattle.iss_request.specs.declared.ids.ReqId.{ReqId}
use Rattle.iss_request.specs.declared.requests.Request.{Request}
use Rattle.iss_request.specs.declared.requests.Value.{Value}
use Rattle.iss_sb.specs.declared.effects.Params.{Params}

-- the rules of a cluster
pub record Rules : Type 0 where
  -- the number of slots of an epoch, and a bound on it
  pub slots : List Value → ℕ → ℕ
  pub most : ℕ
  -- the leader of a slot, who leads an epoch, and who owns a request's bucket in an epoch
  pub leader : List Value → ℕ → ℕ → ℕ
  pub leads : List Value → ℕ → ℕ → Bool
  pub owner : List Value → ℕ → ReqId → ℕ
  -- whether the client exists and signed the request, and whether its number is inside the client's window in an epoch
  pub signed : Request → Bool
  pub inside : List Value → ℕ → ReqId → Bool
  -- the most requests of a batch
  pub batch : ℕ
  -- whether a node's signature of a statement is valid
  pub verifies : ℕ → List ℕ → List ℕ → Bool
  -- the parameters of a leader's instance in an epoch
  pub params : List Value → ℕ → ℕ → Params
  -- what identifies a log (its chain digest and number of requests), and the strings hashed as values join a log
  pub end : List Value → End
  pub hashes : List Value → List Value → List (List ℕ)
  -- the number of nodes, and the size of a quorum
  pub nodes : ℕ
  pub quorum : ℕ
  -- what a checkpoint vote signs, and a node's signature of a statement by a leaf
  pub voted : ℕ → List ℕ → ℕ → List ℕ
  pub signature : ℕ → ℕ → List ℕ → List ℕ
