-- How a log grows by deliveries, and what that does to waiting requests, marks and the digest chain.
use Rattle.std.specs.Prelude.{◌≡◌, ℕ, List, ◌++◌, length, None}
use Rattle.iss_base.specs.Lists.{first_of}
use Rattle.iss_buckets.specs.Waiting.{absent}
use Rattle.iss_window.specs.Ids.{and_ids}
use Rattle.iss_log.specs.Chains.{ChainsState, IsChainOf, chain_of, strings_from}
use Rattle.iss_log.specs.LogState.{LogState, value_at}
use Rattle.iss_node.specs.Internal.Cells.{given}
use Rattle.iss_request.specs.Log.{ids}
use Rattle.iss_request.specs.declared.ids.ReqId.{ReqId}
use Rattle.iss_request.specs.declared.ids.Slot.{Slot}
use Rattle.iss_request.specs.declared.requests.Request.{Request}
use Rattle.iss_request.specs.declared.requests.Value.{Value}
use Rattle.iss_request.specs.declared.requests.Value.TheVariants.{Nil as Value_nil, Batch as Value_batch}

-- Empty slots took what was delivered for them, and the log was extended as far as slots are filled.
pub record IsGrown (old : LogState) (ds : List (Slot × Value)) (new : LogState) (held : ℕ) : Type 0 where
  pub count : held ≡ length old.entries
  pub joined : List Value
  pub entries : new.entries ≡ old.entries ++ joined
  pub values : (s : ℕ) → value_at new s ≡ first_of (value_at old s) (given ds s)
  pub hole : value_at new (length new.entries) ≡ None

-- The waiting requests once a value is in the log, then the identities of the log with it.
abbrev pub waits_on : List Request → Value → List Request
waits_on qs Value_nil = qs
waits_on qs (Value_batch b) = absent (ids b) qs

abbrev pub and_values : List ReqId → Value → List ReqId
and_values xs Value_nil = xs
and_values xs (Value_batch b) = and_ids xs b

-- The chain was extended by these values, and the strings hashed for that were appended.
pub record AreJoined (old : ChainsState) (log values : List Value) (new : ChainsState)
    (before after : List (List ℕ)) : Type 0 where
  pub chained : IsChainOf new (log ++ values)
  pub strings : after ≡ before ++ strings_from old.version (chain_of old.version log) values
