-- What the judge says about the batch that a node's input asks to accept.
use Rattle.std.specs.Prelude.{ℕ, List, Option, Some, None}
use Rattle.iss_request.specs.declared.ids.Slot.{Slot}
use Rattle.iss_request.specs.declared.requests.Batch.{Batch}
use Rattle.iss_request.specs.declared.requests.Value.{Value}
use Rattle.iss_sb.specs.declared.effects.Input.{Input}
use Rattle.iss_sb.specs.Evidence.{Module, accepts}
use Rattle.iss_rules.specs.declared.events.Refusal.{Refusal}
use Rattle.iss_rules.specs.Judge.{judge, marks}
use Rattle.iss_rules.specs.Past.{Past, asked_in, before_own, taken_in}
use Rattle.iss_rules.specs.Rules.{Rules}

-- the judge's verdict on the batch that an input asks to accept
abbrev pub verdict : Rules → List Value → ℕ → ℕ → List (Slot × Batch) → Option (Slot × Batch) → Option Refusal
verdict R before e l accepted None = None
verdict R before e l accepted (Some x) = judge R before e l (marks accepted) x.1

-- the same for an input in the instance of leader l in the node's epoch
abbrev pub verdict_in : {Msg : Type 0} → Rules → Module Msg → ℕ → Past Msg → ℕ → Input Msg → Option Refusal
verdict_in R M me c l input =
    verdict R (before_own R M me c) c.epoch l (accepts (taken_in c l)) (asked_in R M me c l input)
