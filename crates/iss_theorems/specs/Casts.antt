-- A batch that a node proposes is one that its own module and its own judge accept. So no proposal is lost on the way
-- into the leader's instance.
use Rattle.std.specs.Prelude.{◌≡◌, ℕ, Some, None}
use Rattle.iss_buckets.specs.Waiting.{cut}
use Rattle.iss_request.specs.declared.ids.Slot.{Slot}
use Rattle.iss_request.specs.declared.requests.Batch.{Batch}
use Rattle.iss_request.specs.declared.setups.Setup.{Setup}
use Rattle.iss_sb.specs.declared.effects.Input.TheVariants.{Cast}
use Rattle.iss_sb.specs.Evidence.{Module}
use Rattle.iss_rules.specs.Concrete.{rules_of}
use Rattle.iss_rules.specs.Past.{asked_in}
use Rattle.iss_rules.specs.Rules.{Rules}
use Rattle.iss_rules.specs.Verdicts.{verdict_in}
use Rattle.iss_model.specs.Node.{Core, is_mine, next_slot}
use Rattle.iss_model.specs.Run.{Held, node_of}

-- the batch that a core proposes next
abbrev pub batch_of : {Msg : Type 0} → Rules → Module Msg → ℕ → Core Msg → Batch
batch_of R M me c = cut R.batch (is_mine R M me c) c.waiting

-- the module accepts the next batch of the core at this slot, and the judge does not refuse it
pub record IsAcceptedAt {Msg : Type 0} (R : Rules) (M : Module Msg) (me : ℕ) (c : Core Msg) (slot : Slot) : Type 0 where
  pub asked : asked_in R M me c.past me (Cast slot (batch_of R M me c)) ≡ Some (slot, batch_of R M me c)
  pub judged : verdict_in R M me c.past me (Cast slot (batch_of R M me c)) ≡ None

-- so for each core, at the slot where it proposes next
abbrev pub AreCastsAccepted : {Msg : Type 0} → Setup → Module Msg → Held Msg → Type 0
AreCastsAccepted s M h =
    (c : ℕ) (slot : Slot) → next_slot (rules_of s) M (node_of s c) (h.net.cores c) ≡ Some slot →
    IsAcceptedAt (rules_of s) M (node_of s c) (h.net.cores c) slot
