-- What the input of one instance does to a node: the instance's step, its verdict, the log's growth, and what is
-- handed out.
use Rattle.std.specs.Prelude.{◌≡◌, ◌≢◌, ℕ, ◌||◌, List, ◌++◌, [], ◌∷◌, Option, Some, None, Result, Ok, Err, fold, length, reverse}
use Rattle.iss_buckets.specs.Waiting.{AreNew, absent}
use Rattle.iss_log.specs.Chains.{IsChainOf}
use Rattle.iss_rules.specs.Formats.{formats_of}
use Rattle.iss_model.specs.Node.{own_claims, packed, returned}
use Rattle.iss_rules.specs.declared.events.Refusal.{Refusal}
use Rattle.iss_node.specs.Flights.{IsCompleted}
use Rattle.iss_node.specs.Internal.Growth.{AreJoined, IsGrown, and_values, waits_on}
use Rattle.iss_node.specs.State.{StateView, led}
use Rattle.iss_node.specs.declared.answers.Accepted.{Accepted}
use Rattle.iss_node.specs.declared.answers.Outcome.{Outcome}
use Rattle.iss_request.specs.Log.{has_id, log_ids}
use Rattle.iss_request.specs.declared.ids.NodeId.{NodeId}
use Rattle.iss_request.specs.declared.ids.ReqId.{ReqId}
use Rattle.iss_request.specs.declared.ids.Slot.{Slot}
use Rattle.iss_request.specs.declared.requests.Batch.{Batch}
use Rattle.iss_request.specs.declared.requests.Value.{Value}
use Rattle.iss_sb.specs.Evidence.{Module}
use Rattle.iss_sb.specs.declared.effects.Effects.{Effects}
use Rattle.iss_sb.specs.declared.effects.Input.{Input}
use Rattle.iss_sb.specs.declared.effects.To.{To}
use Rattle.iss_sb.specs.Calls.{Relation}
use Rattle.iss_segment.specs.Answers.{IsInstanceTaken, IsVerdict}
use Rattle.iss_segment.specs.Ground.{noted_before}
use Rattle.iss_segment.specs.Instance.{SegmentState}
use Rattle.iss_segment.specs.declared.segment.StepRefusal.{StepRefusal}
use Rattle.iss_segment.specs.declared.segment.StepRefusal.TheVariants.{Spent as Refusal_spent, Refused, NoMemory as Refusal_no_memory}
use Rattle.iss_window.specs.Kept.{RefinesNoted}

-- The instance of leader l took an input. Apart from it only the keys have changed.
pub record IsInputTaken {M Msg : Type 0} (m : Module Msg) (refines : Relation M Msg)
    (old new : StateView M Msg) (l : ℕ) (input : Input Msg) (e : Effects Msg) : Type 0 where
  pub was : SegmentState M
  pub is : SegmentState M
  pub at : led old.segments l ≡ Some was
  pub there : led new.segments l ≡ Some is
  pub others : (k : ℕ) → k ≢ l → led new.segments k ≡ led old.segments k
  pub taken : IsInstanceTaken m refines was is input old.keys new.keys e
  pub rest : new ≡ record old { segments = new.segments; keys = new.keys }

-- The validity check of the batch that the input asks for.
abbrev pub IsVerdictAt : {M Msg : Type 0} → Module Msg → Relation M Msg → StateView M Msg → ℕ → Input Msg →
    Option Refusal → Type 0
IsVerdictAt {M = M} m refines v l input answer = (g : SegmentState M) → led v.segments l ≡ Some g →
    IsVerdict m refines v.plan v.windows g input answer

-- An input whose batch is checked first.
abbrev pub IsJudgedInput : {M Msg : Type 0} → Module Msg → Relation M Msg → StateView M Msg → StateView M Msg →
    ℕ → Input Msg → Result (Effects Msg) StepRefusal → Type 0
IsJudgedInput m refines old new l input (Ok e) = IsInputTaken m refines old new l input e
    × IsVerdictAt m refines old l input None
IsJudgedInput m refines old new l input (Err (Refused why)) = (new ≡ old) × IsVerdictAt m refines old l input (Some why)
IsJudgedInput m refines old new l input (Err Refusal_spent) = ⊥
IsJudgedInput m refines old new l input (Err Refusal_no_memory) = Unit {0}

-- These are the identities of the log: those that the windows noted in earlier epochs, and those of this epoch.
pub record AreLogged {M Msg : Type 0} (v : StateView M Msg) (all : List ReqId) : Type 0 where
  pub before : List Value
  pub noted : RefinesNoted v.windows (noted_before before)
  pub members : (x : ReqId) → has_id x all ≡ (has_id x v.logged || has_id x (log_ids before))

abbrev pub and_accepted : NodeId → List Accepted → Option (Slot × Batch) → List Accepted
and_accepted l xs None = xs
and_accepted l xs (Some a) = xs ++ record { leader = l; slot = a.0; batch = a.1 } ∷ []

-- Proposals for slots of the log are no longer in flight. If the slot became nil, their requests wait again, unless
-- they are in the log.
pub record HasCompletedCasts {M Msg : Type 0} (old new : StateView M Msg) : Type 0 where
  pub landed : IsCompleted old.flight new.flight (length old.log.entries)
  pub waiting : (all : List ReqId) → AreLogged old all →
      AreNew old.waiting (absent all (returned (reverse old.log.entries) old.flight.casts)) →
      new.waiting ≡ old.waiting ++ absent all (returned (reverse old.log.entries) old.flight.casts)

-- The log was extended by what was delivered, as far as slots are filled.
pub record HasAppliedDeliveries {M Msg : Type 0} (old new : StateView M Msg)
    (delivers : List (Slot × Value)) : Type 0 where
  pub held : ℕ
  pub grown : IsGrown old.log delivers new.log held
  pub logged : new.logged ≡ fold and_values old.logged grown.joined
  -- Ordered requests no longer wait.
  pub landed : HasCompletedCasts
      (record old {
        log = new.log;
        chains = new.chains;
        logged = new.logged;
        waiting = fold waits_on old.waiting grown.joined;
      }) new
  pub rest : new ≡ record old {
    log = new.log;
    chains = new.chains;
    logged = new.logged;
    flight = new.flight;
    waiting = new.waiting;
  }

-- The chain was extended with the log, and the strings hashed for that were appended.
pub record IsChained {M Msg : Type 0} (old new : StateView M Msg) (before after : List (List ℕ)) : Type 0 where
  pub joined : (more : List Value) → new.log.entries ≡ old.log.entries ++ more → IsChainOf old.chains old.log.entries →
      AreJoined old.chains old.log.entries more new.chains before after
  pub version : new.chains.version ≡ old.chains.version

-- The outcome of a step of leader l's instance: its packets, the node's own signatures in them, and the hashed strings.
pub record IsHandedOut {M Msg : Type 0} (m : Module Msg) (v : StateView M Msg) (l : ℕ) (sends : List (To × Msg))
    (hashed : List (List ℕ))
    (o : Outcome) : Type 0 where
  pub sent : o.sends ≡ packed (formats_of v.setup m) v.me.0 v.epoch l sends
  pub own : (g : SegmentState M) → led v.segments l ≡ Some g → o.own ≡ own_claims m g.params v.me.0 sends
  pub early : o.early ≡ []
  pub hashed_is : o.hashed ≡ hashed
  pub entered : o.entered ≡ None

-- The effects of an instance's step were applied to the node.
pub record HasAppliedEffects {M Msg : Type 0} (old new : StateView M Msg) (l : NodeId) (e : Effects Msg) : Type 0 where
  pub accepted : new.accepted ≡ and_accepted l old.accepted e.accepted
  pub grown : HasAppliedDeliveries (record old { accepted = new.accepted }) new e.delivers
