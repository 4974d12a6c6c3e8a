-- What an instance answers to an input: it was taken, the judge refuses it, or too few leaves are left. In the last
-- two cases nothing changes.
use Rattle.std.specs.Prelude.{◌≡◌, ℕ, ◌+◌, ◌<◌, ◌≤◌, List, Option, Some, None, Result, Ok, Err}
use Rattle.iss_keys.specs.Directories.{AreKeysOf}
use Rattle.iss_keys.specs.KeyStates.{KeyState, left_of}
use Rattle.iss_layout.specs.Layout.{Plan}
use Rattle.iss_rules.specs.Concrete.{rules_of}
use Rattle.iss_rules.specs.Verdicts.{verdict}
use Rattle.iss_rules.specs.declared.events.Refusal.{Refusal}
use Rattle.iss_request.specs.declared.requests.Value.{Value}
use Rattle.iss_sb.specs.Calls.{IsTaken, IsWithin}
use Rattle.iss_sb.specs.Evidence.{Item, Module, accepts, and_then}
use Rattle.iss_sb.specs.declared.effects.Effects.{Effects}
use Rattle.iss_sb.specs.declared.effects.Input.{Input}
use Rattle.iss_sb.specs.declared.effects.Params.{Params}
use Rattle.iss_sb.specs.declared.effects.StepError.{StepError}
use Rattle.iss_sb.specs.declared.effects.StepError.TheVariants.{Spent, NoMemory}
use Rattle.iss_segment.specs.Ground.{RestsOn}
use Rattle.iss_segment.specs.Instance.{RefinesItems, SegmentState}
use Rattle.iss_segment.specs.declared.segment.StepRefusal.{StepRefusal}
use Rattle.iss_segment.specs.declared.segment.StepRefusal.TheVariants.{Spent as Refusal_spent, Refused, NoMemory as Refusal_no_memory}
use Rattle.iss_window.specs.Kept.{Kept}

-- The instance took the input.
pub record IsInstanceTaken {M Msg : Type 0} (m : Module Msg) (refines : M → Params → ℕ → List (Item Msg) → Type 0)
    (old new : SegmentState M) (i : Input Msg) (before later : KeyState) (e : Effects Msg) : Type 0 where
  pub same_params : new.params ≡ old.params
  pub same_node : new.me ≡ old.me
  pub refined : (xs : List (Item Msg)) → RefinesItems refines old xs → AreKeysOf old.me.0 old.params.setup.keys before →
      RefinesItems refines new (and_then m old.params old.me.0 xs i before.used)
  pub effects : (xs : List (Item Msg)) → RefinesItems refines old xs → AreKeysOf old.me.0 old.params.setup.keys before →
      IsTaken m old.params old.me.0 xs i before.used e
  pub used : (xs : List (Item Msg)) → RefinesItems refines old xs → AreKeysOf old.me.0 old.params.setup.keys before →
      later.used ≡ before.used + (m.makes old.params old.me.0 xs i before.used).used
  pub within : IsWithin m old.params before later e
  pub enough : m.signs old.params ≤ left_of before

-- Fewer one-time keys are left than a step may use, and nothing has changed.
pub record IsInstanceSpent {M Msg : Type 0} (m : Module Msg) (old new : SegmentState M)
    (before later : KeyState) : Type 0 where
  pub too_few : left_of before < m.signs old.params
  pub same : new ≡ old
  pub same_keys : later ≡ before

abbrev pub IsInstanceStep : {M Msg : Type 0} → Module Msg → (M → Params → ℕ → List (Item Msg) → Type 0) →
    SegmentState M → SegmentState M → Input Msg → KeyState → KeyState → Result (Effects Msg) StepError → Type 0
IsInstanceStep m refines old new i before later (Ok e) = IsInstanceTaken m refines old new i before later e
IsInstanceStep m refines old new i before later (Err Spent) = IsInstanceSpent m old new before later
IsInstanceStep m refines old new i before later (Err NoMemory) = Unit {0}

-- The validity check of the batch that the input asks to accept. It holds for each log that gives the epoch these
-- buckets and windows.
abbrev pub IsVerdict : {M Msg : Type 0} → Module Msg → (M → Params → ℕ → List (Item Msg) → Type 0) → Plan → Kept →
    SegmentState M →
    Input Msg → Option Refusal → Type 0
IsVerdict {Msg = Msg} m refines plan windows g i answer =
    (before : List Value) (xs : List (Item Msg)) → RestsOn g.params.setup before g.params.epoch.0 plan windows →
    RefinesItems refines g xs →
    verdict (rules_of g.params.setup) before g.params.epoch.0 g.params.leader.0 (accepts xs)
    (m.asks g.params g.me.0 xs i) ≡ answer

-- The batch is valid, and the input was taken.
pub record IsJudgedTaken {M Msg : Type 0} (m : Module Msg) (refines : M → Params → ℕ → List (Item Msg) → Type 0)
    (plan : Plan) (windows : Kept)
    (old new : SegmentState M) (i : Input Msg) (before later : KeyState) (e : Effects Msg) : Type 0 where
  pub accepted : IsVerdict m refines plan windows old i None
  pub taken : IsInstanceTaken m refines old new i before later e

-- The batch was refused, and nothing has changed.
pub record IsInstanceRefused {M Msg : Type 0} (m : Module Msg) (refines : M → Params → ℕ → List (Item Msg) → Type 0)
    (plan : Plan) (windows : Kept)
    (old new : SegmentState M) (i : Input Msg) (before later : KeyState) (why : Refusal) : Type 0 where
  pub enough : m.signs old.params ≤ left_of before
  pub refused : IsVerdict m refines plan windows old i (Some why)
  pub same : new ≡ old
  pub same_keys : later ≡ before

abbrev pub IsJudgedStep : {M Msg : Type 0} → Module Msg → (M → Params → ℕ → List (Item Msg) → Type 0) → Plan → Kept →
    SegmentState M → SegmentState M → Input Msg → KeyState → KeyState → Result (Effects Msg) StepRefusal → Type 0
IsJudgedStep m refines plan windows old new i before later (Ok e) =
    IsJudgedTaken m refines plan windows old new i before later e
IsJudgedStep m refines plan windows old new i before later (Err Refusal_spent) = IsInstanceSpent m old new before later
IsJudgedStep m refines plan windows old new i before later (Err (Refused why)) =
    IsInstanceRefused m refines plan windows old new i before later why
IsJudgedStep m refines plan windows old new i before later (Err Refusal_no_memory) = Unit {0}
