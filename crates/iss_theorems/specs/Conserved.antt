-- No request is lost: each identity that a correct core took is in exactly one of its log, its waiting list and its
-- batches in flight. It rests on the law that a correct leader accepts one batch at a slot.
use Rattle.std.specs.Prelude.{◌≡◌, ◌⊎◌, ℕ, true, cond, ◌==◌, List, [], ◌∷◌, Option, Some, None}
use Rattle.iss_base.specs.Lists.{In}
use Rattle.iss_request.specs.Log.{ids, log_ids}
use Rattle.iss_request.specs.declared.ids.ReqId.{ReqId}
use Rattle.iss_request.specs.declared.setups.Setup.{Setup}
use Rattle.iss_schedule.specs.declared.schedules.Event.{Event}
use Rattle.iss_schedule.specs.declared.schedules.Event.TheVariants.{Request as Event_request, Propose, Timeout as Event_timeout, Ask, Deliver, Lose, Pump, Calm, Hold, Free, Drop as Event_drop, Restart, Crash, Bytes}
use Rattle.iss_sb.specs.Evidence.{Module, is_correct}
use Rattle.iss_rules.specs.declared.events.Why.{Why}
use Rattle.iss_rules.specs.Concrete.{rules_of}
use Rattle.iss_rules.specs.Formats.{formats_of}
use Rattle.iss_model.specs.Node.{Core, flown}
use Rattle.iss_rules.specs.Past.{log_of}
use Rattle.iss_rules.specs.Rules.{Rules}
use Rattle.iss_theorems.specs.OneLog.{run_after}
use Rattle.iss_model.specs.Run.{begin_run, failure_free}
use Rattle.iss_model.specs.Driver.{Driver, Progress, Upshot, apply_event, run_event_if_open}

-- the identity of a request event at core i, if the core accepted the request
abbrev pub asked_by : ℕ → Event → Option Why → List ReqId
asked_by i (Event_request c client number payload) None =
    cond (c == i) (record { client = client; number = number } ∷ []) []
asked_by i (Event_request c client number payload) (Some why) = []
asked_by i (Propose c) lost = []
asked_by i (Event_timeout c l) lost = []
asked_by i (Ask c peer) lost = []
asked_by i (Deliver k) lost = []
asked_by i (Lose k) lost = []
asked_by i Pump lost = []
asked_by i (Calm m) lost = []
asked_by i (Hold c) lost = []
asked_by i (Free c) lost = []
asked_by i (Event_drop c) lost = []
asked_by i (Restart c) lost = []
asked_by i (Crash c calls) lost = []
asked_by i (Bytes c bytes) lost = []

-- a request in the event that stops the run, or in a later one, was not accepted
abbrev pub unless_ended : {A : Type 0} → Option A → List ReqId → List ReqId
unless_ended None xs = xs
unless_ended (Some end) xs = []

-- the same, given the outcome of the event
abbrev pub asked_in : {S : Type 0} → ℕ → Event → Upshot S → List ReqId
asked_in i e d = unless_ended d.ended (asked_by i e d.lost)

-- one of these events is a request with this identity that core i accepted; with disks, also journaled
abbrev pub WasAsked : {S : Type 0} → Driver S → Progress S → List Event → ℕ → ReqId → Type 0
WasAsked D p [] i x = ⊥
WasAsked D p (e ∷ es) i x =
    In x (unless_ended p.ended (asked_in i e (apply_event D p.state e))) ⊎
    WasAsked D (run_event_if_open p.ended D p e) es i x

-- exactly one of three
pub data One (A B C : Type 0) : Type 0 where
  first : A → (B → ⊥) → (C → ⊥) → One A B C
  second : (A → ⊥) → B → (C → ⊥) → One A B C
  third : (A → ⊥) → (B → ⊥) → C → One A B C

-- the identity is in exactly one place at the core: its log, the waiting requests, or a batch in flight
abbrev pub IsInOnePlace : {Msg : Type 0} → Rules → Module Msg → ℕ → Core Msg → ReqId → Type 0
IsInOnePlace R M i c x = One (In x (log_ids (log_of R M i c.past))) (In x (ids c.waiting)) (In x (flown c.flight))

-- No loss: each request that a correct core accepted is still there, in exactly one place.
-- rule: Epochs: A request that a correct node took is in one place: its log, waiting, or in flight
abbrev pub IsConserved : {Msg : Type 0} → Setup → Module Msg → List Event → Type 0
IsConserved s M events =
    (i : ℕ) → is_correct s i ≡ true → (x : ReqId) →
    WasAsked (failure_free s (formats_of s M) (rules_of s) M) (begin_run s) events i x →
    IsInOnePlace (rules_of s) M i ((run_after s M events).state.net.cores i) x
