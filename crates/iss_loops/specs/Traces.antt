-- The trace of a loop: the events that it made, as a schedule. It has at most 1,000,000 events and 16,000,000 bytes,
-- so it can be replayed, whatever the loop did.
use Rattle.std.specs.Prelude.{◌≡◌, ◌&&◌, nat_le, ℕ, Bool, true, false, List, [], ◌∷◌, ◌++◌, length}
use Rattle.iss_loops.specs.Behavior.{Behavior}
use Rattle.iss_request.specs.declared.setups.Setup.{Setup}
use Rattle.iss_schedule.specs.Events.{IsInRange}
use Rattle.iss_schedule.specs.Schedules.{text_of}
use Rattle.iss_schedule.specs.declared.schedules.Event.{Event}
use Rattle.iss_schedule.specs.declared.schedules.Event.TheVariants.{Request, Propose, Timeout, Ask, Deliver, Lose, Pump, Calm, Hold, Free, Drop, Restart, Crash, Bytes}

abbrev pub most_trace_events : ℕ
most_trace_events = 1000000

abbrev pub most_trace_bytes : ℕ
most_trace_bytes = 16000000

-- the length of the text of these events
abbrev pub text_length : Setup → List Event → ℕ
text_length s events = length (text_of (record { setup = s; events = events }))

-- rule: Loopback: A trace has at most 1,000,000 events and 16,000,000 bytes
abbrev pub is_within_limits : Setup → List Event → Bool
is_within_limits s events =
    nat_le (length events) most_trace_events && nat_le (text_length s events) most_trace_bytes

-- The kinds of events that a loop makes. No disk fails, no core restarts and no packet is held back by the loop itself.
abbrev pub IsOfLoop : Event → Type 0
IsOfLoop (Request core client number payload) = Unit {0}
IsOfLoop (Propose core) = Unit {0}
IsOfLoop (Timeout core leader) = Unit {0}
IsOfLoop (Ask core peer) = Unit {0}
IsOfLoop (Deliver packet) = Unit {0}
IsOfLoop (Bytes core bytes) = Unit {0}
IsOfLoop (Lose packet) = ⊥
IsOfLoop Pump = ⊥
IsOfLoop (Calm pumps) = ⊥
IsOfLoop (Hold core) = ⊥
IsOfLoop (Free core) = ⊥
IsOfLoop (Drop core) = ⊥
IsOfLoop (Restart core) = ⊥
IsOfLoop (Crash core calls) = ⊥

-- an event of these kinds, of the set-up's cores and nodes
abbrev pub MayBeMade : Setup → Event → Type 0
MayBeMade s e = IsInRange s e × IsOfLoop e

-- The event may come next in a trace: it is in range, the trace stays within its limits, and no event before it showed
-- evidence.
pub record IsNext (B : Behavior) (before : List Event) (e : Event) : Type 0 where
  pub range : IsInRange B.setup e
  pub kind : IsOfLoop e
  pub limits : is_within_limits B.setup (before ++ e ∷ []) ≡ true
  pub no_evidence : B.has_evidence before ≡ false

-- So of each event. An event that shows evidence is the last one.
-- An event that shows evidence is the last of a trace
abbrev pub IsTrace : Behavior → List Event → Type 0
IsTrace B events = (before later : List Event) (e : Event) → events ≡ before ++ e ∷ later → IsNext B before e
