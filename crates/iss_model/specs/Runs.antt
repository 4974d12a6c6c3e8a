-- What each core of a run took, and at which cores events happen.
use Rattle.std.specs.Prelude.{◌≡◌, ℕ, ◌<◌, List, [], ◌∷◌, ◌++◌}
use Rattle.iss_request.specs.declared.requests.Value.{Value}
use Rattle.iss_request.specs.declared.setups.Setup.{Setup}
use Rattle.iss_schedule.specs.declared.schedules.Event.{Event}
use Rattle.iss_schedule.specs.declared.schedules.Event.TheVariants.{Request as Event_request, Propose, Timeout as Event_timeout, Ask, Deliver, Lose, Pump, Calm, Hold, Free, Drop as Event_drop, Restart, Crash, Bytes}
use Rattle.iss_rules.specs.Past.{Past}
use Rattle.iss_model.specs.Run.{Net, cores_of}

-- what each core took
abbrev pub pasts_of : {Msg : Type 0} → Net Msg → ℕ → Past Msg
pasts_of w i = (w.cores i).past

-- a is a prefix of b
abbrev pub IsPrefix : List Value → List Value → Type 0
IsPrefix a b = (rest : List Value) × (b ≡ a ++ rest)

-- the event is at a core that exists
abbrev pub IsAtCore : Setup → Event → Type 0
IsAtCore s (Event_request c client number payload) = c < cores_of s
IsAtCore s (Propose c) = c < cores_of s
IsAtCore s (Event_timeout c l) = c < cores_of s
IsAtCore s (Ask c peer) = c < cores_of s
IsAtCore s (Deliver k) = Unit {0}
IsAtCore s (Lose k) = Unit {0}
IsAtCore s Pump = Unit {0}
IsAtCore s (Calm m) = Unit {0}
IsAtCore s (Hold c) = Unit {0}
IsAtCore s (Free c) = Unit {0}
IsAtCore s (Event_drop c) = Unit {0}
IsAtCore s (Restart c) = Unit {0}
IsAtCore s (Crash c calls) = Unit {0}
IsAtCore s (Bytes c bytes) = Unit {0}

-- the same of all events
abbrev pub AreAtCores : Setup → List Event → Type 0
AreAtCores s [] = Unit {0}
AreAtCores s (e ∷ es) = IsAtCore s e × AreAtCores s es
