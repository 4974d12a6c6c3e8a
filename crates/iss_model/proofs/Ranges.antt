-- All events of a valid schedule are at existing cores.
use Rattle.std.proofs.Common.{List, [], ◌∷◌}
use Rattle.iss_request.specs.declared.setups.Setup.{Setup}
use Rattle.iss_schedule.specs.Events.{AreInRange, IsInRange}
use Rattle.iss_schedule.specs.declared.schedules.Event.{Event}
use Rattle.iss_schedule.specs.declared.schedules.Event.TheVariants.{Request as Event_request, Propose, Timeout as Event_timeout, Ask, Deliver, Lose, Pump, Calm, Hold, Free, Drop as Event_drop, Restart, Crash, Bytes}
use Rattle.iss_model.specs.Runs.{AreAtCores, IsAtCore}

at-core : (s : Setup) (e : Event) → IsInRange s e → IsAtCore s e
at-core s (Event_request c client number payload) h = h.0
at-core s (Propose c) h = h
at-core s (Event_timeout c l) h = h.0
at-core s (Ask c peer) h = h.0
at-core s (Deliver k) h = tt
at-core s (Lose k) h = tt
at-core s Pump h = tt
at-core s (Calm m) h = tt
at-core s (Hold c) h = tt
at-core s (Free c) h = tt
at-core s (Event_drop c) h = tt
at-core s (Restart c) h = tt
at-core s (Crash c calls) h = tt
at-core s (Bytes c bytes) h = tt

pub at-cores : (s : Setup) (events : List Event) → AreInRange s events → AreAtCores s events
at-cores s [] h = tt
at-cores s (e ∷ events) h = (at-core s e h.0, at-cores s events h.1)
