-- The core that read the evidence which ended a run. A run ends where a core takes something: what an event gives it
-- itself, or a packet that the event delivers.
use Rattle.std.specs.Prelude.{ℕ, zero, suc, ◌==◌, Bool, false, List, [], ◌∷◌, Option, Some, None, option_map, take}
use Rattle.iss_base.specs.Lists.{nth}
use Rattle.iss_network.specs.Network.{due}
use Rattle.iss_request.specs.declared.setups.Setup.{Setup}
use Rattle.iss_sb.specs.Evidence.{Module}
use Rattle.iss_schedule.specs.declared.schedules.Event.{Event}
use Rattle.iss_schedule.specs.declared.schedules.Event.TheVariants.{Request as Event_request, Propose, Timeout as Event_timeout, Ask, Deliver, Lose, Pump, Calm, Hold, Free, Drop as Event_drop, Restart, Crash, Bytes}
use Rattle.iss_rules.specs.Ends.{End}
use Rattle.iss_model.specs.Courses.{Machines, driver_of}
use Rattle.iss_model.specs.Driver.{Driver, delivers, pumps}
use Rattle.iss_theorems.specs.Recovery.{course_after}

-- whether core i is the reader
abbrev pub is_reader : Option ℕ → ℕ → Bool
is_reader None i = false
is_reader (Some core) i = i == core

-- the core that packet k is for
abbrev pub addressee : {Msg : Type 0} → Machines Msg → ℕ → Option ℕ
addressee w k = option_map (λ p. p.to) (nth w.held.net.network.packets k)

-- the first of two readers, if the run ended there, and otherwise the later one
abbrev pub reader_at : Option End → (here later : Option ℕ) → Option ℕ
reader_at None here later = later
reader_at (Some end) here later = here

-- of the delivery that ends the run, among these: the core that its packet is for
abbrev pub reader_of_each : {Msg : Type 0} → Driver (Machines Msg) → List ℕ → Machines Msg → Option ℕ
reader_of_each W [] w = None
reader_of_each W (k ∷ ks) w =
    let d = delivers W w k in
    reader_at d.ended (addressee w k) (reader_of_each W ks d.state)

-- the same among the deliveries of a pump, and of n pumps
abbrev pub reader_of_pump : {Msg : Type 0} → Driver (Machines Msg) → Machines Msg → Option ℕ
reader_of_pump W w = reader_of_each W (due w.held.net.network) w

abbrev pub reader_of_calm : {Msg : Type 0} → Driver (Machines Msg) → ℕ → Machines Msg → Option ℕ
reader_of_calm W zero w = None
reader_of_calm W (suc m) w =
    let d = pumps W w in
    reader_at d.ended (reader_of_pump W w) (reader_of_calm W m d.state)

-- The core that reads the evidence, if this event ends the run: the one that the event names, or that a packet is for.
abbrev pub reader_of : {Msg : Type 0} → Driver (Machines Msg) → Machines Msg → Event → Option ℕ
reader_of W w (Event_request core client number payload) = Some core
reader_of W w (Propose core) = Some core
reader_of W w (Event_timeout core l) = Some core
reader_of W w (Ask core peer) = Some core
reader_of W w (Deliver k) = addressee w k
reader_of W w (Lose k) = None
reader_of W w Pump = reader_of_pump W w
reader_of W w (Calm m) = reader_of_calm W m w
reader_of W w (Hold core) = None
reader_of W w (Free core) = None
reader_of W w (Event_drop core) = None
reader_of W w (Restart core) = None
reader_of W w (Crash core calls) = None
reader_of W w (Bytes core bytes) = Some core

abbrev pub reader_of_some : {Msg : Type 0} → Driver (Machines Msg) → Machines Msg → Option Event → Option ℕ
reader_of_some W w None = None
reader_of_some W w (Some e) = reader_of W w e

-- the core that read the evidence which ended the run of these events: at the event that ended it, in the state before
abbrev pub reader_until : {Msg : Type 0} → Setup → Module Msg → List Event → Option (ℕ × End) → Option ℕ
reader_until s M events None = None
reader_until s M events (Some at) =
    reader_of_some (driver_of s M) (course_after s M (take at.0 events)).state (nth events at.0)

abbrev pub reader_after : {Msg : Type 0} → Setup → Module Msg → List Event → Option ℕ
reader_after s M events = reader_until s M events (course_after s M events).ended
