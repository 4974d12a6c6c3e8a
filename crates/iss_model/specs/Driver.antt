-- A run, over any kind of state. A driver says what the cores of a state do. The run delivers packets, numbers events
-- and ends with the first evidence. A run without failures and one in which disks fail have two drivers.
use Rattle.std.specs.Prelude.{ℕ, zero, suc, Bool, true, false, cond, List, [], ◌∷◌, Option, Some, None}
use Rattle.iss_base.specs.Lists.{nth}
use Rattle.iss_network.specs.Network.{Network, cleared, due, held_to, settled}
use Rattle.iss_network.specs.declared.packets.Sent.{Sent}
use Rattle.iss_schedule.specs.declared.schedules.Event.{Event}
use Rattle.iss_schedule.specs.declared.schedules.Event.TheVariants.{Request as Event_request, Propose, Timeout as Event_timeout, Ask, Deliver, Lose, Pump, Calm, Hold, Free, Drop as Event_drop, Restart, Crash, Bytes}
use Rattle.iss_rules.specs.declared.events.NodeEvent.{NodeEvent}
use Rattle.iss_rules.specs.declared.events.NodeEvent.TheVariants.{Packet as On_packet, Propose as On_propose, Timeout as On_timeout, AskFrom as On_ask}
use Rattle.iss_rules.specs.declared.events.Why.{Why}
use Rattle.iss_rules.specs.declared.events.Why.TheVariants.{NoPacket}
use Rattle.iss_rules.specs.Ends.{End}

-- The outcome of an event: the new state, why the event was lost, and the evidence that stopped the run. Evidence found
-- at a delivery leaves the state before that delivery.
pub record Upshot (S : Type 0) : Type 0 where
  pub state : S
  pub lost : Option Why
  pub ended : Option End

-- the event took effect
abbrev pub done : {S : Type 0} → S → Upshot S
done x = record { state = x; lost = None; ended = None }

-- the event was lost
abbrev pub lost_by : {S : Type 0} → S → Why → Upshot S
lost_by x why = record { state = x; lost = Some why; ended = None }

-- the event stopped the run
abbrev pub ended_by : {S : Type 0} → S → End → Upshot S
ended_by x end = record { state = x; lost = None; ended = Some end }

-- what a state has and what its cores do
pub record Driver (S : Type 0) : Type 0 where
  -- a core takes an event
  pub takes : S → ℕ → NodeEvent → Upshot S
  -- the network of a state, and the state with another network
  pub network : S → Network
  pub rewired : S → Network → S
  -- a core recovers
  pub restart : S → ℕ → Upshot S
  -- all but this many further calls of a core's disk fail
  pub crash : S → ℕ → ℕ → S
  -- the packet in which a client's request with this number and payload arrives
  pub arrival : ℕ → ℕ → List ℕ → List ℕ
  -- whether injected bytes are ignored
  pub stopping : Bool

-- continues only if the run has not stopped
abbrev pub unless : {S : Type 0} → Option End → Upshot S → (S → Upshot S) → Upshot S
unless None d more = more d.state
unless (Some end) d more = d

-- packet k is taken by its core and leaves the queue
-- rule: Recovery: A missing packet is reported before the disk is asked
abbrev pub delivered_to : {S : Type 0} → Driver S → S → ℕ → Option Sent → Upshot S
delivered_to D x k None = lost_by x NoPacket
delivered_to D x k (Some p) = D.takes (D.rewired x (settled (D.network x) k)) p.to (On_packet p.bytes)

-- delivers packet k
-- rule: Network: A delivered packet is taken by its core, whether or not it still waits
abbrev pub delivers : {S : Type 0} → Driver S → S → ℕ → Upshot S
delivers D x k = delivered_to D x k (nth (D.network x).packets k)

-- delivers these packets in order, even if one is lost
abbrev pub delivers_each : {S : Type 0} → Driver S → List ℕ → S → Upshot S
delivers_each D [] x = done x
delivers_each D (k ∷ ks) x =
    let d = delivers D x k in
    unless d.ended d (delivers_each D ks)

-- delivers in order the packets that wait at the start of the pump and whose core is not held
abbrev pub pumps : {S : Type 0} → Driver S → S → Upshot S
pumps D x = delivers_each D (due (D.network x)) x

-- n pumps; a pump that finds no packet changes nothing
-- rule: Network: A calm is n pumps, fewer if one finds nothing or ends the run
abbrev pub calms : {S : Type 0} → Driver S → ℕ → S → Upshot S
calms D zero x = done x
calms D (suc m) x =
    let d = pumps D x in
    unless d.ended d (calms D m)

-- packet k leaves the queue undelivered
-- rule: Network: A lost packet waits no more
abbrev pub loses : {S : Type 0} → Driver S → S → ℕ → Option Sent → Upshot S
loses D x k None = lost_by x NoPacket
loses D x k (Some p) = done (D.rewired x (settled (D.network x) k))

-- Injected bytes are delivered only if the module is Byzantine; otherwise the event does nothing.
abbrev pub injects : {S : Type 0} → Driver S → S → ℕ → List ℕ → Upshot S
injects D x c bytes = cond D.stopping (done x) (D.takes x c (On_packet bytes))

-- one event of a schedule
abbrev pub apply_event : {S : Type 0} → Driver S → S → Event → Upshot S
apply_event D x (Event_request c client number payload) = D.takes x c (On_packet (D.arrival client number payload))
apply_event D x (Propose c) = D.takes x c On_propose
apply_event D x (Event_timeout c l) = D.takes x c (On_timeout l)
apply_event D x (Ask c peer) = D.takes x c (On_ask peer)
apply_event D x (Deliver k) = delivers D x k
apply_event D x (Lose k) = loses D x k (nth (D.network x).packets k)
apply_event D x Pump = pumps D x
apply_event D x (Calm m) = calms D m x
apply_event D x (Hold c) = done (D.rewired x (held_to (D.network x) c true))
apply_event D x (Free c) = done (D.rewired x (held_to (D.network x) c false))
apply_event D x (Event_drop c) = done (D.rewired x (cleared (D.network x) c))
apply_event D x (Restart c) = D.restart x c
apply_event D x (Crash c calls) = done (D.crash x c calls)
apply_event D x (Bytes c bytes) = injects D x c bytes

-- A run so far: its state, the number of the next event, the events that were lost (newest first), and the number of
-- the event that stopped it, with the evidence.
pub record Progress (S : Type 0) : Type 0 where
  pub state : S
  pub event : ℕ
  pub drops : List (ℕ × Why)
  pub ended : Option (ℕ × End)

-- a run of no events
abbrev pub begin_at : {S : Type 0} → S → Progress S
begin_at x = record { state = x; event = 0; drops = []; ended = None }

abbrev pub noted : ℕ → Option Why → List (ℕ × Why) → List (ℕ × Why)
noted k None drops = drops
noted k (Some why) drops = (k, why) ∷ drops

abbrev pub ended_at : ℕ → Option End → Option (ℕ × End)
ended_at k None = None
ended_at k (Some end) = Some (k, end)

-- a run with one more event
abbrev pub run_event : {S : Type 0} → Driver S → Progress S → Event → Progress S
run_event D p e =
    let d = apply_event D p.state e in
    record {
      state = d.state;
      event = suc p.event;
      drops = noted p.event d.lost p.drops;
      ended = ended_at p.event d.ended;
    }

-- a run that has stopped stays as it is
abbrev pub run_event_if_open : {S : Type 0} → Option (ℕ × End) → Driver S → Progress S → Event → Progress S
run_event_if_open None D p e = run_event D p e
run_event_if_open (Some end) D p e = p

-- a run with these events, oldest first
abbrev pub run : {S : Type 0} → Driver S → Progress S → List Event → Progress S
run D p [] = p
run D p (e ∷ es) = run D (run_event_if_open p.ended D p e) es
