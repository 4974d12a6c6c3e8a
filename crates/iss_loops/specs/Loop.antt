-- Which events the loop of a cluster makes, as a function of its plan, of what the cluster does, and of what its links
-- hold at the start. Links that record no frames, as those over sockets, have no such function.
use Rattle.std.specs.Prelude.{ℕ, zero, suc, ◌+◌, ◌/◌, ◌%◌, ◌==◌, ◌&&◌, ◌||◌, nat_lt, Bool, true, false, bytes_eq, List, [], ◌∷◌, ◌++◌, length, drop, Option, Some, None, if◌then◌else◌}
use Rattle.std.specs.Int.{w32, to_be_bytes}
use Rattle.iss_links.specs.Ends.{End, after_send, after_take, end_at}
use Rattle.iss_links.specs.Frames.{Fragment}
use Rattle.iss_links.specs.Reassembly.{Partial, completed_by}
use Rattle.iss_loops.specs.Behavior.{Behavior}
use Rattle.iss_loops.specs.Traces.{is_within_limits}
use Rattle.iss_network.specs.declared.packets.Sent.{Sent}
use Rattle.iss_request.specs.declared.ids.NodeId.{NodeId}
use Rattle.iss_request.specs.declared.setups.Kind.{Kind}
use Rattle.iss_request.specs.declared.setups.Kind.TheVariants.{Byzantine, Stopping}
use Rattle.iss_schedule.specs.declared.schedules.Event.{Event}
use Rattle.iss_schedule.specs.declared.schedules.Event.TheVariants.{Request, Propose, Timeout, Ask, Deliver, Bytes}

-- how many requests a loop makes, how many turns it takes, how many frames a core takes in a turn at most, and after
-- how many idle turns in a row the cores wake up
pub record LoopPlan : Type 0 where
  pub requests : ℕ
  pub turns : ℕ
  pub frames : ℕ
  pub patience : ℕ

-- how far a loop has come
pub record LoopState : Type 0 where
  -- its trace, oldest event first
  pub events : List Event
  -- what the links hold
  pub ends : List End
  -- no core has proposed in this turn, and no packet has arrived
  pub idle : Bool
  -- how many turns in a row before this one were idle
  pub idle_turns : ℕ
  -- the next event would have passed the limits of the trace
  pub full : Bool

-- rule: Loopback: A loop ends after an event that shows evidence, and before one that would pass a trace's limits
abbrev pub has_ended : Behavior → LoopState → Bool
has_ended B l = l.full || B.has_evidence l.events

-- ---- one event

-- the packets from number k on go to the links
abbrev pub send_packets : ℕ → List Sent → List End → List End
send_packets k [] ends = ends
send_packets k (p ∷ ps) ends = send_packets (suc k) ps (after_send p.from k p.to p.bytes ends)

-- an event happens, and the packets that it sends go to the links
-- rule: Loopback: After each event its packets go to the links, in order, each under its own number
abbrev pub happens : Behavior → Event → LoopState → LoopState
happens B e l =
    let sent = length (B.packets l.events) in
    record l {
      events = l.events ++ e ∷ [];
      ends = send_packets sent (drop sent (B.packets (l.events ++ e ∷ []))) l.ends;
    }

-- an event is due: it happens unless the loop has ended or ends before it
abbrev pub step : Behavior → Event → LoopState → LoopState
step B e l =
    if has_ended B l then l
    else if is_within_limits B.setup (l.events ++ e ∷ []) then happens B e l else record l { full = true }

-- ---- one core in one turn

-- rule: Loopback: In a turn each core first proposes once, if it leads and has a free slot
abbrev pub proposes : Behavior → ℕ → LoopState → LoopState
proposes B i l =
    if has_ended B l then l
    else if B.castable l.events i then step B (Propose i) (record l { idle = false }) else l

-- what comes of a frame: the packet that it completes, or what is found later
abbrev pub packet_or : Option (List ℕ) → List End → Option (List ℕ) × List End → Option (List ℕ) × List End
packet_or (Some packet) ends later = (Some packet, ends)
packet_or None ends later = later

-- what comes of the frames that wait: nothing if none does, otherwise what comes of the first one
abbrev pub packet_of : List Fragment → List Partial → List End → Option (List ℕ) × List End →
    Option (List ℕ) × List End
packet_of [] partials ends later = (None, ends)
packet_of (f ∷ fs) partials ends later = packet_or (completed_by f partials) ends later

-- takes frames at an end, up to a number, until one completes a packet or none waits: the packet, and the ends
-- rule: Loopback: A core takes frames until a packet is complete, none waits, or it took as many as it may in a turn
abbrev pub packet_at : ℕ → ℕ → List End → Option (List ℕ) × List End
packet_at at zero ends = (None, ends)
packet_at at (suc n) ends =
    let after = after_take at ends in
    packet_of (end_at ends at).waiting (end_at ends at).partials after (packet_at at n after)

-- the number of the first packet, from number k on, that is for this core and has these bytes
-- rule: Loopback: A packet that arrives is the least one that was sent to this core with these bytes
abbrev pub number_from : ℕ → ℕ → List ℕ → List Sent → Option ℕ
number_from k core bytes [] = None
number_from k core bytes (p ∷ ps) =
    if (p.to == core) && bytes_eq p.bytes bytes then Some k else number_from (suc k) core bytes ps

-- whether cores take bytes that no core sent
abbrev pub takes_any : Kind → Bool
takes_any Byzantine = true
takes_any Stopping = false

-- a packet arrives at a core: it is delivered if it was sent to this core; otherwise it is bytes, or thrown away
-- rule: Loopback: What no core sent is injected under a Byzantine module, and thrown away under a stopping one
abbrev pub delivers : Behavior → ℕ → List ℕ → Option ℕ → LoopState → LoopState
delivers B i bytes (Some k) l = step B (Deliver k) l
delivers B i bytes None l = if takes_any B.setup.kind then step B (Bytes i bytes) l else l

abbrev pub arrives : Behavior → ℕ → Option (List ℕ) → LoopState → LoopState
arrives B i None l = l
arrives B i (Some bytes) l =
    delivers B i bytes (number_from 0 i bytes (B.packets l.events)) (record l { idle = false })

abbrev pub receives : Behavior → ℕ → ℕ → LoopState → LoopState
receives B frames i l =
    if has_ended B l then l
    else let taken = packet_at i frames l.ends in arrives B i taken.0 (record l { ends = taken.1 })

abbrev pub times_out : Behavior → ℕ → List NodeId → LoopState → LoopState
times_out B i [] l = l
times_out B i (leader ∷ leaders) l = times_out B i leaders (step B (Timeout i leader) l)

-- the node that core i asks: the next one, and behind the last one the first
abbrev pub peer_of : ℕ → ℕ → NodeId
peer_of n i = record { 0 = (i + 1) % n }

-- rule: Loopback: A core that wakes up asks the next node, if there is another
abbrev pub asks : Behavior → ℕ → LoopState → LoopState
asks B i l = if nat_lt 1 B.setup.n then step B (Ask i (peer_of B.setup.n i)) l else l

-- a core wakes up: it times out for each leader whose segment it had not filled before, and asks the next node
-- rule: Loopback: A core that wakes up times out for the leaders whose segments it has not filled, and for no other
abbrev pub wakes : Behavior → ℕ → LoopState → LoopState
wakes B i l = if has_ended B l then l else asks B i (times_out B i (B.unfilled l.events i) l)

-- ---- all cores, in turns

-- one after the other, from 0 to n - 1
abbrev pub each_below : (ℕ → LoopState → LoopState) → ℕ → LoopState → LoopState
each_below F zero l = l
each_below F (suc n) l = F n (each_below F n l)

abbrev pub each_core : (Behavior → ℕ → LoopState → LoopState) → Behavior → LoopState → LoopState
each_core F B l = each_below (F B) B.setup.n l

-- request i: client i mod clients, number i / clients, and the four bytes of i
-- rule: Loopback: Request i is the next one of client i mod clients, with the four bytes of i
abbrev pub request_at : ℕ → ℕ → ℕ → Event
request_at clients i core = Request core (i % clients) (i / clients) (to_be_bytes w32 i)

abbrev pub requests : Behavior → ℕ → ℕ → LoopState → LoopState
requests B i core l = step B (request_at B.setup.clients i core) l

-- each core gets request i
abbrev pub hands_out : Behavior → ℕ → LoopState → LoopState
hands_out B i l = each_below (requests B i) B.setup.n l

-- after a turn: an idle one is counted, and after `patience` in a row the cores wake up
-- rule: Loopback: After 64 idle turns in a row the count begins anew, and each core wakes up
abbrev pub rests : Behavior → ℕ → LoopState → LoopState
rests B patience l =
    if has_ended B l then l
    else if l.idle then
    (if l.idle_turns + 1 == patience then each_below (wakes B) B.setup.n (record l { idle_turns = 0 })
    else record l { idle_turns = l.idle_turns + 1 })
    else record l { idle_turns = 0 }

abbrev pub turn : Behavior → LoopPlan → LoopState → LoopState
turn B P l =
    rests B P.patience
    (each_below (receives B P.frames) B.setup.n
    (each_below (proposes B) B.setup.n (record l { idle = true })))

-- turn i
abbrev pub turn_at : Behavior → LoopPlan → ℕ → LoopState → LoopState
turn_at B P i l = if has_ended B l then l else turn B P l

abbrev pub begins : List End → LoopState
begins ends = record { events = []; ends = ends; idle = true; idle_turns = 0; full = false }

-- the whole loop, over links that hold this at its start
-- rule: Loopback: A loop first hands out its requests, each to all cores, and then takes its turns
abbrev pub loop_of : Behavior → LoopPlan → List End → LoopState
loop_of B P ends = each_below (turn_at B P) P.turns (each_below (hands_out B) P.requests (begins ends))
