-- Which events the loop of one node makes, as a function of what the node does, of the events that it has accepted
-- before, and of what its links hold at the start.
use Rattle.std.specs.Prelude.{◌≡◌, ℕ, zero, suc, ◌+◌, ◌==◌, nat_lt, Bool, true, false, List, [], ◌∷◌, ◌++◌, Option, Some, None, if◌then◌else◌}
use Rattle.iss_base.specs.Lists.{nth}
use Rattle.iss_links.specs.Ends.{End, after_send, after_take}
use Rattle.iss_loops.specs.Loop.{packet_at, peer_of}
use Rattle.iss_loops.specs.NodeBehavior.{FailsAt, NodeBehavior}
use Rattle.iss_loops.specs.declared.node_loop.NodeProgress.{NodeProgress}
use Rattle.iss_request.specs.declared.ids.NodeId.{NodeId}
use Rattle.iss_rules.specs.declared.events.NodeEvent.{NodeEvent}
use Rattle.iss_rules.specs.declared.events.NodeEvent.TheVariants.{Packet, Propose, Timeout, AskFrom}
use Rattle.iss_sb.specs.declared.effects.To.{To}
use Rattle.iss_sb.specs.declared.effects.To.TheVariants.{All, One}

-- how far the loop has come
pub record NodeState : Type 0 where
  -- the events that the node has accepted, oldest first: first those from before the loop
  pub events : List NodeEvent
  -- how many packets it has sent since the loop began
  pub count : ℕ
  -- what the links hold
  pub ends : List End
  -- it has not proposed in this turn, and no packet has arrived
  pub idle : Bool
  -- how many turns in a row before this one were idle
  pub idle_turns : ℕ

-- ---- one event

-- a packet goes to nodes 0 to n - 1, each time under the next number
abbrev pub send_below : ℕ → ℕ → ℕ → List ℕ → List End → List End
send_below me count zero bytes ends = ends
send_below me count (suc n) bytes ends = after_send me (count + n) n bytes (send_below me count n bytes ends)

abbrev pub copies : ℕ → To → ℕ
copies nodes All = nodes
copies nodes (One node) = 1

abbrev pub send_to : ℕ → ℕ → ℕ → To → List ℕ → List End → List End
send_to nodes me count All bytes ends = send_below me count nodes bytes ends
send_to nodes me count (One node) bytes ends = after_send me count node.0 bytes ends

-- A node sends what its accepted events made, each packet under its own count
abbrev pub send_each : NodeBehavior → List (To × List ℕ) → NodeState → NodeState
send_each B [] w = w
send_each B (s ∷ sends) w =
    send_each B sends (record w {
      count = w.count + copies B.setup.n s.0;
      ends = send_to B.setup.n B.me w.count s.0 s.1 w.ends;
    })

-- the node takes an event: if it accepts the event, what it sends goes to the links
abbrev pub takes : NodeBehavior → NodeEvent → NodeState → NodeState
takes B e w =
    if B.accepts w.events e then send_each B (B.sends w.events e) (record w { events = w.events ++ e ∷ [] }) else w

-- ---- one turn

abbrev pub proposes : NodeBehavior → NodeState → NodeState
proposes B w = if B.castable w.events then takes B Propose (record w { idle = false }) else w

abbrev pub arrives : NodeBehavior → Option (List ℕ) → NodeState → NodeState
arrives B None w = w
arrives B (Some bytes) w = takes B (Packet bytes) (record w { idle = false })

-- A node takes each packet that arrives whole, whoever sent it
abbrev pub receives : NodeBehavior → ℕ → NodeState → NodeState
receives B frames w = let taken = packet_at B.me frames w.ends in arrives B taken.0 (record w { ends = taken.1 })

abbrev pub times_out : NodeBehavior → List NodeId → NodeState → NodeState
times_out B [] w = w
times_out B (leader ∷ leaders) w = times_out B leaders (takes B (Timeout leader) w)

abbrev pub asks : NodeBehavior → NodeState → NodeState
asks B w = if nat_lt 1 B.setup.n then takes B (AskFrom (peer_of B.setup.n B.me)) w else w

-- the node wakes up: it times out for each leader whose segment it had not filled before, and asks the next node
abbrev pub wakes : NodeBehavior → NodeState → NodeState
wakes B w = asks B (times_out B (B.unfilled w.events) w)

abbrev pub rests : NodeBehavior → ℕ → NodeState → NodeState
rests B patience w =
    if w.idle then
    (if w.idle_turns + 1 == patience then wakes B (record w { idle_turns = 0 })
    else record w { idle_turns = w.idle_turns + 1 })
    else record w { idle_turns = 0 }

abbrev pub turn : NodeBehavior → ℕ → ℕ → NodeState → NodeState
turn B frames patience w = rests B patience (receives B frames (proposes B (record w { idle = true })))

abbrev pub turns : NodeBehavior → ℕ → ℕ → ℕ → NodeState → NodeState
turns B frames patience zero w = w
turns B frames patience (suc n) w = turn B frames patience (turns B frames patience n w)

abbrev pub begins : List NodeEvent → List End → NodeState
begins held ends = record { events = held; count = 0; ends = ends; idle = true; idle_turns = 0 }

-- the whole loop, from the events before it
-- A node goes on from what its journal led to, and ends after its turns
abbrev pub node_loop_of : NodeBehavior → (frames patience n : ℕ) → List NodeEvent → List End → NodeState
node_loop_of B frames patience n held ends = turns B frames patience n (begins held ends)

-- ---- a loop that is cut short

-- a frame is taken at the node's end, or the node takes an event and sends what it made
abbrev pub moves_on : NodeBehavior → Option NodeEvent → NodeState → NodeState
moves_on B None w = record w { ends = after_take B.me w.ends }
moves_on B (Some event) w = takes B event w

abbrev pub after_moves : NodeBehavior → List (Option NodeEvent) → NodeState → NodeState
after_moves B [] w = w
after_moves B (move ∷ moves) w = after_moves B moves (moves_on B move w)

-- The node has accepted these events, and nothing else was sent than what they made.
-- rule: Loopback: A node sends only what events in its journal made
pub record HasSent (B : NodeBehavior) (start : NodeState) (events : List NodeEvent) (ends : Option (List End))
    : Type 0 where
  pub moves : List (Option NodeEvent)
  pub events_are : events ≡ (after_moves B moves start).events
  pub ends_are : ends ≡ Some (after_moves B moves start).ends

-- ---- the code

-- The node has accepted these events, the links hold this, and the progress is that of the loop. Links that record no
-- frames are at no state of a loop.
pub record IsAt (events : List NodeEvent) (ends : Option (List End)) (progress : NodeProgress) (w : NodeState)
    : Type 0 where
  pub events_are : events ≡ w.events
  pub ends_are : ends ≡ Some w.ends
  pub count : progress.count ≡ w.count
  pub idle : progress.idle ≡ w.idle
  pub idle_turns : progress.idle_turns ≡ w.idle_turns

-- all of these events, at their places, and perhaps more behind them
abbrev pub GrowsTo : List NodeEvent → List NodeEvent → Type 0
GrowsTo events later = (k : ℕ) (e : NodeEvent) → nth events k ≡ Some e → nth later k ≡ Some e

-- A node with these events has now these and perhaps more (`has`). A loop that was at a state is where F leads from it.
pub record HasGone (events : List NodeEvent) (has : List NodeEvent → Type 0) (ends ends_now : Option (List End))
    (progress progress_now : NodeProgress) (F : NodeState → NodeState) : Type 0 where
  pub later : List NodeEvent
  pub there : has later
  pub grown : GrowsTo events later
  pub goes : (w : NodeState) → IsAt events ends progress w → IsAt later ends_now progress_now (F w)

-- so of each list of events that the node may have accepted, by what it does
abbrev pub Goes : (before now : NodeBehavior → List NodeEvent → Type 0) (ends ends_now : Option (List End))
    (progress progress_now : NodeProgress) → (NodeBehavior → NodeState → NodeState) → Type 0
Goes before now ends ends_now progress progress_now F = (B : NodeBehavior) (events : List NodeEvent) →
    before B events → HasGone events (now B) ends ends_now progress progress_now (F B)

-- these are the loop's events, and the links hold what it leaves there
pub record HasRun (w : NodeState) (events : List NodeEvent) (ends : Option (List End)) : Type 0 where
  pub events_are : events ≡ w.events
  pub ends_are : ends ≡ Some w.ends

-- A node with these events has now these and perhaps more (`has`): over links that record their frames, those of the
-- loop.
pub record HasLooped (events : List NodeEvent) (has : List NodeEvent → Type 0) (ends ends_now : Option (List End))
    (loop : List End → NodeState) : Type 0 where
  pub later : List NodeEvent
  pub there : has later
  pub grown : GrowsTo events later
  pub loops : (told : List End) → ends ≡ Some told → HasRun (loop told) later ends_now

-- The disk failed at an event. The journal has the events before it, and perhaps this one, of which nothing was sent.
pub record IsCut (B : NodeBehavior) (leaves : List NodeEvent → NodeEvent → Type 0) (events : List NodeEvent)
    (ends : Option (List End)) (progress : NodeProgress) (ends_now : Option (List End)) : Type 0 where
  pub kept : List NodeEvent
  pub failed : NodeEvent
  pub fails : FailsAt B leaves kept failed
  pub grown : GrowsTo events kept
  pub sent : (w : NodeState) → IsAt events ends progress w → HasSent B w kept ends_now

-- so of each list of events that the node may have accepted, by what it does
abbrev pub Cuts : (before : NodeBehavior → List NodeEvent → Type 0) →
    (leaves : NodeBehavior → List NodeEvent → NodeEvent → Type 0) → (ends : Option (List End)) → NodeProgress →
    (ends_now : Option (List End)) → Type 0
Cuts before leaves ends progress ends_now = (B : NodeBehavior) (events : List NodeEvent) → before B events →
    IsCut B (leaves B) events ends progress ends_now
