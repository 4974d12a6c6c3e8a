-- What a node does, as functions of the events that it has accepted since it was opened, oldest first. Its loop sees no
-- more of it.
use Rattle.std.specs.Prelude.{◌≡◌, ℕ, ◌<◌, Bool, true, false, List, [], ◌∷◌, ◌++◌}
use Rattle.iss_loops.specs.declared.node.NodeStep.{NodeStep}
use Rattle.iss_loops.specs.declared.node.NodeStep.TheVariants.{Taken, Dropped}
use Rattle.iss_request.specs.declared.ids.NodeId.{NodeId}
use Rattle.iss_request.specs.declared.setups.Setup.{Setup}
use Rattle.iss_rules.specs.declared.events.NodeEvent.{NodeEvent}
use Rattle.iss_rules.specs.declared.events.NodeEvent.TheVariants.{Packet, Propose, Timeout, AskFrom}
use Rattle.iss_sb.specs.Calls.{AreToNodes}
use Rattle.iss_sb.specs.declared.effects.To.{To}

pub record NodeBehavior : Type 0 where
  -- the set-up of its cluster, and which node it is
  pub setup : Setup
  pub me : ℕ
  -- whether it accepts one more event; otherwise it drops it
  pub accepts : List NodeEvent → NodeEvent → Bool
  -- what it sends at an event that it accepts
  pub sends : List NodeEvent → NodeEvent → List (To × List ℕ)
  -- whether it leads its epoch and has a free slot to propose at
  pub castable : List NodeEvent → Bool
  -- the leaders whose segments it has not filled, ascending
  pub unfilled : List NodeEvent → List NodeId
  -- the entries that its journal shows, and what it keeps of one event more
  pub shows : List NodeEvent → List (List ℕ)
  pub keeps : List NodeEvent → NodeEvent → List ℕ
  -- its epoch, and what it prints of its state
  pub epoch : List NodeEvent → ℕ
  pub prints : List NodeEvent → List ℕ

-- A node that need not be reopened: it has accepted some events, by what it does.
abbrev pub IsOpen : (NodeBehavior → List NodeEvent → Type 0) → Type 0
IsOpen has = (B : NodeBehavior) × (events : List NodeEvent) × has B events

-- What came of an event: it was accepted, and these are its sends; or it was dropped, and nothing has changed. `has`
-- tells which events the node has accepted now.
abbrev pub IsStep : NodeBehavior → List NodeEvent → NodeEvent → (List NodeEvent → Type 0) → NodeStep → Type 0
IsStep B events e has (Taken sends) =
    (B.accepts events e ≡ true) × has (events ++ e ∷ []) × (sends ≡ B.sends events e)
IsStep B events e has Dropped = (B.accepts events e ≡ false) × has events

-- the event names nodes
abbrev pub NamesNodes : ℕ → NodeEvent → Type 0
NamesNodes n (Packet bytes) = Unit {0}
NamesNodes n Propose = Unit {0}
NamesNodes n (Timeout leader) = leader.0 < n
NamesNodes n (AskFrom peer) = peer.0 < n

-- the sends go to nodes
abbrev pub GoTo : ℕ → NodeStep → Type 0
GoTo n (Taken sends) = AreToNodes n sends
GoTo n Dropped = Unit {0}

-- these are the sends of the newest event that a node has accepted
pub record AreOfNewest (has : NodeBehavior → List NodeEvent → Type 0) (sends : List (To × List ℕ)) : Type 0 where
  pub does : NodeBehavior
  pub before : List NodeEvent
  pub newest : NodeEvent
  pub accepted : has does (before ++ newest ∷ [])
  pub made : sends ≡ does.sends before newest

-- The disk failed while the journal was to get this event, which the node accepts. What a crash leaves of the journal
-- (`leaves`) is of the events before it, or of these and this one.
pub record FailsAt (B : NodeBehavior) (leaves : List NodeEvent → NodeEvent → Type 0)
    (events : List NodeEvent) (event : NodeEvent) : Type 0 where
  pub accepted : B.accepts events event ≡ true
  pub left : leaves events event
