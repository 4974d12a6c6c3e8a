-- What a cluster does, as functions of the events that happened to it, oldest first. The loop sees no more of it.
use Rattle.std.specs.Prelude.{◌≡◌, ℕ, ◌<◌, ◌||◌, Bool, false, List, Some}
use Rattle.iss_base.specs.Lists.{In, nth}
use Rattle.iss_network.specs.declared.packets.Sent.{Sent}
use Rattle.iss_request.specs.declared.ids.NodeId.{NodeId}
use Rattle.iss_request.specs.declared.setups.Setup.{Setup}
use Rattle.iss_schedule.specs.declared.schedules.Event.{Event}

pub record Behavior : Type 0 where
  pub setup : Setup
  -- whether a core leads its epoch and has a free slot to propose at
  pub castable : List Event → ℕ → Bool
  -- the leaders whose segments a core has not filled, ascending
  pub unfilled : List Event → ℕ → List NodeId
  -- the packets that were sent, by number
  pub packets : List Event → List Sent
  -- whether an event showed evidence: a forged claim or a collision
  pub has_evidence : List Event → Bool

-- nothing more may happen to a cluster: an event showed evidence, or memory ran out
abbrev pub is_over : Behavior → List Event → Bool → Bool
is_over B events stale = stale || B.has_evidence events

-- all of these are nodes
abbrev pub AreNodes : ℕ → List NodeId → Type 0
AreNodes n nodes = (node : NodeId) → In node nodes → node.0 < n

-- all packets go between ends of links
abbrev pub HaveEnds : List Sent → Type 0
HaveEnds packets = (k : ℕ) (p : Sent) → nth packets k ≡ Some p → (p.from < 256) × (p.to < 256)

-- a cluster that has not run out of memory, and does what it did before
pub record StaysFresh (before now : Behavior) (stale : Bool) : Type 0 where
  pub same : now ≡ before
  pub fresh : stale ≡ false
