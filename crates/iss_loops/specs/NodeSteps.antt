-- What contracts see of a node in its loop, and what a part of the loop does.
use Rattle.std.specs.Prelude.{◌≡◌, ◌≤◌, ◌+◌, ℕ, List, Option, Result, OnOk, IsErrOf}
use Rattle.iss_disk.specs.Calls.{HasCause as HasDiskCause, Place}
use Rattle.iss_links.specs.Calls.{HasCause}
use Rattle.iss_links.specs.Ends.{End}
use Rattle.iss_loops.specs.NodeBehavior.{NodeBehavior}
use Rattle.iss_loops.specs.NodeLoop.{Cuts, Goes, NodeState}
use Rattle.iss_loops.specs.declared.errors.NodeError.{NodeError}
use Rattle.iss_loops.specs.declared.errors.NodeError.TheVariants.{LinksFault, DiskFault}
use Rattle.iss_loops.specs.declared.node_loop.NodeProgress.{NodeProgress}
use Rattle.iss_rules.specs.declared.events.NodeEvent.{NodeEvent}

pub record NodeSeen : Type 1 where
  -- what the node does with the events that it has accepted, and what every crash leaves in its journal
  pub has : NodeBehavior → List NodeEvent → Type 0
  pub leaves : NodeBehavior → List NodeEvent → NodeEvent → Type 0
  -- how many nodes there are
  pub nodes : ℕ
  -- where its journal is, and how many calls of its disk have failed
  pub place : Place
  pub disk_faults : ℕ
  -- what the links hold, and how many of their calls have failed
  pub ends : Option (List End)
  pub link_faults : ℕ
  pub progress : NodeProgress

abbrev pub seen : {N L : Type 0} → (N → NodeBehavior → List NodeEvent → Type 0) →
    (N → NodeBehavior → List NodeEvent → NodeEvent → Type 0) → (N → ℕ) → (N → Place) → (N → ℕ) →
    (L → Option (List End)) → (L → ℕ) → N → L → NodeProgress → NodeSeen
seen has leaves nodes place disk_faults ends link_faults node links progress = record {
  has = has node;
  leaves = leaves node;
  nodes = nodes node;
  place = place node;
  disk_faults = disk_faults node;
  ends = ends links;
  link_faults = link_faults links;
  progress = progress;
}

-- A part of the loop is done, or failed. A loop that was at a state is where F leads from it, and at most `more` idle
-- turns were counted. A failure of the disk cuts the loop at an event. A fault of the links or of the disk was counted.
pub record Does (more : ℕ) (F : NodeBehavior → NodeState → NodeState) (before after : NodeSeen)
    (result : Result (Unit {0}) NodeError) : Type 0 where
  pub goes : OnOk result (Goes before.has after.has before.ends after.ends before.progress after.progress F)
  pub idle_turns : OnOk result (after.progress.idle_turns ≤ before.progress.idle_turns + more)
  pub cut : IsErrOf result DiskFault → Cuts before.has after.leaves before.ends before.progress after.ends
  pub links : HasCause before.link_faults after.link_faults (IsErrOf result LinksFault)
  pub disk : HasDiskCause before.disk_faults after.disk_faults (IsErrOf result DiskFault)
  pub place : after.place ≡ before.place
  pub same : after.nodes ≡ before.nodes
