-- What is seen of a kept node: a node, the disk and entries of its journal, and whether it is stale. It stands for what
-- was stored if it is not stale, its node refines the core that stored it, next leaf included, and the journal shows of
-- it what stays. In any case it is stale, or every crash leaves these entries: those that it read, and behind them what
-- later events stored.
use Rattle.std.specs.Prelude.{◌≡◌, ◌⊎◌, ℕ, Bool, true, false, List, [], reverse, Some}
use Rattle.iss_disk.specs.Calls.{Device, IfTold}
use Rattle.iss_journal.specs.Frames.{version_1}
use Rattle.iss_journal.specs.Promises.{OnlyLeaves, Shows}
use Rattle.iss_journal.specs.Sound.{JournalState}
use Rattle.iss_keys.specs.Directories.{DirectoryView}
use Rattle.iss_model.specs.Frames.{frame_of}
use Rattle.iss_model.specs.Node.{Core, initial_core}
use Rattle.iss_rules.specs.declared.events.NodeEvent.{NodeEvent}
use Rattle.iss_node.specs.Saved.{saved_of}
use Rattle.iss_node.specs.State.{IsMember, NodeView, RefinesCore}
use Rattle.iss_rebuilt.specs.Reading.{Rebuilt}
use Rattle.iss_rebuilt.specs.Stored.{Stored, stored_on}
use Rattle.iss_request.specs.declared.ids.NodeId.{NodeId}
use Rattle.iss_request.specs.declared.setups.Setup.{Setup}
use Rattle.iss_sb.specs.Calls.{Relation}
use Rattle.iss_sb.specs.Evidence.{Module}
use Rattle.iss_keep.specs.Cores.{core_of, shown_of}
use Rattle.iss_keep.specs.Entries.{spell_event}

pub record KeptState (M Msg D : Type 0) : Type 0 where
  pub setup : Setup
  pub me : NodeId
  pub node : NodeView M Msg
  -- The journal: its disk, and its entries in the order in which they were appended.
  pub disk : D
  pub entries : List (List ℕ)
  -- The node has to be reopened before it takes events.
  pub stale : Bool

abbrev pub state_over : {M Msg D : Type 0} → Setup → NodeId → NodeView M Msg → JournalState D → Bool → KeptState M Msg D
state_over s me node journal stale =
    record { setup = s; me = me; node = node; disk = journal.disk; entries = journal.entries; stale = stale }

-- A node that has taken no event and has no journal yet.
pub record FreshState (M Msg : Type 0) : Type 0 where
  pub setup : Setup
  pub me : NodeId
  pub node : NodeView M Msg

-- It is a member of a good set-up, and it refines the first core.
pub record IsFresh {M Msg : Type 0} (m : Module Msg) (refines : Relation M Msg) (directory : DirectoryView)
    (v : FreshState M Msg) : Type 0 where
  pub member : IsMember m v.setup directory v.me.0
  pub cluster : v.node.state.setup ≡ v.setup
  pub number : v.node.state.me ≡ v.me
  pub core : RefinesCore m refines v.node initial_core

-- The node is not stale and refines this core, including the next leaf, with the right set-up and identity.
pub record KeptRefinesCore {M Msg D : Type 0} (m : Module Msg) (refines : Relation M Msg)
    (v : KeptState M Msg D) (c : Core Msg) : Type 0 where
  pub fresh : v.stale ≡ false
  pub node : RefinesCore m refines v.node c
  pub cluster : v.node.state.setup ≡ v.setup
  pub number : v.node.state.me ≡ v.me

-- The node is not stale and refines the core that stored this, including the next leaf. Its journal shows what stays of
-- it, and the next snapshot goes on where the last of these ended.
pub record RefinesStored {M Msg D : Type 0} (m : Module Msg) (refines : Relation M Msg)
    (v : KeptState M Msg D) (st : Stored Msg) : Type 0 where
  pub fresh : v.stale ≡ false
  pub node : RefinesCore m refines v.node st.core
  pub cluster : v.node.state.setup ≡ v.setup
  pub number : v.node.state.me ≡ v.me
  pub entries : v.entries ≡ shown_of st
  pub saved : saved_of v.node.state.saved ≡ st.saved

-- what entries, oldest first, and the core that they lead to are, as what was stored
abbrev pub stored_as : {Msg : Type 0} → List (List ℕ) → Rebuilt Msg → Stored Msg
stored_as entries found = record { entries = reverse entries; saved = found.saved; core = found.core }

-- Entries that were read and lead to a core, and behind them what later events, newest first, stored.
pub record IsStoredSince {Msg : Type 0} (s : Setup) (m : Module Msg) (me : ℕ) (st : Stored Msg) : Type 0 where
  pub read : List (List ℕ)
  pub found : Rebuilt Msg
  pub is_read : core_of s m me read ≡ Some found
  pub events : List NodeEvent
  pub is : st ≡ stored_on (frame_of s m) spell_event me (stored_as read found) events

-- The invariant of a kept node. It is a member of a good set-up. Unless it is stale, its journal is attached, every
-- crash image holds its entries, and it stands for what these were and what was stored behind them.
pub record IsKept {M Msg D : Type 0} (m : Module Msg) (refines : Relation M Msg) (state : D → Device)
    (directory : DirectoryView) (journal : JournalState D) (v : KeptState M Msg D) : Type 0 where
  pub member : IsMember m v.setup directory v.me.0
  pub cluster : v.node.state.setup ≡ v.setup
  pub number : v.node.state.me ≡ v.me
  pub attached : v.stale ≡ false → journal.attached ≡ true
  pub durable : v.stale ≡ false → IfTold (state v.disk).history (OnlyLeaves (Shows version_1 v.entries))
  pub kept : (v.stale ≡ true)
      ⊎ ((st : Stored Msg) × RefinesStored m refines v st × IsStoredSince v.setup m v.me.0 st)

-- A kept node that was not opened yet. It is stale, reports an empty log and epoch 0, and has read no entry.
pub record IsUnopened {M Msg D : Type 0} (s : Setup) (i : NodeId) (d : D) (v : KeptState M Msg D) : Type 0 where
  pub same : (v.setup ≡ s) × (v.me ≡ i)
  pub stale : v.stale ≡ true
  pub journal : (v.disk ≡ d) × (v.entries ≡ [])
  pub shown : (v.node.state.log.entries ≡ []) × (v.node.state.epoch ≡ 0)
