-- Recovery entry by entry: what the entries before lead to goes on with the next entry, or that leads nowhere.
use Rattle.std.specs.Prelude.{◌≡◌, ℕ, ◌<◌, ◌≤◌, Bool, true, false, List, [], length, reverse, take, Option, Some, None, Result, Ok, Err, IfOk, IfSome, slice_index_or}
use Rattle.iss_disk.specs.Calls.{Device}
use Rattle.iss_journal.specs.Retained.{is_snapshot, retained}
use Rattle.iss_journal.specs.Sound.{JournalState}
use Rattle.iss_journal.specs.declared.errors.AttachError.{AttachError}
use Rattle.iss_journal.specs.declared.errors.AttachError.TheVariants.{Damaged, Failed, NoMemory}
use Rattle.iss_model.specs.Frames.{frame_of}
use Rattle.iss_node.specs.Rebuilding.{IsReadOn, RefinesRebuilt, RebuildingView}
use Rattle.iss_node.specs.Saved.{saved_of}
use Rattle.iss_node.specs.State.{NodeView, RefinesCore}
use Rattle.iss_rebuilt.specs.Reading.{Rebuilt, reads_entry, rebuilt, replays}
use Rattle.iss_request.specs.declared.ids.NodeId.{NodeId}
use Rattle.iss_request.specs.declared.setups.Setup.{Setup}
use Rattle.iss_sb.specs.Calls.{Relation}
use Rattle.iss_sb.specs.Evidence.{Module}
use Rattle.iss_keep.specs.Cores.{StopsAt, core_of}
use Rattle.iss_keep.specs.Entries.{event_in}
use Rattle.iss_keep.specs.Steps.{IsAttached, IsRefused}

-- The node refines this core, and knows what snapshots saved.
abbrev pub IsFound : {M Msg : Type 0} → Module Msg → Relation M Msg → NodeView M Msg → Rebuilt Msg → Type 0
IsFound m refines v found = RefinesCore m refines v found.core × (saved_of v.state.saved ≡ found.saved)

-- `true`: the node is at the core after the entry. `false`: the entry is refused.
abbrev pub GoesTo : {M Msg : Type 0} → Setup → Module Msg → Relation M Msg → ℕ → Rebuilt Msg → List ℕ →
    NodeView M Msg → Bool → Type 0
GoesTo {Msg = Msg} s m refines me found entry new true = (next : Rebuilt Msg) × IsFound m refines new next
    × (replays (frame_of s m) me (event_in s.n entry) (Some found) ≡ Some next)
GoesTo s m refines me found entry new false = replays (frame_of s m) me (event_in s.n entry) (Some found) ≡ None

-- The node is at the core of these entries.
abbrev pub IsReplayed : {M Msg : Type 0} → Setup → Module Msg → Relation M Msg → ℕ → List (List ℕ) →
    NodeView M Msg → Type 0
IsReplayed {Msg = Msg} s m refines me entries v = (found : Rebuilt Msg) × IsFound m refines v found
    × (core_of s m me entries ≡ Some found)

-- The node has this identity, in this cluster.
pub record IsOf {M Msg : Type 0} (s : Setup) (me : NodeId) (v : NodeView M Msg) : Type 0 where
  pub cluster : v.state.setup ≡ s
  pub number : v.state.me ≡ me

pub record IsReaderOf {M Msg : Type 0} (s : Setup) (me : NodeId) (v : RebuildingView M Msg) : Type 0 where
  pub cluster : v.state.setup ≡ s
  pub number : v.state.me ≡ me

-- The node has this identity, and is at the core of these entries.
pub record IsBackAt {M Msg : Type 0} (s : Setup) (m : Module Msg) (refines : Relation M Msg) (me : NodeId)
    (entries : List (List ℕ)) (v : NodeView M Msg) : Type 0 where
  pub core : IsReplayed s m refines me.0 entries v
  pub same : IsOf s me v

-- What recovery from a journal answers: this holds for what it returns, or an entry leads nowhere. The disk cannot
-- fail.
abbrev pub IsRecovery : {Msg D T : Type 0} → (T → Type 0) → Setup → Module Msg → ℕ → JournalState D →
    Result T AttachError → Type 0
IsRecovery Returned s m me journal (Ok x) = Returned x
IsRecovery Returned s m me journal (Err (Damaged at)) = StopsAt s m me at journal.entries journal.gates
IsRecovery Returned s m me journal (Err Failed) = ⊥
IsRecovery Returned s m me journal (Err NoMemory) = Unit {0}

-- An entry was replayed, unless memory ran out.
pub record HasReplayed {M Msg E : Type 0} (m : Module Msg) (refines : Relation M Msg) (entry : List ℕ)
    (old new : NodeView M Msg) (result : Result Bool E) : Type 0 where
  pub goes : IfOk result (λ taken. (found : Rebuilt Msg) → IsFound m refines old found →
      GoesTo old.state.setup m refines old.state.me.0 found entry new taken)
  pub same : (new.state.setup ≡ old.state.setup) × (new.state.me ≡ old.state.me)

-- ---- the snapshots in front

-- Entries that are all snapshots have led to this.
abbrev pub IsRebuiltBy : {M Msg : Type 0} → Setup → Module Msg → Relation M Msg → ℕ → List (List ℕ) →
    RebuildingView M Msg → Type 0
IsRebuiltBy {Msg = Msg} s m refines me entries v = (found : Rebuilt Msg) × RefinesRebuilt m refines v found
    × (rebuilt (frame_of s m) me (reverse entries) ≡ Some found)

-- The first `count` entries are the snapshots in front: the entry behind them is none.
pub record AreInFront (entries : List (List ℕ)) (count : ℕ) : Type 0 where
  pub within : count ≤ length entries
  pub are : (k : ℕ) → k < count → is_snapshot (slice_index_or entries k []) ≡ true
  pub last : count < length entries → is_snapshot (slice_index_or entries count []) ≡ false

-- The node is at the core of the snapshots in front, and only events of a journal stand behind these.
pub record IsInFront {M Msg : Type 0} (s : Setup) (m : Module Msg) (refines : Relation M Msg)
    (entries : List (List ℕ)) (count : ℕ) (v : NodeView M Msg) : Type 0 where
  pub front : AreInFront entries count
  pub stay : retained entries ≡ entries
  pub at : IsBackAt s m refines v.state.me (take count entries) v

-- The next entry was read as a snapshot, if it continues those before it.
pub record HasReadOn {M Msg : Type 0} (m : Module Msg) (refines : Relation M Msg) (entry : List ℕ)
    (old : RebuildingView M Msg) (next : Option (RebuildingView M Msg)) : Type 0 where
  pub read : (r : Rebuilt Msg) → RefinesRebuilt m refines old r →
      IsReadOn m refines (reads_entry (frame_of old.state.setup m) old.state.me.0 (Some r) entry) next
  pub same : IfSome next (λ v. (v.state.setup ≡ old.state.setup) × (v.state.me ≡ old.state.me))

-- ---- an attached journal

-- Opening was Ok: the journal is attached, and the node is at the core of its entries.
pub record IsOpened {M Msg D : Type 0} (state : D → Device) (s : Setup) (m : Module Msg) (refines : Relation M Msg)
    (me : NodeId) (before now : JournalState D) (v : NodeView M Msg) : Type 0 where
  pub back : IsBackAt s m refines me now.entries v
  pub stay : retained now.entries ≡ now.entries
  pub attached : IsAttached (state before.disk) (state now.disk) now.entries
  pub is_attached : now.attached ≡ true

-- What opening a journal answers.
abbrev pub IsOpening : {M Msg D : Type 0} → (D → Device) → Setup → Module Msg → Relation M Msg → NodeId →
    (before now : JournalState D) → Result (NodeView M Msg) AttachError → Type 0
IsOpening state s m refines me before now (Ok node) = IsOpened state s m refines me before now node
IsOpening state s m refines me before now (Err (Damaged at)) =
    IsRefused s m me.0 now.entries (state before.disk) (state now.disk) at
IsOpening state s m refines me before now (Err Failed) = Unit {0}
IsOpening state s m refines me before now (Err NoMemory) = Unit {0}
