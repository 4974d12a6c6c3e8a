-- That snapshots lead back to the core that wrote them.
use Rattle.std.specs.Prelude.{◌≡◌, ℕ, ◌<◌, ◌≤◌, ◌^◌, true, false, List, length, reverse, Option, Some}
use Rattle.iss_base.specs.Lists.{In}
use Rattle.iss_journal.specs.Frames.{max_entry}
use Rattle.iss_journal.specs.Retained.{is_snapshot, retained}
use Rattle.iss_request.specs.declared.setups.Setup.{Setup}
use Rattle.iss_rules.specs.Past.{log_of}
use Rattle.iss_rules.specs.declared.events.NodeEvent.{NodeEvent}
use Rattle.iss_sb.specs.Evidence.{Module}
use Rattle.iss_model.specs.Frames.{Frame, frame_of, step_in}
use Rattle.iss_model.specs.Node.{Core, Taken, Turn}
use Rattle.iss_model.specs.Slims.{IsPlaced, slim}
use Rattle.iss_snapshot.specs.Snapshots.{IsEncodable, fits, snapshot_row, spell_snapshot}
use Rattle.iss_rebuilt.specs.Reading.{Rebuilt, reads_entry, recovered}
use Rattle.iss_rebuilt.specs.Storable.{IsBehind, IsReadBack, IsStorable}
use Rattle.iss_rebuilt.specs.Stored.{Stored, snapshot_of, stored}

-- The entry with the snapshot of a storable core is read, after the snapshots before it, as a core with the slim part
-- of that one. The snapshot must have an encoding.
abbrev pub SnapshotsRebuild : {Msg : Type 0} → Setup → Module Msg → Type 0
SnapshotsRebuild {Msg} s M =
    let W = frame_of s M in
    (me : ℕ) (r : Rebuilt Msg) (d : Core Msg) → IsStorable W me d → IsBehind W me r d →
    IsEncodable s.version W.rules.slots (log_of W.rules M me r.core.past) (snapshot_of W me r.saved d) →
    (read : IsReadBack W me r d)
    × (reads_entry W me (Some r) (spell_snapshot s.version (snapshot_of W me r.saved d)) ≡ Some read.next)

-- The event has an entry: `spell` encodes the event, `event_in` decodes the entry, and the entry is no snapshot.
abbrev pub HasEntry : (NodeEvent → List ℕ) → (List ℕ → Option NodeEvent) → NodeEvent → Type 0
HasEntry spell event_in event = (event_in (spell event) ≡ Some event) × (is_snapshot (spell event) ≡ false)

-- Entries lead to a core with the slim part of the one that wrote them, and tell what snapshots saved. So each step is
-- the same from there on, and so is each later entry.
pub record IsRecovered {Msg : Type 0} (W : Frame Msg) (event_in : List ℕ → Option NodeEvent) (me : ℕ)
    (entries : List (List ℕ)) (st : Stored Msg) : Type 0 where
  pub found : Rebuilt Msg
  pub is : recovered W event_in me entries ≡ Some found
  pub saved : found.saved ≡ st.saved
  pub placed : IsPlaced W.rules W.spec me found.core
  pub known : IsPlaced W.rules W.spec me st.core
  pub slims : slim W.rules W.spec me found.core ≡ slim W.rules W.spec me st.core

-- What stays of a replica's entries leads back to the replica. A journal has its entries oldest first. The replica's
-- epoch is below 2^64: a number of eight bytes holds no greater one.
abbrev pub JournalsRecover : {Msg : Type 0} → Setup → Module Msg → Type 0
JournalsRecover {Msg} s M =
    let W = frame_of s M in
    (me : ℕ) → me < s.n → (spell : NodeEvent → List ℕ) (event_in : List ℕ → Option NodeEvent) →
    (events : List NodeEvent) → ((event : NodeEvent) → In event events → HasEntry spell event_in event) →
    let st = stored W spell me events in st.core.past.epoch < 2 ^ 64 →
    IsRecovered W event_in me (reverse (retained (reverse st.entries))) st

-- So the snapshot of a core that an event lets enter an epoch is too long, or has an encoding: what is kept of the
-- event is the event itself only where its snapshot is too long.
abbrev pub SnapshotsFit : {Msg : Type 0} → Setup → Module Msg → Type 0
SnapshotsFit {Msg} s M =
    let W = frame_of s M in
    (me : ℕ) → me < s.n → (spell : NodeEvent → List ℕ) (event_in : List ℕ → Option NodeEvent) →
    (events : List NodeEvent) → ((event : NodeEvent) → In event events → HasEntry spell event_in event) →
    (event : NodeEvent) (t : Turn Msg) (d : Core Msg) → HasEntry spell event_in event →
    step_in W me (stored W spell me events).core event ≡ Taken t → t.entered ≡ Some d →
    t.core.past.epoch < 2 ^ 64 →
    length (snapshot_row s.version (snapshot_of W me (stored W spell me events).saved d)) ≤ max_entry →
    fits (snapshot_of W me (stored W spell me events).saved d) ≡ true
