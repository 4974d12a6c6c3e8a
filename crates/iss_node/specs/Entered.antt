-- The snapshot that takes the place of an event in a journal: that of the core as it entered its newest epoch.
use Rattle.std.specs.Prelude.{◌≡◌, ℕ, cond, Bool, List, Option, Some, None}
use Rattle.iss_ballots.specs.Ballots.{AreKept}
use Rattle.iss_checkpoint.specs.declared.votes.Cert.{Cert}
use Rattle.iss_checkpoint.specs.declared.votes.Vote.{Vote}
use Rattle.iss_model.specs.Frames.{frame_of}
use Rattle.iss_model.specs.Node.{Core}
use Rattle.iss_node.specs.Saved.{SavedState, saved_of}
use Rattle.iss_node.specs.State.{RefinesPast, StateView, core_of, holding, seen_early}
use Rattle.iss_node.specs.declared.answers.Early.{Early}
use Rattle.iss_rebuilt.specs.Stored.{Saved, is_storable, saved_after, snapshot_of}
use Rattle.iss_rules.specs.Past.{Past}
use Rattle.iss_sb.specs.Calls.{Relation}
use Rattle.iss_sb.specs.Evidence.{Module}
use Rattle.iss_snapshot.specs.Snapshots.{spell_snapshot}
use Rattle.iss_snapshot.specs.declared.snapshots.Snapshot.{Snapshot}

-- the snapshot of a core, behind those that hold this
-- rule: Persistence: A snapshot has the values and certificates that no earlier one has, and the next leaf
abbrev pub saved_by : {M Msg : Type 0} → Module Msg → StateView M Msg → Core Msg → Snapshot
saved_by m v d = snapshot_of (frame_of v.setup m) v.me.0 (saved_of v.saved) d

abbrev pub encoded_by : {M Msg : Type 0} → Module Msg → StateView M Msg → Core Msg → List ℕ
encoded_by m v d = spell_snapshot v.setup.version (saved_by m v d)

-- If an epoch was entered, its snapshot was made. The core is one without votes and certificates, and the snapshot has
-- those of the state.
-- rule: Persistence: A snapshot is of the node as it enters an epoch, with the early messages that it takes next
abbrev pub IsEntered : {M Msg : Type 0} → Module Msg → StateView M Msg → Option (Core Msg) → Option (List ℕ) → Type 0
IsEntered m v None bytes = bytes ≡ None
IsEntered m v (Some d) bytes = (votes : List Vote) (certs : List Cert) → AreKept v.ballots votes certs →
    bytes ≡ Some (encoded_by m v (holding votes certs d))

-- The snapshot of each core that the state refines, with these messages.
abbrev pub IsSnapshotOf : {M Msg : Type 0} → Module Msg → Relation M Msg → StateView M Msg → List (Early Msg) →
    Snapshot → Type 0
IsSnapshotOf {Msg = Msg} m refines v early s = (past : Past Msg) (votes : List Vote) (certs : List Cert) →
    RefinesPast m refines v past → AreKept v.ballots votes certs →
    s ≡ saved_by m v (holding votes certs (record (core_of v past) { early = seen_early early }))

-- The same in bytes.
abbrev pub IsEntryOf : {M Msg : Type 0} → Module Msg → Relation M Msg → StateView M Msg → List (Early Msg) → List ℕ →
    Type 0
IsEntryOf {Msg = Msg} m refines v early bytes = (past : Past Msg) (votes : List Vote) (certs : List Cert) →
    RefinesPast m refines v past → AreKept v.ballots votes certs →
    bytes ≡ encoded_by m v (holding votes certs (record (core_of v past) { early = seen_early early }))

-- The same of a core with its votes and certificates.
abbrev pub IsHeldEntered : {M Msg : Type 0} → Module Msg → StateView M Msg → Option (Core Msg) → Option (List ℕ) →
    Type 0
IsHeldEntered m v None bytes = bytes ≡ None
IsHeldEntered m v (Some d) bytes = bytes ≡ Some (encoded_by m v d)

-- The snapshot is handed out, unless it is too long.
abbrev pub storable_of : ℕ → Snapshot → Option (List ℕ)
storable_of version s = cond (is_storable version s) (Some (spell_snapshot version s)) None

-- What snapshots hold after an event, if its snapshot is handed out.
abbrev pub saved_with : Bool → Saved → Snapshot → Saved
saved_with handed saved s = cond handed (saved_after saved s) saved

-- What an event hands out and notes if it entered an epoch. `v` is the state before the event.
-- rule: Persistence: A snapshot takes the place of the event that ended an epoch, unless it is too long
abbrev pub IsKeptEntry : {M Msg : Type 0} → Module Msg → StateView M Msg → Option (Core Msg) → SavedState →
    Option (List ℕ) → Type 0
IsKeptEntry m v None new bytes = (bytes ≡ None) × (new ≡ v.saved)
IsKeptEntry m v (Some d) new bytes =
    let s = saved_by m v d in
    (bytes ≡ storable_of v.setup.version s)
    × (saved_of new ≡ saved_with (is_storable v.setup.version s) (saved_of v.saved) s)
