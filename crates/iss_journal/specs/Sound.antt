-- What a journal shows, and its invariant: while it is attached, its file is at rest, it shows what stays of the file's
-- entries, and the room that it reserved is there. And what its calls promise.
use Rattle.std.specs.Prelude.{◌≡◌, ℕ, ◌+◌, ◌*◌, ◌≤◌, ◌<◌, ◌^◌, Bool, true, false, List, [], ◌∷◌, ◌++◌, length, vec_len, vec_capacity, Result, is_ok, IsErrOf}
use Rattle.iss_disk.specs.File.{File}
use Rattle.iss_disk.specs.Calls.{Device, HasCause, IfTold, Room, Runs, Stays, StaysHere}
use Rattle.iss_disk.specs.declared.errors.EndError.{EndError}
use Rattle.iss_disk.specs.declared.errors.EndError.TheVariants.{Failed, NoMemory}
use Rattle.iss_journal.specs.Frames.{Form, Reads, frames, holds}
use Rattle.iss_journal.specs.Retained.{gates_in, is_snapshot, retained}
use Rattle.iss_journal.specs.EntryViews.{entries_in}
use Rattle.iss_journal.specs.RetainedViews.{Retains, gates_over, shown_in}
use Rattle.iss_journal.specs.Promises.{ComesToRest, EndsClosed, LeavesWithOrWithout, OnlyLeaves, RestsOn, Shows}
use Rattle.iss_journal.specs.declared.retained.Retained.{Retained}
use Rattle.iss_journal.specs.declared.reserved.Reserved.{Reserved}

-- What is seen of a journal.
pub record JournalState (D : Type 0) : Type 0 where
  pub disk : D
  -- what stays of the entries, oldest first
  pub entries : List (List ℕ)
  -- the offsets in the file of their gates
  pub gates : List ℕ
  -- whether entries may be appended
  pub attached : Bool
  -- the entries for which there is room
  pub reserved : Reserved

abbrev pub state_over : {D : Type 0} → D → Retained → Bool → Reserved → JournalState D
state_over disk kept attached reserved = record {
  disk = disk;
  entries = shown_in kept;
  gates = gates_over kept;
  attached = attached;
  reserved = reserved;
}

abbrev pub disk_of : {D : Type 0} → JournalState D → D
disk_of journal = journal.disk

abbrev pub entries_of : {D : Type 0} → JournalState D → List (List ℕ)
entries_of journal = journal.entries

abbrev pub gates_of : {D : Type 0} → JournalState D → List ℕ
gates_of journal = journal.gates

abbrev pub is_attached : {D : Type 0} → JournalState D → Bool
is_attached journal = journal.attached

-- room for some entries, in memory and on the disk
pub record HasRoom (spare : Reserved) (kept : Retained) (room : Room) : Type 0 where
  pub some : 1 ≤ spare.entries
  pub in_memory : length (frames (entries_in kept.entries.own)) + spare.limit + 5 ≤ vec_capacity kept.entries.own.bytes
  pub for_marks : vec_len kept.entries.own.marks + spare.entries ≤ vec_capacity kept.entries.own.marks
  pub for_tails : vec_len kept.entries.tails + spare.entries ≤ vec_capacity kept.entries.tails
  pub for_gates : vec_len kept.gates + spare.entries ≤ vec_capacity kept.gates
  pub in_file : kept.end + spare.limit + 5 < 2 ^ 64
  pub calls : 4 * spare.entries ≤ room.calls
  pub on_disk : spare.limit + 5 ≤ room.bytes

-- the file is at rest, and this is what stays of its entries
pub record RestsOver (kept : Retained) (file : File) : Type 0 where
  pub all : List (List ℕ)
  pub retains : Retains all kept
  pub rests : RestsOn all file

-- The invariant of a journal. While it is attached, its file is the frames of entries and a closed gate, all synced,
-- and what stays of these is in memory. The room that it has reserved is there.
pub record IsSound (device : Device) (kept : Retained) (attached : Bool) (reserved : Reserved) : Type 0 where
  pub rests : attached ≡ true → IfTold device.history (RestsOver kept)
  pub room_kept : 0 < reserved.limit → HasRoom reserved kept device.room

-- A journal that shows entries and their gates: those that stay of some entries, which are those of the file as far as
-- its content is told.
pub record IsRead (form : Form) (entries : List (List ℕ)) (gates : List ℕ) (history : List File) : Type 0 where
  pub all : List (List ℕ)
  pub read : IfTold history (λ file. Reads form file.content (holds all))
  pub stay : entries ≡ retained all
  pub lie : gates ≡ gates_in all

-- Attaching was Ok. These are the entries that the file held, and their gates. The file came to rest, and from then on
-- every crash image holds these entries.
pub record IsAttached (form : Form) (entries : List (List ℕ)) (gates : List ℕ) (before now : List File) : Type 0 where
  pub read : IsRead form entries gates before
  pub file : IfTold before (λ from. IfTold now (ComesToRest from.content))
  pub durable : IfTold now (OnlyLeaves (Shows form entries))

-- Only room was made. The entries, the files and the outcomes of later calls are the same.
pub record OnlyMoreRoom {D : Type 0} (old new : JournalState D) (before now : Device) : Type 0 where
  pub entries : new.entries ≡ old.entries
  pub attached : new.attached ≡ old.attached
  pub history : now.history ≡ before.history
  pub same : Stays before.current now.current before.files now.files
  pub faults : now.faults ≡ before.faults
  pub passes : now.passes ≡ before.passes

-- This entry was appended, and every crash image holds it.
pub record IsAppended {D : Type 0} (form : Form) (entry : List ℕ) (old new : JournalState D) (history : List File) :
    Type 0 where
  pub entries : new.entries ≡ retained (old.entries ++ entry ∷ [])
  pub event : is_snapshot entry ≡ false → new.entries ≡ old.entries ++ entry ∷ []
  pub file : IfTold history (EndsClosed new.entries)
  pub attached : new.attached ≡ true
  pub durable : IfTold history (OnlyLeaves (Shows form new.entries))

-- The device failed in an append. What was synced holds the entries without the new one.
pub record IsBroken {D : Type 0} (form : Form) (old new : JournalState D) (history : List File) : Type 0 where
  pub attached : new.attached ≡ false
  pub kept : IfTold history (λ file. Shows form old.entries file.kept)

-- An append takes four calls of the device. A crash at any moment leaves these entries with or without the new one.
pub record Appends {T : Type 0} (form : Form) (entries : List (List ℕ)) (entry : List ℕ) (result : Result T EndError)
    (before now : Device) : Type 0 where
  pub any_moment : LeavesWithOrWithout form entries entry before.history now.history
  pub device : (IsErrOf result NoMemory → ⊥) → Runs 4 before.passes now.passes (is_ok result)
  pub others : StaysHere before.current now.current before.files now.files
  pub cause : HasCause before.faults now.faults (IsErrOf result Failed)

-- the file, the outcomes of later calls, whether the journal is attached and its room are the same
pub record NothingChanged {D : Type 0} (old new : JournalState D) (before now : Device) : Type 0 where
  pub file : now.history ≡ before.history
  pub calls : now.passes ≡ before.passes
  pub attached : new.attached ≡ old.attached
  pub reserved : new.reserved ≡ old.reserved
