-- Reading a file, and bringing it to rest.
use Rattle.std.specs.Prelude.{◌≡◌, ℕ, ◌≤◌, List, length, Result, IsErr}
use Rattle.iss_disk.specs.Calls.{Allows, Device, HasCause, IfTold, Stays, StaysHere, Takes}
use Rattle.iss_disk.specs.File.{File, settled}
use Rattle.iss_journal.specs.EntryViews.{entries_in}
use Rattle.iss_journal.specs.Frames.{ClosesAfter, Form, Reads, damaged, holds}
use Rattle.iss_journal.specs.Promises.{ComesToRest, LeavesOnly, LeavesReading, RestsOn, Works}
use Rattle.iss_journal.specs.declared.entries.Entries.{Entries}

-- nothing has changed but what later calls bring, and a failure is one of the device
pub record OnlyLooks (failed : Type 0) (before now : Device) : Type 0 where
  pub history : now.history ≡ before.history
  pub same : Stays before.current now.current before.files now.files
  pub room : Takes 0 0 before.room now.room
  pub cause : HasCause before.faults now.faults failed
  pub works : Works before.passes now.passes failed

-- a file at rest was read, which leaves at each moment what it held
pub record OnlyLoads (form : Form) (failed : Type 0) (before now : Device) : Type 0 where
  pub any_moment : LeavesReading form before.history now.history
  pub others : StaysHere before.current now.current before.files now.files
  pub cause : HasCause before.faults now.faults failed
  pub works : Works before.passes now.passes failed

-- the file held these entries, and is at rest with them
pub record IsLoaded (form : Form) (before now : List File) (entries : Entries) : Type 0 where
  pub read : IfTold before (λ file. Reads form file.content (holds (entries_in entries)))
  pub rests : IfTold now (RestsOn (entries_in entries))
  pub file : IfTold before (λ from. IfTold now (ComesToRest from.content))

-- the file is damaged at this offset, and was not touched
pub record IsLeftDamaged (form : Form) (at : ℕ) (before now : List File) : Type 0 where
  pub damaged : IfTold before (λ file. Reads form file.content (damaged at))
  pub damaged_stays : now ≡ before

-- the file is all synced, and there is room to bring it to rest
pub record MayLoad (device : Device) : Type 0 where
  pub on_disk : IfTold device.history (λ file. file ≡ settled file.content)
  pub room : Allows 3 1 device.room

-- these entries are those of the file, which is all synced, and there is room to cut it
pub record MayCut (entries : Entries) (device : Device) : Type 0 where
  pub read : IfTold device.history (λ file. file ≡ settled entries.bytes.items)
  pub ends : ClosesAfter (entries_in entries) entries.bytes.items
  pub calls : 2 ≤ device.room.calls

-- these bytes, of which there is at most one, are the file's, which is all synced, and there is room to replace them
pub record MayEmpty (bytes : List ℕ) (device : Device) : Type 0 where
  pub read : IfTold device.history (λ file. file ≡ settled bytes)
  pub brief : length bytes ≤ 1
  pub room : Allows 3 1 device.room

-- the file is these bytes, which are these entries at rest
pub record RestsAs (entries : List (List ℕ)) (bytes : List ℕ) (history : List File) : Type 0 where
  pub rests : IfTold history (RestsOn entries)
  pub file : IfTold history (λ file. file ≡ settled bytes)

-- a file with these entries is brought to rest, which leaves them at each moment
pub record Settles {T E : Type 0} (form : Form) (entries : List (List ℕ)) (result : Result T E) (before now : Device) :
    Type 0 where
  pub any_moment : LeavesOnly (λ bytes. Reads form bytes (holds entries)) before.history now.history
  pub others : StaysHere before.current now.current before.files now.files
  pub cause : HasCause before.faults now.faults (IsErr result)
  pub works : Works before.passes now.passes (IsErr result)
