-- What an append leaves before its entry is in memory.
use Rattle.std.specs.Prelude.{◌≡◌, ℕ, ◌+◌, ◌≤◌, List, [], ◌∷◌, ◌++◌, length, Result, is_ok, IsErr, OnErr, OnOk}
use Rattle.iss_disk.specs.File.{File, settled}
use Rattle.iss_disk.specs.Calls.{Device, HasCause, IfTold, Runs, StaysHere, Takes}
use Rattle.iss_journal.specs.EntryViews.{IsStaged}
use Rattle.iss_journal.specs.Frames.{AreShort, Form, frames, max_entry}
use Rattle.iss_journal.specs.Promises.{LeavesWithOrWithout, Shows}
use Rattle.iss_journal.specs.RetainedViews.{Retains, TakesMore, shown_in}
use Rattle.iss_journal.specs.Sound.{RestsOver}
use Rattle.iss_journal.specs.declared.retained.Retained.{Retained}

-- the file is at rest with one entry more than those of which this is what stays
pub record RestsWith (kept : Retained) (entry : List ℕ) (file : File) : Type 0 where
  pub all : List (List ℕ)
  pub retains : Retains all kept
  pub is : file ≡ settled (frames (all ++ entry ∷ []) ++ 0 ∷ [])
  pub short : AreShort (all ++ entry ∷ [])

-- This entry is staged behind what is kept, whose file is at rest. There is room for it, in memory and on the disk.
pub record MayKeep (entry : List ℕ) (kept : Retained) (device : Device) : Type 0 where
  pub short : length entry ≤ max_entry
  pub staged : IsStaged entry kept.entries.own
  pub more : TakesMore 1 (length entry) kept
  pub calls : 4 ≤ device.room.calls
  pub bytes : length entry + 6 ≤ device.room.bytes
  pub rests : IfTold device.history (RestsOver kept)

-- The entry is written by four calls of the device. A crash at any moment leaves the entries with or without it.
pub record Keeps {T E : Type 0} (form : Form) (entry : List ℕ) (kept : Retained) (result : Result T E)
    (before now : Device) : Type 0 where
  pub any_moment : LeavesWithOrWithout form (shown_in kept) entry before.history now.history
  pub rests : OnOk result (IfTold now.history (RestsWith kept entry))
  pub stays : OnErr result (IfTold now.history (λ file. Shows form (shown_in kept) file.kept))
  pub room : OnOk result (Takes 4 (length entry + 6) before.room now.room)
  pub others : StaysHere before.current now.current before.files now.files
  pub cause : HasCause before.faults now.faults (IsErr result)
  pub device : Runs 4 before.passes now.passes (is_ok result)
