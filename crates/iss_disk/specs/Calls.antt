-- The calls of a disk. A call that passes adds the one state that its function gives. A call that fails adds any
-- number of states on the way: what was synced stays, and each crash image is one of the state before or after. How
-- many calls pass is unknown, a number, or a list. `Failed` is answered only where the count of faults rose.
use Rattle.std.specs.Prelude.{◌≡◌, ◌≢◌, ◌⊎◌, ℕ, zero, suc, ◌+◌, ◌-◌, ◌≤◌, min, Bool, true, false, Option, None, Some, List, [], ◌∷◌, ◌++◌, length, take, drop, Result, is_ok, OnOk, OnErr, IsErr, IsErrOf}
pub use Rattle.iss_base.specs.Counts.{Rose}
use Rattle.iss_disk.specs.File.{File, Image, restarted}
use Rattle.iss_disk.specs.declared.errors.EndError.{EndError}
use Rattle.iss_disk.specs.declared.errors.EndError.TheVariants.{Failed, NoMemory}

-- P holds for each of these states
abbrev pub EachState : (File → Type 0) → List File → Type 0
EachState P [] = Unit {0}
EachState P (file ∷ files) = P file × EachState P files

-- P holds for the newest state, if states are recorded
abbrev pub IfTold : List File → (File → Type 0) → Type 0
IfTold [] P = Unit {0}
IfTold (file ∷ past) P = P file

-- A state while a failing call was changing one file into the other. What was synced is the same. Each crash image is a
-- crash image of one of the two files. A read returns one of the crash images.
pub record IsBetween (from to state : File) : Type 0 where
  pub kept : state.kept ≡ from.kept
  pub images : (bytes : List ℕ) → Image state bytes → Image from bytes ⊎ Image to bytes
  pub content : Image state state.content

-- How a call changes its file's states, newest first. A successful call adds one state; a failing one adds states
-- between the two files. Nothing is claimed for a disk without recorded states.
abbrev pub Moves : (File → File) → Bool → List File → List File → Type 0
Moves change passed [] new = new ≡ []
Moves change true (file ∷ past) new = new ≡ change file ∷ file ∷ past
Moves change false (file ∷ past) new = (states : List File) × (new ≡ states ++ file ∷ past)
    × EachState (IsBetween file (change file)) states

-- after a restart a file is what was synced of it
abbrev pub Restarts : List File → List File → Type 0
Restarts [] new = new ≡ []
Restarts (file ∷ past) new = (new ≡ restarted file ∷ file ∷ past) ⊎ ((new ≡ file ∷ past) × (file ≡ restarted file))

-- Where a disk works: on the file of this name. A disk that is borrowed is known by the number of its borrow, and
-- behind that by those of the disk that it borrows, so that whoever lent a disk knows it again.
pub record Place : Type 0 where
  pub name : List ℕ
  pub borrows : List ℕ

-- the file of this name, on the same disk
abbrev pub named : List ℕ → Place → Place
named name place = record place { name = name }

-- the same file, of a disk that is borrowed once more
abbrev pub lent : ℕ → Place → Place
lent borrow place = record place { borrows = borrow ∷ place.borrows }

-- it is the same disk with the same current file, and all other files are unchanged
pub record StaysHere (place_before place_now : Place) (before now : List ℕ → List File) : Type 0 where
  pub place : place_now ≡ place_before
  pub others : (name : List ℕ) → name ≢ place_before.name → now name ≡ before name

-- it is the same disk with the same current file, and all files are unchanged
pub record Stays (place_before place_now : Place) (before now : List ℕ → List File) : Type 0 where
  pub place : place_now ≡ place_before
  pub all : (name : List ℕ) → now name ≡ before name

-- a failure is counted as a fault of the disk; the count never decreases
pub record HasCause (before now : ℕ) (failed : Type 0) : Type 0 where
  pub never_falls : before ≤ now
  pub rose : failed → Rose before now

-- What is known about the next calls: nothing; that the first n succeed and all others fail; or the outcome of each of
-- the next calls, after which all succeed.
pub data Passes : Type 0 where
  untold : Passes
  up_to : ℕ → Passes
  script : List Bool → Passes

-- whether the next call succeeds, if that is known
abbrev pub outcome : Passes → Option Bool
outcome untold = None
outcome (up_to zero) = Some false
outcome (up_to (suc n)) = Some true
outcome (script []) = Some true
outcome (script (passes ∷ later)) = Some passes

-- what is known after that call
abbrev pub next : Passes → Passes
next untold = untold
next (up_to zero) = up_to zero
next (up_to (suc n)) = up_to n
next (script []) = script []
next (script (passes ∷ later)) = script later

-- the fact for an unknown outcome, for success, or for failure
abbrev pub AtOutcome : Option Bool → Type 0 → Type 0 → Type 0 → Type 0
AtOutcome None unknown passes fails = unknown
AtOutcome (Some true) unknown passes fails = passes
AtOutcome (Some false) unknown passes fails = fails

-- at most n calls in a row, which stop at the first failure, and whether all n succeeded
abbrev pub Runs : ℕ → Passes → Passes → Bool → Type 0
Runs zero before now passed = (now ≡ before) × (passed ≡ true)
Runs (suc n) before now passed =
    AtOutcome (outcome before) (now ≡ before) (Runs n (next before) now passed) ((now ≡ next before) × (passed ≡ false))

-- room for `calls` calls of `write_at`, `cut` and `sync`, which write at most `bytes` bytes in total
pub record Room : Type 0 where
  pub calls : ℕ
  pub bytes : ℕ

-- room has decreased by at most these calls and bytes
pub record Takes (calls bytes : ℕ) (before now : Room) : Type 0 where
  pub calls_left : before.calls ≤ now.calls + calls
  pub bytes_left : before.bytes ≤ now.bytes + bytes

-- there is room for some calls, which write these many bytes
pub record Allows (some more : ℕ) (room : Room) : Type 0 where
  pub calls : some ≤ room.calls
  pub bytes : more ≤ room.bytes

-- What is known of a disk: its files so far, and which later calls succeed.
pub record Device : Type 0 where
  -- the states of the current file, newest first
  pub history : List File
  -- the states of each file, by its name
  pub files : List ℕ → List File
  -- the name of the current file, and which disk it is
  pub current : Place
  -- how many calls have failed
  pub faults : ℕ
  -- what is known about which later calls succeed
  pub passes : Passes
  -- the room that was made for later calls
  pub room : Room

-- the same device, of a disk that is borrowed once more
abbrev pub lent_device : ℕ → Device → Device
lent_device borrow device = record device { current = lent borrow device.current }

-- the file of this name became the current one; without memory the device was not called
pub record Attaches {T : Type 0} (name : List ℕ) (result : Result T EndError) (before now : Device) : Type 0 where
  pub current : OnOk result (now.current ≡ named name before.current)
  pub err : OnErr result (now.current ≡ before.current)
  pub files : (n : List ℕ) → now.files n ≡ before.files n
  pub cause : HasCause before.faults now.faults (IsErrOf result Failed)
  pub device : (IsErrOf result NoMemory → ⊥) → Runs 1 before.passes now.passes (is_ok result)
  pub no_memory : IsErrOf result NoMemory → now.passes ≡ before.passes

-- nothing has changed but the room, and that is no less
pub record OnlyMakesRoom (before now : Device) : Type 0 where
  pub more : Takes 0 0 before.room now.room
  pub same : Stays before.current now.current before.files now.files
  pub faults : now.faults ≡ before.faults
  pub passes : now.passes ≡ before.passes

-- one call that reads: no file changes, and it takes no room
pub record OnlyReads {T E : Type 0} (result : Result T E) (before now : Device) : Type 0 where
  pub same : Stays before.current now.current before.files now.files
  pub room : Takes 0 0 before.room now.room
  pub cause : HasCause before.faults now.faults (IsErr result)
  pub device : Runs 1 before.passes now.passes (is_ok result)

-- `n` bytes were read at an offset: they fill the slice as far as the file reaches
pub record IsReadAt (at : ℕ) (history : List File) (old new : List ℕ) (n : ℕ) : Type 0 where
  pub bound : n ≤ length old
  pub count : IfTold history (λ file. n ≡ min (length old) (length file.content - at))
  pub bytes : IfTold history (λ file. new ≡ take n (drop at file.content) ++ drop n old)

-- there is room for a call that writes this number of bytes, at an offset that is at most the file's length
pub record MayChange (at more : ℕ) (device : Device) : Type 0 where
  pub call : 1 ≤ device.room.calls
  pub bytes : more ≤ device.room.bytes
  pub within : IfTold device.history (λ file. at ≤ length file.content)

-- one call that changes the current file so, and writes this number of bytes
pub record Changes {T E : Type 0} (change : File → File) (bytes : ℕ) (result : Result T E) (before now : Device) :
    Type 0 where
  pub file : Moves change (is_ok result) before.history now.history
  pub others : StaysHere before.current now.current before.files now.files
  pub room : Takes 1 bytes before.room now.room
  pub cause : HasCause before.faults now.faults (IsErr result)
  pub device : Runs 1 before.passes now.passes (is_ok result)

-- this number of the next calls succeed, and all later ones fail
pub record IsFused (calls : ℕ) (before now : Device) : Type 0 where
  pub passes : now.passes ≡ up_to calls
  pub same : Stays before.current now.current before.files now.files
  pub faults : now.faults ≡ before.faults
  pub room : Takes 0 0 before.room now.room

-- a crash and a restart: each file is what was synced of it, and all later calls succeed
pub record IsRestarted (before now : Device) : Type 0 where
  pub files : (name : List ℕ) → Restarts (before.files name) (now.files name)
  pub current : now.current ≡ before.current
  pub passes : now.passes ≡ script []
  pub faults : now.faults ≡ before.faults
