-- What a journal promises for every crash. The file keeps all entries, and the journal shows what stays of them. At
-- each moment of an append a crash leaves the entries of the file, or these and the new one. Attaching loses no entry
-- that every crash before it would have left. At rest the file is the frames of all entries and one closed gate, all of
-- it synced.
use Rattle.std.specs.Prelude.{◌≡◌, ◌≢◌, ◌⊎◌, ℕ, ◌+◌, ◌<◌, ◌≤◌, List, [], ◌∷◌, ◌++◌, length, take}
use Rattle.iss_disk.specs.File.{File, Image, settled}
use Rattle.iss_disk.specs.Calls.{Device, EachState, HasCause, IfTold, Passes, StaysHere, script}
use Rattle.iss_journal.specs.Frames.{ClosesAfter, Form, frames, AreShort, Reading, Reads, damaged, holds}
use Rattle.iss_journal.specs.Retained.{retained}

-- P holds for every crash image
abbrev pub OnlyLeaves : (List ℕ → Type 0) → File → Type 0
OnlyLeaves P file = (bytes : List ℕ) → Image file bytes → P bytes

-- P holds for every crash image at each moment of a call, its start included. The states are newest first.
abbrev pub LeavesOnly : (List ℕ → Type 0) → List File → List File → Type 0
LeavesOnly P [] new = new ≡ []
LeavesOnly P (file ∷ past) new = (added : List File) × (new ≡ added ++ file ∷ past) × OnlyLeaves P file
    × EachState (OnlyLeaves P) added

-- of the entries of the file stay these
pub record Shows (form : Form) (entries : List (List ℕ)) (bytes : List ℕ) : Type 0 where
  pub all : List (List ℕ)
  pub read : Reads form bytes (holds all)
  pub stay : entries ≡ retained all

-- the file holds these entries, or these and one more
-- rule: Journal: An append writes its entry, syncs, opens the gate, and syncs
abbrev pub HoldsWithOrWithout : Form → List (List ℕ) → List ℕ → List ℕ → Type 0
HoldsWithOrWithout form all entry bytes = Reads form bytes (holds all) ⊎ Reads form bytes (holds (all ++ entry ∷ []))

-- what this list shows, or what it shows with one more entry
abbrev pub ShowsWithOrWithout : Form → List (List ℕ) → List ℕ → List ℕ → Type 0
ShowsWithOrWithout form entries entry bytes =
    Shows form entries bytes ⊎ Shows form (retained (entries ++ entry ∷ [])) bytes

-- Of the entries of the file stay these. At each moment of a call every crash image holds all of them, with or without
-- this new one.
abbrev pub LeavesWithOrWithout : Form → List (List ℕ) → List ℕ → List File → List File → Type 0
LeavesWithOrWithout form entries entry [] new = new ≡ []
LeavesWithOrWithout form entries entry (file ∷ past) new = (all : List (List ℕ)) × (entries ≡ retained all)
    × LeavesOnly (HoldsWithOrWithout form all entry) (file ∷ past) new

-- these entries are a prefix of those that the file holds
abbrev pub HoldsFirst : Form → List (List ℕ) → List ℕ → Type 0
HoldsFirst form entries bytes = (more : List (List ℕ)) × Reads form bytes (holds (entries ++ more))

-- If every crash image held these entries before the call, every crash image holds them at each moment of it.
abbrev pub LosesNothing : Form → List File → List File → Type 0
LosesNothing form [] new = new ≡ []
LosesNothing form (file ∷ past) new = (added : List File) × (new ≡ added ++ file ∷ past)
    × ((entries : List (List ℕ)) → OnlyLeaves (HoldsFirst form entries) file →
    EachState (OnlyLeaves (HoldsFirst form entries)) added)

-- the file is the frames of these entries and a closed gate, all synced
pub record RestsOn (entries : List (List ℕ)) (file : File) : Type 0 where
  pub gate : ℕ
  pub closed : gate ≢ 1
  pub is : file ≡ settled (frames entries ++ gate ∷ [])
  pub short : AreShort entries

-- What attaching leaves of a file with these bytes, all synced. A file of at most one byte becomes a closed gate. Any
-- other file is cut after its last gate, whose byte may be any closed one.
abbrev pub ComesToRest : List ℕ → File → Type 0
ComesToRest bytes now =
    ((length bytes ≤ 1) × (now ≡ settled (0 ∷ [])))
    ⊎ ((all : List (List ℕ)) × ClosesAfter all bytes × (1 < length bytes)
    × (now ≡ settled (take (length (frames all) + 1) bytes)))

-- what an append leaves: entries of which these stay, and a gate of 0, all synced
abbrev pub EndsClosed : List (List ℕ) → File → Type 0
EndsClosed entries file =
    (all : List (List ℕ)) × (file ≡ settled (frames all ++ 0 ∷ [])) × (entries ≡ retained all)

-- every crash image has this reading
abbrev pub OnlyReads : Form → Reading → File → Type 0
OnlyReads form reading = OnlyLeaves (λ bytes. Reads form bytes reading)

-- every crash image at each moment of a call has the reading that the file had before it
abbrev pub LeavesReading : Form → List File → List File → Type 0
LeavesReading form [] new = new ≡ []
LeavesReading form (file ∷ past) new = (added : List File) × (new ≡ added ++ file ∷ past)
    × ((reading : Reading) → Reads form file.content reading →
    OnlyReads form reading file × EachState (OnlyReads form reading) added)

-- if all calls of the disk succeed, none fails here, and all later ones succeed too
abbrev pub Works : Passes → Passes → Type 0 → Type 0
Works before now failed = before ≡ script [] → (now ≡ script []) × (failed → ⊥)

-- Attaching loses no entry at any moment, changes only the current file, and fails only if the device does.
pub record LosesNone (form : Form) (failed : Type 0) (before now : Device) : Type 0 where
  pub any_moment : LosesNothing form before.history now.history
  pub others : StaysHere before.current now.current before.files now.files
  pub cause : HasCause before.faults now.faults failed
  pub works : Works before.passes now.passes failed

-- The file was damaged at this offset, and stays byte for byte.
-- rule: Journal: A damaged file stays byte for byte
pub record StaysDamaged (form : Form) (at : ℕ) (before now : List File) : Type 0 where
  pub damaged : IfTold before (λ file. Reads form file.content (damaged at))
  pub damaged_stays : IfTold before (λ from. IfTold now (λ to. to ≡ settled from.content))
