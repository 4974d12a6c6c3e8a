-- What a disk in memory shows: its files with their states, and which calls will pass.
use Rattle.std.specs.Prelude.{◌≡◌, ℕ, Bool, List, [], ◌∷◌, bytes_eq, if◌then◌else◌}
use Rattle.iss_disk.specs.File.{File, settled}
use Rattle.iss_disk.specs.Calls.{Device, Passes, Place, script}
use Rattle.iss_disk.specs.Fates.{passes_of}
use Rattle.iss_disk.specs.StoredViews.{history_of, room_of}
use Rattle.iss_disk.specs.declared.stored.StoredFile.{StoredFile}
use Rattle.iss_disk.specs.declared.memory.MemoryDisk.{MemoryDisk}

-- the states of the file of this name; a file that does not exist is new and empty
abbrev pub history_among : List StoredFile → List ℕ → List File
history_among [] name = settled [] ∷ []
history_among (file ∷ files) name = if bytes_eq file.name.items name then history_of file else history_among files name

-- the states of each file, by its name
abbrev pub files_of : MemoryDisk → List ℕ → List File
files_of disk name = history_among (disk.file ∷ disk.others.items) name

-- the current file
abbrev pub current_of : MemoryDisk → Place
current_of disk = record { name = disk.file.name.items; borrows = [] }

-- how many calls have failed
abbrev pub faults_of : MemoryDisk → ℕ
faults_of disk = disk.faults

-- what is known about which later calls succeed
abbrev pub calls_of : MemoryDisk → Passes
calls_of disk = passes_of disk.fate

-- all of that
abbrev pub state_of : MemoryDisk → Device
state_of disk = record {
  history = history_of disk.file;
  files = files_of disk;
  current = current_of disk;
  faults = faults_of disk;
  passes = calls_of disk;
  room = room_of disk.file;
}

-- all files are empty, the one with the empty name is the current one, and all calls succeed
pub record IsNew (device : Device) : Type 0 where
  pub files : (name : List ℕ) → device.files name ≡ settled [] ∷ []
  pub history : device.history ≡ settled [] ∷ []
  pub current : device.current.name ≡ []
  pub passes : device.passes ≡ script []
  pub faults : device.faults ≡ 0

-- the same files, with these outcomes of the next calls
pub record HasOutcomes (outcomes : List Bool) (before now : Device) : Type 0 where
  pub files : (name : List ℕ) → now.files name ≡ before.files name
  pub history : now.history ≡ before.history
  pub current : now.current ≡ before.current
  pub passes : now.passes ≡ script outcomes
  pub faults : now.faults ≡ before.faults
