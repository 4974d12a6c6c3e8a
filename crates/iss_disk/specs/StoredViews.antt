-- What a stored file shows: its content, what was synced of it, and its states.
use Rattle.std.specs.Prelude.{◌≡◌, ℕ, ◌+◌, ◌-◌, ◌<◌, ◌≤◌, min, nat_le, if◌then◌else◌, List, [], ◌++◌, length, vec_len, vec_capacity}
use Rattle.iss_disk.specs.File.{File}
use Rattle.iss_disk.specs.Calls.{Room, Takes}
use Rattle.iss_disk.specs.States.{after, states, calls_of}
use Rattle.iss_disk.specs.NoteViews.{calls_in, room_in}
use Rattle.iss_disk.specs.declared.call.Recent.TheVariants.{Nothing, Kept}
use Rattle.iss_disk.specs.declared.stored.StoredFile.{StoredFile}

-- its states so far, newest first
abbrev pub history_of : StoredFile → List File
history_of file = states (calls_of file.recent ++ calls_in file.calls) file.lost.items file.content.items

-- how many bytes fit into all of its lists
abbrev pub room_for_bytes : StoredFile → ℕ
room_for_bytes file =
    min (vec_capacity file.lost - (vec_len file.lost + vec_len file.content))
    (min (vec_capacity file.content - vec_len file.content) (vec_capacity file.behind - vec_len file.content))

-- how many calls fit into their list, if everything in the file may still be removed
abbrev pub room_for_calls : StoredFile → ℕ
room_for_calls file =
    if nat_le (vec_len file.lost + vec_len file.content) (vec_capacity file.lost)
    then room_in file.calls - (length (calls_of file.recent) + 1) else 0

-- the room in its lists
abbrev pub room_of : StoredFile → Room
room_of file = record { calls = room_for_calls file; bytes = room_for_bytes file }

-- the file was changed so by one call, which wrote this number of bytes
pub record Becomes (change : File → File) (bytes : ℕ) (old new : StoredFile) : Type 0 where
  pub states : history_of new ≡ after change (history_of old)
  pub room : Takes 1 bytes (room_of old) (room_of new)
  pub name : new.name.items ≡ old.name.items

-- there is room for a call that writes this number of bytes, at an offset that is at most the file's length
pub record MayWrite (at more : ℕ) (file : StoredFile) : Type 0 where
  pub call : 1 ≤ (room_of file).calls
  pub bytes : more ≤ (room_of file).bytes
  pub within : at ≤ length file.content.items

-- all of the file is synced and noted
pub record IsAtRest (file : StoredFile) : Type 0 where
  pub nothing_apart : file.behind.items ≡ []
  pub all_synced : file.same ≡ length file.content.items
  pub all_noted : file.recent ≡ Nothing

-- all of the file is synced, and what was just synced begins behind this offset
pub record IsGate (at : ℕ) (file : StoredFile) : Type 0 where
  pub within : at < length file.content.items
  pub nothing_apart : file.behind.items ≡ []
  pub all_synced : file.same ≡ length file.content.items
  pub just_kept : file.recent ≡ Kept (at + 1)
