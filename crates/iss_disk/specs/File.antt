-- The disk model: one file, what a read of it gives, and which crash images it has. A state has the content at the
-- last sync, and the later writes with the least and greatest length between them. A crash leaves any length between
-- these. Bytes stay as synced where no later write covers them and before the old end; all others may hold anything.
-- Trusted is that real disks keep to this.
use Rattle.std.specs.Prelude.{◌≡◌, ℕ, ◌+◌, ◌<◌, ◌≤◌, min, max, Bool, false, ◌&&◌, ◌||◌, nat_le, nat_lt, List, [], ◌∷◌, ◌++◌, length, take, drop, slice_index}

-- a file, with what happened to it since its last successful sync
pub record File : Type 0 where
  -- what a read returns
  pub content : List ℕ
  -- what a read returned at the last sync
  pub kept : List ℕ
  -- the writes after the last sync, newest first: offset and bytes of each
  pub written : List (ℕ × List ℕ)
  -- The least length that the file had at the last sync or when a write began. From there on a crash may leave
  -- anything.
  pub open_from : ℕ
  -- the least and the greatest length that the file had, or was being given, since the last sync
  pub shortest : ℕ
  pub longest : ℕ

-- whether one of the writes covers this offset
abbrev pub is_written : List (ℕ × List ℕ) → ℕ → Bool
is_written [] i = false
is_written (write ∷ writes) i = (nat_le write.0 i && nat_lt i (write.0 + length write.1)) || is_written writes i

-- The crash images of a file. A crash leaves any length from `shortest` to `longest`. It may change only the ranges
-- written since the last sync and what lies past `open_from`. All other bytes are those that were synced.
-- rule: Disk: A crash may change only bytes written since the last sync
pub record Image (file : File) (bytes : List ℕ) : Type 0 where
  pub long_enough : file.shortest ≤ length bytes
  pub short_enough : length bytes ≤ file.longest
  pub others : (i : ℕ) → i < length bytes → i < file.open_from → is_written file.written i ≡ false →
      slice_index bytes i ≡ slice_index file.kept i

-- a file with these bytes, all of them synced: they are its only crash image
abbrev pub settled : List ℕ → File
settled bytes = record {
  content = bytes;
  kept = bytes;
  written = [];
  open_from = length bytes;
  shortest = length bytes;
  longest = length bytes;
}

-- the bytes with `over` written at an offset, which may reach past their end
abbrev pub overwritten : ℕ → List ℕ → List ℕ → List ℕ
overwritten at over bytes = take at bytes ++ over ++ drop (at + length over) bytes

-- after a write
abbrev pub wrote : ℕ → List ℕ → File → File
wrote at bytes file = record {
  content = overwritten at bytes file.content;
  kept = file.kept;
  written = (at, bytes) ∷ file.written;
  open_from = min file.open_from (length file.content);
  shortest = file.shortest;
  longest = max file.longest (at + length bytes);
}

-- after a cut to n bytes
abbrev pub shortened : ℕ → File → File
shortened n file = record file { content = take n file.content; shortest = min file.shortest n }

-- after a sync
abbrev pub synced : File → File
synced file = settled file.content

-- after a crash that leaves what was synced
abbrev pub restarted : File → File
restarted file = settled file.kept
