-- What the entries of a journal show: a list of byte strings, oldest first. And what small steps change in them.
use Rattle.std.specs.Prelude.{◌≡◌, ℕ, ◌+◌, ◌<◌, ◌≤◌, List, [], ◌∷◌, ◌++◌, length, take, drop, vec_len, vec_capacity}
use Rattle.iss_journal.specs.Frames.{frame, frames, max_entry}
use Rattle.iss_journal.specs.Views.{entries_at}
use Rattle.iss_journal.specs.declared.entries.Entries.{Entries}

-- the entries, oldest first
abbrev pub entries_in : Entries → List (List ℕ)
entries_in entries = entries_at entries.bytes.items entries.count

-- their bytes are followed by the frame of this entry and a closed gate
abbrev pub IsStaged : List ℕ → Entries → Type 0
IsStaged entry entries = entries.bytes.items ≡ frames (entries_in entries) ++ (frame entry ++ 0 ∷ [])

-- there are bytes behind the entries, the first of which is the last gate
abbrev pub HasGate : Entries → Type 0
HasGate entries = length (frames (entries_in entries)) < length entries.bytes.items

-- the bytes behind the last gate
abbrev pub behind_gate : Entries → List ℕ
behind_gate entries = drop (length (frames (entries_in entries)) + 1) entries.bytes.items

-- there is room for this entry
pub record HasPlace (entry : List ℕ) (entries : Entries) : Type 0 where
  pub short : length entry ≤ max_entry
  pub room : length (frames (entries_in entries)) + length entry + 6 ≤ vec_capacity entries.bytes
  pub mark : vec_len entries.marks < vec_capacity entries.marks

-- this entry is staged, and there is room for its mark
pub record IsReady (entry : List ℕ) (entries : Entries) : Type 0 where
  pub short : length entry ≤ max_entry
  pub bytes : IsStaged entry entries
  pub mark : vec_len entries.marks < vec_capacity entries.marks

-- room was made for some entries, the first of which has this number of bytes
pub record HasRoomFor (some more : ℕ) (old new : Entries) : Type 0 where
  pub room : length (frames (entries_in old)) + more + 6 ≤ vec_capacity new.bytes
  pub marks : vec_len new.marks + some ≤ vec_capacity new.marks

-- the same entries, with no less room
pub record IsSameBook (old new : Entries) : Type 0 where
  pub entries : entries_in new ≡ entries_in old
  pub no_less : vec_capacity old.bytes ≤ vec_capacity new.bytes
  pub marks_same : vec_len new.marks ≡ vec_len old.marks
  pub marks_no_less : vec_capacity old.marks ≤ vec_capacity new.marks

-- this entry was put behind the others
pub record Stages (entry : List ℕ) (old new : Entries) : Type 0 where
  pub entries : entries_in new ≡ entries_in old
  pub bytes : new.bytes.items ≡ frames (entries_in old) ++ (frame entry ++ 0 ∷ [])
  pub no_less : vec_capacity old.bytes ≤ vec_capacity new.bytes
  pub marks : new.marks ≡ old.marks

-- the entry that was put there became the last one
pub record Commits (entry : List ℕ) (old new : Entries) : Type 0 where
  pub entries : entries_in new ≡ entries_in old ++ entry ∷ []
  pub bytes : new.bytes ≡ old.bytes
  pub mark : vec_len new.marks ≤ vec_len old.marks + 1
  pub no_less : vec_capacity old.marks ≤ vec_capacity new.marks

-- this number of the first entries was kept, and the room of the others is there
pub record IsFirst (count : ℕ) (old new : Entries) : Type 0 where
  pub entries : entries_in new ≡ take count (entries_in old)
  pub bytes : vec_capacity new.bytes ≡ vec_capacity old.bytes
  pub marks : vec_len new.marks ≤ vec_len old.marks
  pub marks_room : vec_capacity new.marks ≡ vec_capacity old.marks
