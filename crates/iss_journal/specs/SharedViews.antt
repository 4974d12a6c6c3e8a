-- What entries show whose ends are shared, and what small steps change in them.
use Rattle.std.specs.Prelude.{◌≡◌, ℕ, ◌+◌, ◌≤◌, List, length, vec_len, vec_capacity}
use Rattle.iss_journal.specs.EntryViews.{entries_in}
use Rattle.iss_journal.specs.Frames.{frames, max_entry}
use Rattle.iss_journal.specs.Tails.{with_tails}
use Rattle.iss_journal.specs.declared.shared.SharedEntries.{SharedEntries}

-- the entries, oldest first
abbrev pub shared_in : SharedEntries → List (List ℕ)
shared_in entries = with_tails (entries_in entries.own) entries.tails.items

-- room for some entries, of `bytes` bytes in all
pub record HasSpace (some bytes : ℕ) (entries : SharedEntries) : Type 0 where
  pub in_memory : length (frames (entries_in entries.own)) + bytes + 6 ≤ vec_capacity entries.own.bytes
  pub for_marks : vec_len entries.own.marks + some ≤ vec_capacity entries.own.marks
  pub for_tails : vec_len entries.tails + some ≤ vec_capacity entries.tails

-- the same entries, with no less room
pub record AreSame (old new : SharedEntries) : Type 0 where
  pub own : entries_in new.own ≡ entries_in old.own
  pub tails : new.tails.items ≡ old.tails.items
  pub bytes : vec_capacity old.own.bytes ≤ vec_capacity new.own.bytes
  pub marks : vec_len new.own.marks ≡ vec_len old.own.marks
  pub marks_room : vec_capacity old.own.marks ≤ vec_capacity new.own.marks
  pub few : vec_len new.tails ≡ vec_len old.tails
  pub tails_room : vec_capacity old.tails ≤ vec_capacity new.tails

-- `more` bytes were added, or fewer, and at most one entry, within the room
pub record IsLonger (more : ℕ) (old new : SharedEntries) : Type 0 where
  pub own : length (frames (entries_in new.own)) ≤ length (frames (entries_in old.own)) + more
  pub bytes : vec_capacity old.own.bytes ≤ vec_capacity new.own.bytes
  pub marks : vec_len new.own.marks ≤ vec_len old.own.marks + 1
  pub marks_room : vec_capacity old.own.marks ≤ vec_capacity new.own.marks
  pub tails : vec_len new.tails ≤ vec_len old.tails + 1
  pub tails_room : vec_capacity old.tails ≤ vec_capacity new.tails

-- entries were dropped, and their room is there
pub record AreFewer (old new : SharedEntries) : Type 0 where
  pub own : length (frames (entries_in new.own)) ≤ length (frames (entries_in old.own))
  pub bytes : vec_capacity old.own.bytes ≤ vec_capacity new.own.bytes
  pub marks : vec_len new.own.marks ≤ vec_len old.own.marks
  pub marks_room : vec_capacity old.own.marks ≤ vec_capacity new.own.marks
  pub tails : vec_len new.tails ≤ vec_len old.tails
  pub tails_room : vec_capacity old.tails ≤ vec_capacity new.tails

-- there is room for this entry
pub record HasSpaceFor (entry : List ℕ) (entries : SharedEntries) : Type 0 where
  pub short : length entry ≤ max_entry
  pub space : HasSpace 1 (length entry) entries
