-- Where entries lie in the bytes of a file: offsets of gates, and the bytes between them.
use Rattle.std.specs.Prelude.{◌≡◌, ℕ, zero, suc, ◌+◌, ◌*◌, ◌<◌, ◌≤◌, List, [], ◌∷◌, length, take, drop, get_or, Vec, vec_len, vec_capacity}
use Rattle.std.specs.Int.{w32, from_be_bytes}
use Rattle.iss_journal.specs.Frames.{frames, AreShort, max_entry}

-- the length of the entry whose gate is at this offset
abbrev pub size_at : List ℕ → ℕ → ℕ
size_at bytes gate = from_be_bytes w32 (take 4 (drop (gate + 1) bytes))

abbrev pub entry_at : List ℕ → ℕ → List ℕ
entry_at bytes gate = take (size_at bytes gate) (drop (gate + 5) bytes)

-- where that entry ends, which is the offset of the next gate
abbrev pub end_at : List ℕ → ℕ → ℕ
end_at bytes gate = gate + 5 + size_at bytes gate

-- `count` entries, the first of which has its gate at this offset
abbrev pub entries_from : ℕ → List ℕ → ℕ → List (List ℕ)
entries_from gate bytes zero = []
entries_from gate bytes (suc count) = entry_at bytes gate ∷ entries_from (end_at bytes gate) bytes count

abbrev pub entries_at : List ℕ → ℕ → List (List ℕ)
entries_at = entries_from 0

-- The bytes begin with the frames of `count` entries; the last gate follows at offset `last`.
pub record IsBook (bytes : List ℕ) (count last : ℕ) : Type 0 where
  pub front : take last bytes ≡ frames (entries_at bytes count)
  pub end : last ≡ length (frames (entries_at bytes count))
  pub short : AreShort (entries_at bytes count)

-- The marks are the offsets of the gates of entries 0, 8, 16 and so on.
-- rule: Journal: The offset of each eighth gate is remembered; the others follow from lengths
pub record AreMarks (marks : List ℕ) (entries : List (List ℕ)) : Type 0 where
  pub lies : (i : ℕ) → i < length marks → get_or marks i 0 ≡ length (frames (take (8 * i) entries))
  pub enough : length entries ≤ 8 * length marks
  pub no_more : 8 * length marks ≤ length entries + 7

-- so the parts of a book of entries lie
pub record IsLaidOut (bytes : List ℕ) (count last : ℕ) (marks : List ℕ) : Type 0 where
  pub book : IsBook bytes count last
  pub marked : AreMarks marks (entries_at bytes count)

-- there is room for the frame of this entry and a closed gate
pub record TakesFrame {Z : Type 0} (entry : List ℕ) (bytes : Vec ℕ Z) : Type 0 where
  pub short : length entry ≤ max_entry
  pub room : vec_len bytes + length entry + 6 ≤ vec_capacity bytes
