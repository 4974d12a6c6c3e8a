-- What stays of all entries of a file: what a journal shows of them, and what small steps change in it.
use Rattle.std.specs.Prelude.{◌≡◌, ℕ, ◌+◌, ◌≤◌, ◌<◌, ◌^◌, false, List, [], ◌∷◌, ◌++◌, cond, length, vec_len, vec_capacity}
use Rattle.iss_journal.specs.Frames.{frame, frames, max_entry}
use Rattle.iss_journal.specs.Retained.{behind, is_snapshot, retained}
use Rattle.iss_journal.specs.SharedViews.{AreSame, HasSpace, IsLonger, shared_in}
use Rattle.iss_journal.specs.declared.retained.Retained.{Retained}

-- the entries that stay, oldest first
abbrev pub shown_in : Retained → List (List ℕ)
shown_in kept = shared_in kept.entries

-- the offsets of the gates of entries, the first of which has its gate at this offset
abbrev pub places : ℕ → List (List ℕ) → List ℕ
places at [] = []
places at (entry ∷ entries) = at ∷ places (at + length (frame entry)) entries

-- the offsets of the gates of the entries that stay
abbrev pub gates_over : Retained → List ℕ
gates_over kept = kept.gates.items ++ places kept.start (behind (shown_in kept))

-- the offsets of the snapshots' gates, if the first entry has its gate at this offset
abbrev pub snapshot_places : ℕ → List (List ℕ) → List ℕ
snapshot_places at [] = []
snapshot_places at (entry ∷ entries) =
    cond (is_snapshot entry) (at ∷ snapshot_places (at + length (frame entry)) entries)
    (snapshot_places (at + length (frame entry)) entries)

-- this is what stays of a file with these entries
pub record Retains (all : List (List ℕ)) (kept : Retained) : Type 0 where
  pub shown : shown_in kept ≡ retained all
  pub snapshots : kept.gates.items ≡ snapshot_places 0 all
  pub ends : kept.end ≡ length (frames all)

-- room for some entries, of `bytes` bytes in all
pub record TakesMore (some bytes : ℕ) (kept : Retained) : Type 0 where
  pub space : HasSpace some bytes kept.entries
  pub for_gates : vec_len kept.gates + some ≤ vec_capacity kept.gates
  pub in_file : kept.end + bytes + 6 < 2 ^ 64

-- the same entries at the same places, with no less room
pub record IsSame (old new : Retained) : Type 0 where
  pub entries : AreSame old.entries new.entries
  pub gates : new.gates.items ≡ old.gates.items
  pub start : new.start ≡ old.start
  pub last : new.end ≡ old.end
  pub few : vec_len new.gates ≡ vec_len old.gates
  pub gates_room : vec_capacity old.gates ≤ vec_capacity new.gates

-- an entry of `more` bytes, its frame included, was added within the room
pub record HasGrown (more : ℕ) (old new : Retained) : Type 0 where
  pub entries : IsLonger more old.entries new.entries
  pub gates : vec_len new.gates ≤ vec_len old.gates + 1
  pub gates_room : vec_capacity old.gates ≤ vec_capacity new.gates
  pub last : new.end ≡ old.end + more

-- there is room for this entry
pub record TakesEntry (entry : List ℕ) (kept : Retained) : Type 0 where
  pub short : length entry ≤ max_entry
  pub room : TakesMore 1 (length entry) kept

-- this entry was added, and of a file with one entry more this is what stays
pub record Adds (entry : List ℕ) (old new : Retained) : Type 0 where
  pub entries : shown_in new ≡ retained (shown_in old ++ entry ∷ [])
  pub event : is_snapshot entry ≡ false → shown_in new ≡ shown_in old ++ entry ∷ []
  pub retains : (all : List (List ℕ)) → Retains all old → Retains (all ++ entry ∷ []) new
  pub grown : HasGrown (5 + length entry) old new
