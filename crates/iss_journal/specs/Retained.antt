-- What stays of a journal's entries: the snapshots, and all that follows the last of them. A snapshot stands for all
-- entries before it, except that it repeats nothing that an earlier snapshot has.
use Rattle.std.specs.Prelude.{◌≡◌, ℕ, ◌+◌, ◌||◌, not, cond, eqb, Bool, false, List, [], ◌∷◌, length, refl}
use Rattle.iss_journal.specs.Frames.{frame}

-- an entry's first byte is its kind: 5 is a snapshot
abbrev pub is_snapshot : List ℕ → Bool
is_snapshot [] = false
is_snapshot (kind ∷ bytes) = eqb kind 5

abbrev pub has_snapshot : List (List ℕ) → Bool
has_snapshot [] = false
has_snapshot (entry ∷ entries) = is_snapshot entry || has_snapshot entries

-- whether an entry stays before these later ones: it is a snapshot, or none follows
abbrev pub stays : List ℕ → List (List ℕ) → Bool
stays entry later = is_snapshot entry || not (has_snapshot later)

-- What stays of all entries of a file, oldest first.
-- rule: Journal: Of the entries stay the snapshots, and all that follows the last of them
abbrev pub retained : List (List ℕ) → List (List ℕ)
retained [] = []
retained (entry ∷ later) = cond (stays entry later) (entry ∷ retained later) (retained later)

-- The offsets in the file of the gates of the entries that stay. The first of all entries has its gate at offset `at`.
abbrev pub gates_from : ℕ → List (List ℕ) → List ℕ
gates_from at [] = []
gates_from at (entry ∷ later) =
    cond (stays entry later) (at ∷ gates_from (at + length (frame entry)) later)
    (gates_from (at + length (frame entry)) later)

abbrev pub gates_in : List (List ℕ) → List ℕ
gates_in = gates_from 0

-- the entries that follow the last snapshot
abbrev pub behind : List (List ℕ) → List (List ℕ)
behind [] = []
behind (entry ∷ later) = cond (has_snapshot (entry ∷ later)) (behind later) (entry ∷ later)

-- Two events, a snapshot, an event, a snapshot and two events, the last of them without a byte.
abbrev all : List (List ℕ)
all = (2 ∷ []) ∷ (1 ∷ 7 ∷ []) ∷ (5 ∷ 0 ∷ []) ∷ (2 ∷ []) ∷ (5 ∷ []) ∷ (3 ∷ 0 ∷ []) ∷ [] ∷ []

example : retained all ≡ (5 ∷ 0 ∷ []) ∷ (5 ∷ []) ∷ (3 ∷ 0 ∷ []) ∷ [] ∷ []
example = refl

example_gates : gates_in all ≡ 13 ∷ 26 ∷ 32 ∷ 39 ∷ []
example_gates = refl
