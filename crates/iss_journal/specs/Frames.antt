-- The bytes of a journal's file. A frame is an open gate (byte 1), the entry's length in four bytes and the entry. A
-- file holds entries if it is their frames and then a byte other than 1; a file of at most one byte holds none. It is
-- damaged at an offset if frames lead up to it, and there is an open gate without a whole entry behind it. Each list
-- of bytes has exactly one such reading.
use Rattle.std.specs.Prelude.{◌≡◌, ◌≢◌, ◌⊎◌, ℕ, ◌+◌, ◌<◌, ◌≤◌, List, [], ◌∷◌, ◌++◌, length, take, refl}
use Rattle.std.specs.Int.{w32, to_be_bytes, from_be_bytes}
use Rattle.std.specs.Coded.{×_prop, Unit-prop, le_prop}
use Rattle.std.proofs.Common.{inl, lit≤}

-- the longest entry, in bytes
abbrev pub max_entry : ℕ
max_entry = 200000100

-- an open gate, the length in four big-endian bytes, and the entry
abbrev pub frame : List ℕ → List ℕ
frame entry = 1 ∷ (to_be_bytes w32 (length entry) ++ entry)

abbrev pub frames : List (List ℕ) → List ℕ
frames [] = []
frames (entry ∷ entries) = frame entry ++ frames entries

abbrev pub AreShort : List (List ℕ) → Type 0
AreShort [] = Unit {0}
AreShort (entry ∷ entries) = (length entry ≤ max_entry) × AreShort entries

pub short_prop : (entries : List (List ℕ)) → IsProp (AreShort entries)
short_prop [] = Unit-prop
short_prop (entry ∷ entries) = ×_prop le_prop (short_prop entries)

-- after an open gate there are a length, the whole entry and the next gate
abbrev pub IsWhole : List ℕ → Type 0
IsWhole rest = let size = from_be_bytes w32 (take 4 rest) in (4 ≤ length rest) × (size ≤ max_entry)
    × (5 + size ≤ length rest)

-- these entries, then a closed gate, then any bytes
pub record ClosesAfter (entries : List (List ℕ)) (file : List ℕ) : Type 0 where
  pub gate : ℕ
  pub rest : List ℕ
  pub is : file ≡ frames entries ++ gate ∷ rest
  pub closed : gate ≢ 1
  pub short : AreShort entries

-- entries, then at this offset an open gate that is not followed by a whole entry
-- rule: Journal: A file without a reading is damaged, at the offset of its gate
pub record BreaksAt (at : ℕ) (file : List ℕ) : Type 0 where
  pub entries : List (List ℕ)
  pub rest : List ℕ
  pub is : file ≡ frames entries ++ 1 ∷ rest
  pub offset : at ≡ length (frames entries)
  pub short : AreShort entries
  pub broken : IsWhole rest → ⊥

-- what a file represents: a list of entries, or damage at an offset
pub data Reading : Type 0 where
  holds : List (List ℕ) → Reading
  damaged : ℕ → Reading

-- How the bytes of a file are laid out. In version 1 the frames begin at its first byte.
pub data Form : Type 0 where
  version_1 : Form

-- A file of at most one byte represents an empty journal. Any other file has exactly one of the two readings.
-- rule: Journal: Attaching reads entries up to the first closed gate, and cuts off the rest
abbrev pub Reads : Form → List ℕ → Reading → Type 0
Reads version_1 file (holds entries) =
    ((length file ≤ 1) × (entries ≡ [])) ⊎ ((1 < length file) × ClosesAfter entries file)
Reads version_1 file (damaged at) = (1 < length file) × BreaksAt at file

-- One entry of one byte, and a single open gate.
one_entry : frames ((170 ∷ []) ∷ []) ++ 0 ∷ [] ≡ 1 ∷ 0 ∷ 0 ∷ 0 ∷ 1 ∷ 170 ∷ 0 ∷ []
one_entry = refl

single_gate : Reads version_1 (1 ∷ []) (holds [])
single_gate = inl (lit≤ tt, refl)
