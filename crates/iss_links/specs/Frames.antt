-- Frames. A packet is sent as fragments of 1,024 bytes, the last of which may be shorter. A frame is one fragment on a
-- link: a datagram of at most 1,041 bytes. It has no length of its own, since the datagram ends it.
--
--   frame    sender (1 byte), number of the packet (8), index of the part (4), number of parts (4), 1 to 1,024 bytes
use Rattle.std.specs.Prelude.{◌≡◌, ℕ, ◌+◌, ◌*◌, ◌/◌, ◌^◌, ◌<◌, ◌==◌, ◌&&◌, ◌||◌, Bool, true, nat_le, nat_lt, List, [], ◌∷◌, ◌++◌, length, take, drop, map, if◌then◌else◌}
use Rattle.std.specs.Int.{w32, w64, to_be_bytes}
use Rattle.iss_base.specs.Lists.{below}

-- a fragment: the sender and number of its packet, its index, how many parts the packet has, and the part's bytes
pub record Fragment : Type 0 where
  pub from : ℕ
  pub number : ℕ
  pub part : ℕ
  pub parts : ℕ
  pub bytes : List ℕ

-- the bytes of its frame
abbrev pub spell_frame : Fragment → List ℕ
spell_frame f = f.from ∷ to_be_bytes w64 f.number ++ to_be_bytes w32 f.part ++ to_be_bytes w32 f.parts ++ f.bytes

-- whether part `part` of `parts` may have this length: 1 to 1,024 bytes, and exactly 1,024 before the last part
abbrev pub is_part : ℕ → ℕ → ℕ → Bool
is_part part parts len =
    nat_lt part parts && (nat_le 1 len && (nat_le len 1024 && (part + 1 == parts || len == 1024)))

-- the fragment has a frame: its numbers fit their fields, and its length fits its part
pub record IsSpellable (f : Fragment) : Type 0 where
  pub from_fits : f.from < 256
  pub number_fits : f.number < 2 ^ 64
  pub parts_fit : f.parts < 2 ^ 32
  pub is_one : is_part f.part f.parts (length f.bytes) ≡ true

-- the datagram is the frame of this fragment
-- rule: Links: A fragment has one frame, and a datagram is the frame of at most one fragment
abbrev pub IsFrame : List ℕ → Fragment → Type 0
IsFrame datagram f = (datagram ≡ spell_frame f) × IsSpellable f

-- a datagram is the frame of at most one fragment
abbrev pub FramesAreExact : Type 0
FramesAreExact = (datagram : List ℕ) (f g : Fragment) → IsFrame datagram f → IsFrame datagram g → f ≡ g

-- how many parts a packet of this length has
abbrev pub parts_of : ℕ → ℕ
parts_of len = (len + 1023) / 1024

-- part k of a packet
abbrev pub part_of : ℕ → ℕ → List ℕ → ℕ → Fragment
part_of from number packet k = record {
  from = from;
  number = number;
  part = k;
  parts = parts_of (length packet);
  bytes = take 1024 (drop (1024 * k) packet);
}

-- all fragments of a packet, in order: none of an empty packet, and none of one of more than 200,000,016 bytes
-- rule: Links: A packet of 1 to 200,000,016 bytes is sent as parts of 1,024 bytes, in order; any other is not sent
abbrev pub fragments : ℕ → ℕ → List ℕ → List Fragment
fragments from number packet =
    if nat_le (length packet) 200000016 then map (part_of from number packet) (below (parts_of (length packet)))
    else []
