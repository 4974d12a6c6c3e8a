-- Reassembly of packets from the frames that an end takes, in any order, repeated or incomplete. Fragments with equal
-- sender, number and count of parts belong to one packet. Of each part the first fragment counts. A packet is complete
-- once it has all its parts, and is then kept no more. An end keeps at most 64 partial packets.
use Rattle.std.specs.Prelude.{◌≡◌, ℕ, suc, ◌==◌, ◌&&◌, ◌||◌, Bool, false, nat_lt, List, [], ◌∷◌, ◌++◌, length, take, drop, map, get_or, Option, Some, None, if◌then◌else◌}
use Rattle.std.specs.List.{concat}
use Rattle.iss_links.specs.Frames.{Fragment, IsFrame}
use Rattle.iss_links.specs.declared.links.Arrival.{Arrival}
use Rattle.iss_links.specs.declared.links.Arrival.TheVariants.{Got, Part, Nothing}

-- a partial packet: its sender, number and count of parts, and the parts received, strictly ascending by index
pub record Partial : Type 0 where
  pub from : ℕ
  pub number : ℕ
  pub parts : ℕ
  pub received : List (ℕ × List ℕ)

-- ---- the parts of one packet

-- whether part k was received
abbrev pub has_part : ℕ → List (ℕ × List ℕ) → Bool
has_part k [] = false
has_part k (p ∷ ps) = (k == p.0) || has_part k ps

-- with part k, in order of indices, not in order of arrival
-- rule: Links: Parts are joined in order of their indices, whatever the order of arrival
abbrev pub insert_part : ℕ → List ℕ → List (ℕ × List ℕ) → List (ℕ × List ℕ)
insert_part k bytes [] = (k, bytes) ∷ []
insert_part k bytes (p ∷ ps) = if nat_lt k p.0 then (k, bytes) ∷ p ∷ ps else p ∷ insert_part k bytes ps

-- rule: Links: Of each part the first fragment counts
abbrev pub add_part : ℕ → List ℕ → List (ℕ × List ℕ) → List (ℕ × List ℕ)
add_part k bytes ps = if has_part k ps then ps else insert_part k bytes ps

abbrev pub add_fragment : Fragment → Partial → Partial
add_fragment f p = record p { received = add_part f.part f.bytes p.received }

-- the packet of a fragment before any part was received
abbrev pub empty_partial : Fragment → Partial
empty_partial f = record { from = f.from; number = f.number; parts = f.parts; received = [] }

-- all parts were received
abbrev pub is_complete : Partial → Bool
is_complete p = length p.received == p.parts

-- the received parts, joined
abbrev pub payload : Partial → List ℕ
payload p = concat (map (λ part. part.1) p.received)

-- ---- the partial packets of an end, oldest first

-- whether the fragment belongs to this packet
-- rule: Links: Fragments belong to one packet where sender, number and count of parts are equal
abbrev pub belongs : Fragment → Partial → Bool
belongs f p = (f.from == p.from) && ((f.number == p.number) && (f.parts == p.parts))

-- the index of the fragment's packet: that of its partial packet, or of a new one behind all others
abbrev pub index_of : Fragment → List Partial → ℕ
index_of f [] = 0
index_of f (p ∷ ps) = if belongs f p then 0 else suc (index_of f ps)

-- the fragment's packet, with the fragment
abbrev pub updated : Fragment → List Partial → Partial
updated f ps = add_fragment f (get_or ps (index_of f ps) (empty_partial f))

-- without the oldest, if there are more than 64
-- rule: Links: An end keeps at most 64 partial packets; a further one pushes out the oldest
abbrev pub latest_64 : List Partial → List Partial
latest_64 ps = if nat_lt 64 (length ps) then drop 1 ps else ps

-- the partial packets after the end took a fragment
-- rule: Links: A complete packet is handed out once and kept no more
abbrev pub partials_after : Fragment → List Partial → List Partial
partials_after f ps =
    let k = index_of f ps in
    if is_complete (updated f ps) then take k ps ++ drop (suc k) ps
    else latest_64 (take k ps ++ updated f ps ∷ drop (suc k) ps)

-- the packet that the fragment completes, if it does
abbrev pub completed_by : Fragment → List Partial → Option (List ℕ)
completed_by f ps = if is_complete (updated f ps) then Some (payload (updated f ps)) else None

-- ---- what a frame gives

-- the packet that was completed, or `Part` if none was
abbrev pub IsOutcome : Option (List ℕ) → Arrival → Type 0
IsOutcome (Some packet) (Got bytes) = bytes.items ≡ packet
IsOutcome (Some packet) Part = ⊥
IsOutcome (Some packet) Nothing = ⊥
IsOutcome None (Got bytes) = ⊥
IsOutcome None Part = Unit {0}
IsOutcome None Nothing = ⊥

-- a datagram that is a frame adds its fragment
pub record AddsFragment (datagram : List ℕ) (before now : List Partial) (arrival : Arrival) : Type 0 where
  pub fragment : Fragment
  pub is_frame : IsFrame datagram fragment
  pub partials : now ≡ partials_after fragment before
  pub outcome : IsOutcome (completed_by fragment before) arrival

-- a datagram that is no frame changes nothing
-- rule: Links: A datagram that is no frame is dropped
pub record IsDropped (datagram : List ℕ) (before now : List Partial) (arrival : Arrival) : Type 0 where
  pub no_frame : (f : Fragment) → ¬ IsFrame datagram f
  pub same : now ≡ before
  pub outcome : arrival ≡ Part
