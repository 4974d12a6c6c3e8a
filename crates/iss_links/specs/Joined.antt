-- What a complete packet is made of: the first of each of its parts that were taken since the end had none of them. So
-- it is the packet that was sent, if all fragments under its sender, number and count of parts are of that packet.
use Rattle.std.specs.Prelude.{◌≡◌, ℕ, ◌<◌, ◌==◌, ◌&&◌, ◌||◌, Bool, true, false, List, [], ◌∷◌, ◌++◌, map, Option, Some, None, is_some, unwrap_or, if◌then◌else◌}
use Rattle.std.specs.List.{concat}
use Rattle.iss_base.specs.Lists.{In, below, first_of}
use Rattle.iss_links.specs.Frames.{Fragment, part_of}
use Rattle.iss_links.specs.Reassembly.{Partial, belongs, completed_by, empty_partial, has_part, partials_after, updated}

-- the partial packets of an end that took these fragments, newest first
abbrev pub partials_of : List Fragment → List Partial
partials_of [] = []
partials_of (f ∷ before) = partials_after f (partials_of before)

-- whether the fragment's packet is one of these
abbrev pub is_kept : Fragment → List Partial → Bool
is_kept f [] = false
is_kept f (p ∷ ps) = belongs f p || is_kept f ps

-- the bytes of part k of a packet in the oldest of these fragments that has it
abbrev pub first_part : ℕ → Partial → List Fragment → Option (List ℕ)
first_part k p [] = None
first_part k p (f ∷ before) =
    first_of (first_part k p before) (if belongs f p && (k == f.part) then Some f.bytes else None)

-- The packet that a fragment completes consists of parts 0 to the last of fragments that belong to it. Of each part it
-- has the first that was taken since a moment at which the end had no part of this packet.
pub record IsJoined (taken : List Fragment) (f : Fragment) (packet : List ℕ) : Type 0 where
  pub since : List Fragment
  pub older : List Fragment
  pub are_taken : since ++ older ≡ taken
  pub fresh : is_kept f (partials_of older) ≡ false
  pub all_there : (k : ℕ) → k < f.parts → is_some (first_part k (empty_partial f) since) ≡ true
  pub whole : packet ≡ concat (map (λ k. unwrap_or (first_part k (empty_partial f) since) []) (below f.parts))

-- each fragment has an index below its count of parts, as all that have a frame
abbrev pub AreWithin : List Fragment → Type 0
AreWithin fs = (f : Fragment) → In f fs → f.part < f.parts

-- Whatever fragments an end took before, a fragment completes its packet if all parts are then received, and what it
-- completes is joined as above.
abbrev pub AllPartsComplete : Type 0
AllPartsComplete = (before : List Fragment) (f : Fragment) → AreWithin (f ∷ before)
    → ((k : ℕ) → k < f.parts → has_part k (updated f (partials_of before)).received ≡ true)
    → is_some (completed_by f (partials_of before)) ≡ true

abbrev pub PacketsAreJoined : Type 0
PacketsAreJoined = (before : List Fragment) (f : Fragment) (packet : List ℕ) → AreWithin (f ∷ before)
    → completed_by f (partials_of before) ≡ Some packet → IsJoined (f ∷ before) f packet

-- each of these fragments that belongs to the packet of f is a part of this packet
abbrev pub AreFragmentsOf : Fragment → List ℕ → List Fragment → Type 0
AreFragmentsOf f packet fs = (g : Fragment) → In g fs → belongs g (empty_partial f) ≡ true
    → g ≡ part_of g.from g.number packet g.part

-- whatever other fragments were taken in between
abbrev pub ArriveAsSent : Type 0
ArriveAsSent = (before : List Fragment) (f : Fragment) (sent packet : List ℕ) → AreWithin (f ∷ before)
    → AreFragmentsOf f sent (f ∷ before) → completed_by f (partials_of before) ≡ Some packet → packet ≡ sent
