-- The ends of links that record their frames: the frames that wait at each, and its partial packets. Frames are taken
-- in the order sent.
use Rattle.std.specs.Prelude.{◌≡◌, ℕ, List, [], ◌∷◌, ◌++◌, get_or, set}
use Rattle.iss_links.specs.Frames.{Fragment, fragments}
use Rattle.iss_links.specs.Reassembly.{Partial, IsOutcome, completed_by, partials_after}
use Rattle.iss_links.specs.declared.links.Arrival.{Arrival}
use Rattle.iss_links.specs.declared.links.Arrival.TheVariants.{Nothing}

pub record End : Type 0 where
  -- the fragments sent to it and not taken, in the order sent
  pub waiting : List Fragment
  -- its partial packets, oldest first
  pub partials : List Partial

abbrev pub empty_end : End
empty_end = record { waiting = []; partials = [] }

-- end i; one that does not exist is empty
abbrev pub end_at : List End → ℕ → End
end_at ends i = get_or ends i empty_end

-- an end to which a packet was sent
abbrev pub with_packet : ℕ → ℕ → List ℕ → End → End
with_packet from number packet e = record e { waiting = e.waiting ++ fragments from number packet }

-- rule: Links: A packet waits at the end that it is sent to, behind what was sent there
abbrev pub after_send : ℕ → ℕ → ℕ → List ℕ → List End → List End
after_send from number to packet ends = set ends to (with_packet from number packet (end_at ends to))

-- an end after its first frame was taken, if it has one
abbrev pub first_taken : List Fragment → List Partial → End
first_taken [] partials = record { waiting = []; partials = partials }
first_taken (f ∷ fs) partials = record { waiting = fs; partials = partials_after f partials }

abbrev pub after_take : ℕ → List End → List End
after_take at ends = set ends at (first_taken (end_at ends at).waiting (end_at ends at).partials)

-- what taking the first frame gives: `Nothing` only if no frame waits
abbrev pub IsFirst : List Fragment → List Partial → Arrival → Type 0
IsFirst [] partials arrival = arrival ≡ Nothing
IsFirst (f ∷ fs) partials arrival = IsOutcome (completed_by f partials) arrival

-- rule: Links: A take gives a packet exactly where its frame completes one, and `Nothing` only where no frame waits
abbrev pub IsArrival : ℕ → List End → Arrival → Type 0
IsArrival at ends arrival = IsFirst (end_at ends at).waiting (end_at ends at).partials arrival
