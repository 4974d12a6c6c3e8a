-- One client's identities 0, 1 and 3 are noted, then the epoch ends. Its window moves to 2, where 3 is already ordered.
use Rattle.std.proofs.Common.{◌≡◌, List, [], ◌∷◌, refl, true, false}
use Rattle.iss_request.specs.Log.{has_id}
use Rattle.iss_window.specs.declared.windows.Place.TheVariants.{Below, Inside, Above}
use Rattle.iss_window.specs.History.{AreInside, Moment, noted_after}
use Rattle.iss_window.specs.History.Moment.{Notes, Ends}
use Rattle.iss_window.specs.Kept.{is_noted}
use Rattle.iss_window.specs.Window.{Noted, and_closed, and_noted, id_of, low, none_noted, place_of}

abbrev three : Noted
three = and_noted (and_noted (and_noted none_noted (id_of 0 0)) (id_of 0 1)) (id_of 0 3)

before_the_end : place_of 8 three.closed (id_of 0 0) ≡ Inside
before_the_end = refl

ordered_at_once : has_id (id_of 0 3) three.all ≡ true
ordered_at_once = refl

moved : low (and_closed three).closed 0 ≡ 2
moved = refl

other_client : low (and_closed three).closed 1 ≡ 0
other_client = refl

below : place_of 8 (and_closed three).closed (id_of 0 1) ≡ Below
below = refl

last_inside : place_of 8 (and_closed three).closed (id_of 0 9) ≡ Inside
last_inside = refl

first_above : place_of 8 (and_closed three).closed (id_of 0 10) ≡ Above
first_above = refl

-- ---- the same as moments, each number inside its window

abbrev moments : List Moment
moments = Notes (id_of 0 0) ∷ Notes (id_of 0 1) ∷ Notes (id_of 0 3) ∷ Ends ∷ Notes (id_of 0 9) ∷ []

all_inside : AreInside 8 none_noted moments
all_inside = (refl, (refl, (refl, (refl, tt))))

noted_last : has_id (id_of 0 9) (noted_after none_noted moments).all ≡ true
noted_last = refl

-- ---- what is kept then: from low watermark 2 on, the bits of 3 and 9

kept_bit : is_noted (2 ∷ []) (130 ∷ []) [] (id_of 0 9) ≡ true
kept_bit = refl

kept_gap : is_noted (2 ∷ []) (130 ∷ []) [] (id_of 0 8) ≡ false
kept_gap = refl

last_bit : is_noted (0 ∷ []) (9223372036854775808 ∷ []) [] (id_of 0 63) ≡ true
last_bit = refl

first_stray : is_noted (0 ∷ []) (9223372036854775808 ∷ []) (id_of 0 64 ∷ []) (id_of 0 64) ≡ true
first_stray = refl
