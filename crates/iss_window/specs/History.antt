-- What happens to windows, in order: identities are noted, and epochs end.
use Rattle.std.specs.Prelude.{◌≡◌, ⊤, ℕ, List, [], ◌∷◌}
use Rattle.iss_request.specs.declared.ids.ReqId.{ReqId}
use Rattle.iss_window.specs.declared.windows.Place.TheVariants.{Inside}
use Rattle.iss_window.specs.Window.{Noted, and_closed, and_noted, place_of}

pub data Moment : Type 0 where
  Notes : ReqId → Moment
  Ends : Moment

-- what is noted after these, given what was noted before
abbrev pub noted_after : Noted → List Moment → Noted
noted_after n [] = n
noted_after n (Notes id ∷ ms) = noted_after (and_noted n id) ms
noted_after n (Ends ∷ ms) = noted_after (and_closed n) ms

-- each number was inside its window, of this width, when it was noted
abbrev pub AreInside : ℕ → Noted → List Moment → Type 0
AreInside width n [] = ⊤
AreInside width n (Notes id ∷ ms) = (place_of width n.closed id ≡ Inside) × AreInside width (and_noted n id) ms
AreInside width n (Ends ∷ ms) = AreInside width (and_closed n) ms
