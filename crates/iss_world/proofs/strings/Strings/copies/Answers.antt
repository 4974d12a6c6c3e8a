use Rattle.std.proofs.Common.{◌∙◌, List, ℕ, Option, Some, ap, sym}
use Rattle.iss_world.proofs.strings.Strings.copies.Goals as goal

pub returns-in-Some : goal.returns-in-Some
returns-in-Some c = rw (← c.self.view_is)
    (λ same. sym c.in-Some.ensures.value ∙ ap (λ (z : List ℕ). let o : Option (List ℕ) = Some z in o) (c.copies.ensures same))
