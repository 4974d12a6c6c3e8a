use Rattle.std.proofs.Common.{List, ℕ, ◌∷◌, ◌∙◌, ap}
use Rattle.iss_model.specs.Run.{has_signed}
use Rattle.iss_world.specs.Books.{is_booked}
use Rattle.iss_world.proofs.BookLemmas.{booked-more}
use Rattle.iss_world.proofs.claims.Claims.add.Goals as goal

pub returns : goal.returns
returns c book h i statement =
    booked-more c.in_ok-entry.entry c.args.claim.now.by.0 c.as_slice.result.now c.args.claim.now.statement c.in_ok-entry.ensures c.as_slice.ensures i statement _
    (is_booked c.self.inside.all.keys i statement) (has_signed i statement book) (c.in_ok-insert.ensures.updates.0 (i ∷ statement))
    (ap (λ (v : List (List ℕ)). is_booked v i statement) c.self.view_is ∙ h i statement)
