use Rattle.std.proofs.Common.{sym, subst, List, ℕ}
use Rattle.iss_request.specs.declared.requests.Request.{Request}
use Rattle.iss_buckets.specs.Internal.Filed.{AreFiled}
use Rattle.iss_buckets.specs.Internal.Shelves.{IsShelf}
use Rattle.iss_buckets.proofs.FiledLemmas.{filed_less}
use Rattle.iss_buckets.proofs.ShelfLemmas.{shelf_less}
use Rattle.iss_buckets.proofs.shelf.Shelf.remove.Goals as goal

pub invariant_of-self-2 : goal.invariant_of-self-2
invariant_of-self-2 c =
    subst (λ (es : List (ℕ × Request)). IsShelf c.self.inside.next es c.remove-number.new.self.entries) (sym c.in_ok-request.ensures.entries)
    (shelf_less c.self.inside.next c.self.inside.requests.entries c.self.inside.numbers.entries c.remove-number.new.self.entries c.args.number c.in_ok-request.request c.self.invariant
    (sym c.in_ok-request.ensures.value) c.remove-number.ensures.updates.0)

pub returns-clause-filed_new : goal.returns-clause-filed_new
returns-clause-filed_new c =
    subst (λ (es : List (ℕ × Request)). AreFiled 0 es) (sym c.in_ok-request.ensures.entries) (filed_less 0 c.self.inside.requests.entries c.args.number c.self.invariant.filed)
