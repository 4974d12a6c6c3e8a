use Rattle.std.proofs.Common.{◌∙◌, ap, sym, subst, rules, Some, None, true, cond, Option, List, ◌++◌, ◌∷◌, [], ℕ, ◌≡◌, ◌+◌, ◌^◌, ◌<◌, arith}
use Rattle.std.specs.Result.{is_ok}
use Rattle.iss_request.specs.Log.{same_id}
use Rattle.iss_request.specs.declared.ids.ReqId.{ReqId}
use Rattle.iss_request.specs.declared.requests.Request.{Request}
use Rattle.iss_buckets.specs.Internal.Filed.{AreFiled, number_of}
use Rattle.iss_buckets.specs.Internal.Shelves.{IsShelf}
use Rattle.iss_buckets.proofs.FiledLemmas.{filed_more, insert_last}
use Rattle.iss_buckets.proofs.ShelfLemmas.{from_ok, shelf_same, shelf_more}
use Rattle.iss_buckets.proofs.shelf.Shelf.push.Goals as goal

pub invariant_of-self-in_err-insert : goal.invariant_of-self-in_err-insert
invariant_of-self-in_err-insert c =
    shelf_same c.self.inside.next c.self.inside.requests.entries c.insert.new.self.entries c.self.inside.numbers.entries c.reserve.new.self.entries c.self.invariant
    c.in_err-insert.ensures.err (λ id. c.in_ok-reserve.ensures.entries.2 id)

pub invariant_of-self-2 : goal.invariant_of-self-2
invariant_of-self-2 c =
    let none : number_of c.self.inside.requests.entries c.args.request.id ≡ None = ap (λ es. number_of es c.args.request.id) c.self.view_is ∙ c.requires in
    let ok : is_ok c.insert-2.result ≡ true = search rules in
    let step : c.in_ok-next.next ≡ c.self.inside.next + 1 = search rules in
    let small : c.self.inside.next + 1 < 2 ^ 64 = search rules in
    let known = λ (id : ReqId). (from_ok c.insert-2.result ok c.insert-2.ensures.updates).0 id
    ∙ ap (λ (o : Option ℕ). cond (same_id c.args.request.id id) (Some c.self.inside.next) o) (c.in_ok-reserve.ensures.entries.2 id) in
    subst (λ (k : ℕ). IsShelf k c.insert.new.self.entries c.insert-2.new.self.entries) (sym step)
    (shelf_more c.self.inside.next c.self.inside.requests.entries c.insert.new.self.entries c.self.inside.numbers.entries c.insert-2.new.self.entries c.args.request c.self.invariant small none c.in_ok-insert.ensures.entries known)

pub returns-clause-ok : goal.returns-clause-ok
returns-clause-ok c =
    let now = c.in_ok-insert.ensures.entries ∙ insert_last 0 c.self.inside.requests.entries c.self.inside.next c.args.request c.self.invariant.filed c.self.invariant.below in
    now ∙ ap (λ (es : List (ℕ × Request)). es ++ (c.self.inside.next, c.args.request) ∷ []) c.self.view_is

pub returns-clause-filed : goal.returns-clause-filed
returns-clause-filed c =
    let none : number_of c.self.inside.requests.entries c.args.request.id ≡ None = ap (λ es. number_of es c.args.request.id) c.self.view_is ∙ c.requires in
    let now = c.in_ok-insert.ensures.entries ∙ insert_last 0 c.self.inside.requests.entries c.self.inside.next c.args.request c.self.invariant.filed c.self.invariant.below in
    subst (λ (es : List (ℕ × Request)). AreFiled 0 es) (sym now)
    (filed_more 0 c.self.inside.requests.entries c.self.inside.next c.args.request c.self.invariant.filed c.self.invariant.below (omega arith) none)
