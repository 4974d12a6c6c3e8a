use Rattle.std.proofs.Common.{rules, ◌≡◌, ◌∙◌, List, ℕ, Option, Some, ap, sym}
use Rattle.iss_request.specs.Digest.{digest}
use Rattle.iss_world.specs.Books.{string_at}
use Rattle.iss_world.proofs.BookLemmas.{at-digest, hashed-still, put-digest}
use Rattle.iss_world.proofs.strings.Strings.share_one.Goals as goal

pub returns : goal.returns
returns c =
    let v = c.self.inside.all.entries in
    let x = c.in_ok-string.string in
    let found : string_at v c.digest-digest.result ≡ Some c.as_slice-2.result.now =
    rw (c.self.view_is) (c.copies-here.ensures (search rules)) in
    let at : string_at v (digest x) ≡ Some c.as_slice-2.result.now =
    at-digest v c.digest-digest.result x c.as_slice.result.now (Some c.as_slice-2.result.now) c.digest-digest.ensures
    c.as_slice.ensures (sym found) in
    rw (← c.self.view_is) (λ book h. hashed-still v c.insert.new.self.entries book x h
    (at ∙ ap (λ (z : List ℕ). let o : Option (List ℕ) = Some z in o) c.as_slice-2.ensures)
    (put-digest v c.insert.new.self.entries c.digest-digest.result x c.as_slice.result.now c.in_ok-of_value.field-0
    c.digest-digest.ensures c.as_slice.ensures (c.in_ok-of_value.ensures ∙ sym c.in_ok-string.ensures)
    c.in_ok-insert.ensures.updates.0))
