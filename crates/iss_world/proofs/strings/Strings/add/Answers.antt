use Rattle.std.proofs.Common.{◌∙◌, Some, None, sym, ap, Option}
use Rattle.std.specs.Prelude.{option_map}
use Rattle.iss_world.proofs.BookLemmas.{at-digest, found-with, fresh-with, hashed-again, hashed-more, if-ok, put-digest}
use Rattle.iss_world.specs.Refines.{end_of}
use Rattle.iss_world.specs.declared.ends.Evidence.{Evidence}
use Rattle.iss_world.proofs.strings.Strings.add.Goals as goal

pub returns-in-Some-clause-told : goal.returns-in-Some-clause-told
returns-in-Some-clause-told c =
    let v = c.self.inside.all.entries in
    let at = at-digest v c.digest-digest.result c.args.string.now c.as_slice.result.now (Some c.in-Some.first.now) c.digest-digest.ensures c.as_slice.ensures c.in-Some.ensures.value in
    rw (← c.self.view_is) (if-ok _ _ c.collision.result c.collision.ensures (λ end e book h. e ∙ found-with v book c.in-Some.first.now c.args.string.now h at))

pub returns-in-Some-clause-booked : goal.returns-in-Some-clause-booked
returns-in-Some-clause-booked c =
    let v = c.self.inside.all.entries in
    let at = at-digest v c.digest-digest.result c.args.string.now c.as_slice.result.now (Some c.in-Some.first.now) c.digest-digest.ensures c.as_slice.ensures c.in-Some.ensures.value in
    rw (← c.self.view_is) (if-ok _ _ c.collision.result c.collision.ensures
    (λ end e book h none. hashed-again v book c.in-Some.first.now c.args.string.now h at (sym e ∙ ap (λ (o : Option Evidence). option_map end_of o) none)))

pub returns-clause-told : goal.returns-clause-told
returns-clause-told c =
    let v = c.self.inside.all.entries in
    let at = at-digest v c.digest-digest.result c.args.string.now c.as_slice.result.now None c.digest-digest.ensures c.as_slice.ensures c.in_default.ensures.value in
    rw (← c.self.view_is) (λ book h. sym (fresh-with v book c.args.string.now h at))

pub returns-clause-booked : goal.returns-clause-booked
returns-clause-booked c =
    let v = c.self.inside.all.entries in
    let at = at-digest v c.digest-digest.result c.args.string.now c.as_slice.result.now None c.digest-digest.ensures c.as_slice.ensures c.in_default.ensures.value in
    rw (← c.self.view_is) (λ book h none. hashed-more v c.insert.new.self.entries book c.args.string.now h at
    (put-digest v c.insert.new.self.entries c.digest-digest.result c.args.string.now c.as_slice.result.now c.of_bytes.result c.digest-digest.ensures c.as_slice.ensures (c.of_bytes.ensures ∙ c.in_ok-copy.ensures)
    c.in_ok-insert.ensures.updates.0))
