use Rattle.std.proofs.Common.{◌<◌, ◌∙◌, length, arith, sym, take}
use Rattle.iss_base.specs.Lists.{push_all}
use Rattle.iss_world.proofs.BookLemmas.{apart-next, collision-told, no-collision-at, not-some}
use Rattle.iss_world.proofs.strings.Strings.book.Goals as goal

pub returns-then-is_some-clause-told : goal.returns-then-is_some-clause-told
returns-then-is_some-clause-told c book h =
    let lt : c.loop-string.string-index < length c.args.strings.now = omega (arith, c.loop-string-test.true) in
    let now = c.loop-string.invariant book h in
    collision-told c.args.strings.now c.loop-string.string-index _ book c.in_ok-end.end lt c.string-item.is now.none (sym c.is_some.ensures ∙ c.if-is_some.true) (c.in_ok-end.ensures.told _ now.booked)

pub loop-string-preserved : goal.loop-string-preserved
loop-string-preserved c book h =
    let lt : c.loop-string.string-index < length c.args.strings.now = omega (arith, c.loop-string-test.true) in
    let now = c.loop-string.invariant book h in
    let no' = sym c.is_some.ensures ∙ c.if-is_some.false in
    apart-next c.add.new.self c.args.strings.now c.loop-string.string-index _ book lt c.string-item.is now.none
    (no-collision-at c.string-item.result (push_all (take c.loop-string.string-index c.args.strings.now) book) c.in_ok-end.end no' (c.in_ok-end.ensures.told _ now.booked)) (c.in_ok-end.ensures.booked _ now.booked (not-some c.in_ok-end.end no'))
