use Rattle.std.proofs.Common.{◌<◌, length, arith}
use Rattle.iss_world.proofs.BookLemmas.{signed-next}
use Rattle.iss_world.proofs.claims.Claims.book.Goals as goal

pub loop-claim-preserved : goal.loop-claim-preserved
loop-claim-preserved c book h =
    let lt : c.loop-claim.claim-index < length c.args.own.now = omega (arith, c.loop-claim-test.true) in
    signed-next c.add.new.self c.args.own.now c.loop-claim.claim-index _ book lt c.claim-item.is (c.in_ok-add.ensures _ (c.loop-claim.invariant book h))
