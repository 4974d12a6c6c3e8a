use Rattle.std.proofs.Common.{◌<◌, ◌∙◌, length, arith, sym}
use Rattle.iss_rules.specs.Concrete.{rules_of}
use Rattle.iss_world.proofs.BookLemmas.{forged-here, forged-next}
use Rattle.iss_world.proofs.claims.Claims.first_forged.Goals as goal

pub returns-then-branch : goal.returns-then-branch
returns-then-branch c book h =
    let lt : c.loop-claim.claim-index < length c.args.claims.now = omega (arith, c.loop-claim-test.true) in
    forged-here c.args.members.now (rules_of c.args.members.now) book c.args.claims.now c.loop-claim.claim-index _ c.in_ok-copy_of.field-0 lt c.claim-item.is
    (c.loop-claim.invariant book h) (sym (c.in_ok-is_forged.ensures book h) ∙ c.if-branch.true) c.in_ok-copy_of.ensures

pub loop-claim-preserved : goal.loop-claim-preserved
loop-claim-preserved c book h =
    let lt : c.loop-claim.claim-index < length c.args.claims.now = omega (arith, c.loop-claim-test.true) in
    forged-next c.args.members.now (rules_of c.args.members.now) book c.args.claims.now c.loop-claim.claim-index _ lt c.claim-item.is
    (c.loop-claim.invariant book h) (sym (c.in_ok-is_forged.ensures book h) ∙ c.if-branch.false)
