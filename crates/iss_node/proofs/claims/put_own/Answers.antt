use Rattle.std.proofs.Common.{◌∙◌}
use Rattle.iss_node.proofs.Wire.ClaimsAgree.{own-left, own-put}
use Rattle.iss_node.proofs.claims.put_own.Goals as goal

pub loop-claim-preserved-in-Continue-1 : goal.loop-claim-preserved-in-Continue-1
loop-claim-preserved-in-Continue-1 c = c.in_ok-push.ensures.ok ∙ own-put c.args.me.0 c.args.own.now c.loop-claim.own c.loop-claim.yielded c.in-Some.claim c.loop-claim.invariant c.if-claim-me.true

pub loop-claim-preserved : goal.loop-claim-preserved
loop-claim-preserved c = own-left c.args.me.0 c.args.own.now c.loop-claim.own c.loop-claim.yielded c.in-Some.claim c.loop-claim.invariant c.if-claim-me.false

pub loop-claim-preserved-else-claim-me : goal.loop-claim-preserved-else-claim-me
loop-claim-preserved-else-claim-me c = own-left c.args.me.0 c.args.own.now c.loop-claim.own c.loop-claim.yielded c.in-Some.claim c.loop-claim.invariant c.if-claim-me.false
