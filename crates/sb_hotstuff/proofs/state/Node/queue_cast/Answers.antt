use Rattle.std.proofs.Common.{refl}
use Rattle.std.proofs.lemmas.Result.{IfOk-weaker}
use Rattle.sb_hotstuff.specs.declared.state.Node.{Node}
use Rattle.sb_hotstuff.proofs.Refinement.InputRefines.{cast-led}
use Rattle.sb_hotstuff.proofs.state.Node.queue_cast.Goals as goal

pub returns : goal.returns
returns c =
    let m = c.args.self.now in
    let mid : Node = record m { casts = c.push.new.self } in
    IfOk-weaker c.next.result _ _ (λ o d s h. cast-led c.args.context.now.p.now m s h c.args.slot c.args.batch c.next.new.self o c.may_cast.result mid (c.may_cast.ensures.may s h) c.if-not-may_cast.false refl c.push.new.self c.in_ok-push.ensures.ok refl d) c.next.ensures
