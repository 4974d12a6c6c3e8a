use Rattle.std.proofs.Common.{refl}
use Rattle.std.proofs.lemmas.Result.{IfOk-weaker}
use Rattle.sb_chained.specs.declared.state.Node.{Node}
use Rattle.sb_chained.proofs.Refinement.InputRefines.{cast-kept, cast-made}
use Rattle.sb_chained.proofs.state.Node.take_cast.Goals as goal

pub returns : goal.returns
returns c =
    let p = c.args.context.now.p.now in
    let m = c.args.self.now in
    let mid : Node = record m { casts = c.push.new.self } in
    IfOk-weaker c.next.result _ _ (λ o d s h. cast-made p m s c.args.slot c.args.batch c.next.new.self mid o c.may_cast.result (c.may_cast.ensures.may s h) c.if-not-may_cast.false refl
    (cast-kept p m s c.args.slot c.args.batch h c.push.new.self c.in_ok-push.ensures.ok mid refl) d) c.next.ensures
