use Rattle.std.proofs.lemmas.Result.{IfOk-weaker}
use Rattle.sb_chained.proofs.Refinement.TurnRefines.{first-one}
use Rattle.sb_chained.proofs.state.Node.first.Goals as goal

pub returns : goal.returns
returns c =
    IfOk-weaker c.propose.result _ _ (λ o d k h.
    first-one c.args.context.now.p.now c.args.self.now c.propose.new.self k o c.args.round c.slots-slots.result c.args.just c.digest.result c.nil_or_mark-what.result h c.requires c.digest.ensures (c.slots-slots.ensures k.tree h.nodes.tree)
    c.nil_or_mark-what.ensures (d k)) c.propose.ensures
