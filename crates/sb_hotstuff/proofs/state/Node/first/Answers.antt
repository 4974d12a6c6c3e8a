use Rattle.std.proofs.lemmas.Result.{IfOk-weaker}
use Rattle.sb_hotstuff.proofs.Refinement.TurnRefines.{first-one}
use Rattle.sb_hotstuff.proofs.state.Node.first.Goals as goal

pub returns : goal.returns
returns c =
    IfOk-weaker c.propose.result _ _ (λ o d k h.
    first-one c.args.context.now.p.now c.args.self.now c.propose.new.self k o c.args.round c.count.result c.round_of.result c.slots-slots.result c.in_ok-just.just c.digest-parent.result c.has.result c.nil_or_mark-what.result h
    (c.count.ensures k.news h.news) c.if-count-context.false c.round_of.ensures c.if-round_of-round.false c.requires (c.in_ok-just.ensures k.news h.news) c.digest-parent.ensures (c.has.ensures k.tree h.tree)
    c.if-not-has.false (c.slots-slots.ensures k.tree h.tree) c.nil_or_mark-what.ensures (d k)) c.propose.ensures
