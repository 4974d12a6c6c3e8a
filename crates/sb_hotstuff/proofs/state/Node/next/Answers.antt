use Rattle.std.proofs.Common.{arith}
use Rattle.std.proofs.lemmas.Result.{IfOk-weaker}
use Rattle.sb_hotstuff.proofs.Refinement.TurnRefines.{next-after, next-cast, next-idle}
use Rattle.sb_hotstuff.proofs.state.Node.next.Goals as goal

pub returns-in_default : goal.returns-in_default
returns-in_default c =
    IfOk-weaker c.propose_cast.result _ _ (λ o d k h.
    next-cast c.args.context.now.p.now c.args.self.now c.propose_cast.new.self k o h c.last.result (c.last.ensures k.turns h.turns) c.in_default.is c.round_of.result c.round_of.ensures c.if-round_of-ne0.false
    (d k (omega arith) (omega arith) (omega arith) h)) c.propose_cast.ensures

pub returns-then-not-is_ready : goal.returns-then-not-is_ready
returns-then-not-is_ready c k h =
    next-idle c.args.context.now.p.now c.args.self.now c.args.self.now k c.nothing-then-not-is_ready.result h c.last.result (c.last.ensures k.turns h.turns) c.in-Some.last c.in-Some.is c.is_ready.result (c.is_ready.ensures k h)
    c.if-not-is_ready.true c.nothing-then-not-is_ready.ensures

pub returns : goal.returns
returns c =
    IfOk-weaker c.turn_after.result _ _ (λ o d k h.
    next-after c.args.context.now.p.now c.args.self.now c.turn_after.new.self k o h c.last.result (c.last.ensures k.turns h.turns) c.in-Some.last c.in-Some.is c.is_ready.result (c.is_ready.ensures k h)
    c.if-not-is_ready.false (d k)) c.turn_after.ensures
