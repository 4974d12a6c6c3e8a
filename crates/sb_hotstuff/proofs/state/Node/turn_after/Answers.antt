use Rattle.std.proofs.Common.{refl, arith}
use Rattle.std.proofs.lemmas.Result.{IfOk-weaker}
use Rattle.sb_hotstuff.proofs.Refinement.TurnRefines.{after-cast, after-nil}
use Rattle.sb_hotstuff.proofs.state.Node.turn_after.Goals as goal

pub returns-then-round_of-eq0 : goal.returns-then-round_of-eq0
returns-then-round_of-eq0 c =
    IfOk-weaker c.propose_cast.result _ _ (λ o d k t is low h.
    let fits = c.round_of.type_inv in
    after-cast c.args.context.now.p.now c.args.self.now c.propose_cast.new.self k o t c.args.last is low h c.saturating_add-view.result c.round_of.result c.in_ok-just.just c.round_of.ensures (omega (arith, fits)) c.saturating_add-view.ensures
    ((rw c.poll.ensures at c.in_ok-just.ensures) k.votes h.votes) c.if-round_of-eq0.true c.args.last.slots refl (d k)) c.propose_cast.ensures

pub returns : goal.returns
returns c =
    IfOk-weaker c.propose.result _ _ (λ o d k t is low h.
    let fits = c.round_of.type_inv in
    let later = c.if-round_of-eq0.false in
    let len = c.len.ensures in
    let room = c.if-last-len.false in
    let few = c.args.context.now.good.few in
    after-nil c.args.context.now.p.now c.args.self.now c.propose.new.self k o t c.args.last is low h c.saturating_add-view.result c.round_of.result c.in_ok-just.just c.round_of.ensures (omega (arith, fits)) c.saturating_add-view.ensures
    ((rw c.poll.ensures at c.in_ok-just.ensures) k.votes h.votes) (omega (arith, later)) (omega (arith, len, room)) few (d k)) c.propose.ensures
