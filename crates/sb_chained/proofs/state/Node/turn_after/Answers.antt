use Rattle.std.proofs.Common.{arith}
use Rattle.std.proofs.lemmas.Result.{IfOk-weaker}
use Rattle.sb_chained.proofs.Refinement.TurnRefines.{after-cast, after-mark, after-nil, after-unmarked}
use Rattle.sb_chained.proofs.state.Node.turn_after.Goals as goal

pub returns-then-not-is_marked : goal.returns-then-not-is_marked
returns-then-not-is_marked c k t is low h =
    let len = c.len.ensures in
    let full = c.if-last-len.true in
    after-unmarked c.args.context.now.p.now c.args.self.now c.args.self.now k c.nothing.result t c.args.last is low h c.args.context.now.good.few (omega arith) (omega (arith, len, full)) c.is_marked.result (c.is_marked.ensures k h) c.if-not-is_marked.true c.nothing.ensures

pub returns-then-last-len : goal.returns-then-last-len
returns-then-last-len c =
    IfOk-weaker c.propose.result _ _ (λ o d k t is low h.
    let len = c.len.ensures in
    let full = c.if-last-len.true in
    after-mark c.args.context.now.p.now c.args.self.now c.propose.new.self k o t c.args.last is low h c.args.context.now.good.few (omega arith) c.saturating_add-view.result c.in_ok-just.just c.saturating_add-view.ensures ((rw c.poll.ensures at c.in_ok-just.ensures) k.votes h.votes)
    (omega (arith, len, full)) c.is_marked.result (c.is_marked.ensures k h) c.if-not-is_marked.false (omega arith) (d k)) c.propose.ensures

pub returns-then-round_of-eq0 : goal.returns-then-round_of-eq0
returns-then-round_of-eq0 c =
    IfOk-weaker c.propose_cast.result _ _ (λ o d k t is low h.
    let len = c.len.ensures in
    let room = c.if-last-len.false in
    after-cast c.args.context.now.p.now c.args.self.now c.propose_cast.new.self k o t c.args.last is low h c.args.context.now.good.few (omega arith) c.saturating_add-view.result c.in_ok-just.just c.saturating_add-view.ensures ((rw c.poll.ensures at c.in_ok-just.ensures) k.votes h.votes)
    (omega (arith, len, room)) c.round_of.result c.round_of.ensures c.if-round_of-eq0.true (d k)) c.propose_cast.ensures

pub returns : goal.returns
returns c =
    IfOk-weaker c.propose-2.result _ _ (λ o d k t is low h.
    let len = c.len.ensures in
    let room = c.if-last-len.false in
    let later = c.if-round_of-eq0.false in
    after-nil c.args.context.now.p.now c.args.self.now c.propose-2.new.self k o t c.args.last is low h c.args.context.now.good.few (omega arith) c.saturating_add-view.result c.in_ok-just.just c.saturating_add-view.ensures ((rw c.poll.ensures at c.in_ok-just.ensures) k.votes h.votes)
    (omega (arith, len, room)) c.round_of.result c.round_of.ensures (omega (arith, later)) (d k)) c.propose-2.ensures
