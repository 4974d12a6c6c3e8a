use Rattle.std.proofs.Common.{arith}
use Rattle.std.proofs.lemmas.Result.{IfOk-weaker}
use Rattle.sb_raft.proofs.Refinement.LeaderRulesRefine.{votes-few, votes-won}
use Rattle.sb_raft.proofs.raft.Raft.count_votes.Goals as goal

pub returns-then-count-context : goal.returns-then-count-context
returns-then-count-context c =
    let count = rw c.nodes.ensures at c.count.ensures in
    let lt = c.if-count-context.true in
    votes-few c.args.context.now.p.now c.args.self.now c.args.sends c.only.result c.requires (omega (arith, count, lt)) c.only.ensures

pub returns : goal.returns
returns c =
    let count = rw c.nodes.ensures at c.count.ensures in
    let le = c.if-count-context.false in
    IfOk-weaker c.advance.result _ _ (λ e d. votes-won c.args.context.now.p.now c.args.self.now c.args.context.now.good.few c.lead.new.self c.advance.new.self c.args.sends c.append_to_others.new.sends e (omega (arith, count, le)) c.in_ok-lead.ensures.within d
    c.in_ok-lead.ensures.me c.in_ok-lead.ensures.state c.in_ok-append_to_others.ensures.appends) c.advance.ensures
