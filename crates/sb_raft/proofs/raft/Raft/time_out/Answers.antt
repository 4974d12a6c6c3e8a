use Rattle.std.proofs.Common.{List, ◌++◌, ◌∙◌, ap, sym, subst}
use Rattle.std.proofs.lemmas.Bool.{le-ltb}
use Rattle.std.proofs.lemmas.Result.{IfOk-weaker}
use Rattle.iss_sb.specs.declared.effects.To.{To}
use Rattle.iss_sb.specs.Calls.{AreToNodes}
use Rattle.raft_wire.specs.declared.messages.Message.{Message}
use Rattle.sb_raft.specs.Rules.{appends}
use Rattle.sb_raft.specs.Refines.{held}
use Rattle.sb_raft.proofs.Refinement.LeaderRulesRefine.{timeout-last, timeout-leader, timeout-refines}
use Rattle.sb_raft.proofs.raft.Raft.time_out.Goals as goal

pub returns-then-is_leader : goal.returns-then-is_leader
returns-then-is_leader c =
    let m = c.args.self.now in
    timeout-leader c.args.context.now.p.now m c.append_to_others.new.sends c.only.result (sym c.is_leader.ensures ∙ c.if-is_leader.true)
    (λ f. c.in_ok-append_to_others.ensures.appends f ∙ ap (λ (z : List (To × Message)). z ++ appends c.args.context.now.p.now m.me.0 (held m)) c.new-sends.ensures)
    (c.in_ok-append_to_others.ensures.addressed (subst (λ (z : List (To × Message)). AreToNodes c.args.context.now.p.now.setup.n z) (sym c.new-sends.ensures) tt)) c.only.ensures

pub returns-then-self-ge-LAST_TERM : goal.returns-then-self-ge-LAST_TERM
returns-then-self-ge-LAST_TERM c =
    let m = c.args.self.now in
    timeout-last c.args.context.now.p.now m c.nothing.result (sym c.is_leader.ensures ∙ c.if-is_leader.false) (le-ltb m.term 65535 c.if-self-ge-LAST_TERM.true) c.nothing.ensures

pub returns : goal.returns
returns c =
    let m = c.args.self.now in
    IfOk-weaker c.stand.result _ _ (λ e d. timeout-refines c.args.context.now.p.now m c.stand.new.self e (sym c.is_leader.ensures ∙ c.if-is_leader.false) c.if-self-ge-LAST_TERM.false d) c.stand.ensures
