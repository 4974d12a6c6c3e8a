use Rattle.std.proofs.Common.{◌&&◌, ◌==◌, ◌∙◌, not, sym, None, if◌then◌else◌}
use Rattle.std.proofs.lemmas.Result.{IfOk-weaker}
use Rattle.sb_raft.specs.Rules.{is_leader, on_not_ok, on_ok}
use Rattle.sb_raft.specs.Refines.{IsLow, held}
use Rattle.sb_raft.proofs.Refinement.FollowerRulesRefine.{goes, goes_not, idle}
use Rattle.sb_raft.proofs.Refinement.LeaderRulesRefine.{reply-done}
use Rattle.sb_raft.proofs.raft.Raft.take_reply.Goals as goal

pub returns-then-not-hears : goal.returns-then-not-hears
returns-then-not-hears c =
    let m = c.args.self.now in
    let p = c.args.context.now.p.now in
    idle p (IsLow (held m)) m ((is_leader (held m).role && (c.args.term == m.term)) && not (c.args.from.0 == m.me.0)) (if c.args.ok then on_ok p m.me.0 (held m) c.args.from.0 c.args.index else on_not_ok (held m) c.args.from.0 c.args.index)
    c.nothing.result (sym c.hears.ensures ∙ c.if-not-hears.true) c.nothing.ensures

pub returns-then-ok : goal.returns-then-ok
returns-then-ok c =
    let m = c.args.self.now in
    let p = c.args.context.now.p.now in
    IfOk-weaker c.take_ok.result _ _ (λ e d. reply-done p m c.take_ok.new.self c.args.from.0 c.args.term c.args.index c.args.ok e (sym c.hears.ensures ∙ c.if-not-hears.false)
    (goes p (IsLow (held m)) m.me (held m) c.take_ok.new.self c.args.ok (on_ok p m.me.0 (held m) c.args.from.0 c.args.index) (on_not_ok (held m) c.args.from.0 c.args.index) None e c.if-ok.true d)) c.take_ok.ensures

pub returns-else-ok : goal.returns-else-ok
returns-else-ok c =
    let m = c.args.self.now in
    let p = c.args.context.now.p.now in
    IfOk-weaker c.take_not_ok.result _ _ (λ e d. reply-done p m c.take_not_ok.new.self c.args.from.0 c.args.term c.args.index c.args.ok e (sym c.hears.ensures ∙ c.if-not-hears.false)
    (goes_not p (IsLow (held m)) m.me (held m) c.take_not_ok.new.self c.args.ok (on_ok p m.me.0 (held m) c.args.from.0 c.args.index) (on_not_ok (held m) c.args.from.0 c.args.index) None e c.if-ok.false d)) c.take_not_ok.ensures
