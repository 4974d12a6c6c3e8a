use Rattle.std.proofs.Common.{◌&&◌, ◌==◌, ◌-◌, ◌∙◌, refl, sym}
use Rattle.std.specs.Prelude.{nat_le}
use Rattle.std.proofs.lemmas.Result.{IfOk-weaker}
use Rattle.iss_base.specs.Lists.{set_at}
use Rattle.sb_raft.specs.declared.raft.Raft.{Raft}
use Rattle.sb_raft.specs.Kept.{kept}
use Rattle.sb_raft.specs.Rules.{answer, append_behind}
use Rattle.sb_raft.specs.Refines.{IsLow, held}
use Rattle.sb_raft.proofs.Refinement.FollowerRulesRefine.{idle}
use Rattle.sb_raft.proofs.Refinement.LeaderRulesRefine.{not-ok-done}
use Rattle.sb_raft.proofs.raft.Raft.take_not_ok.Goals as goal

pub returns-then-not-was_sent_last : goal.returns-then-not-was_sent_last
returns-then-not-was_sent_last c =
    let m = c.args.self.now in
    let i = c.args.index in
    idle c.args.context.now.p.now (IsLow (held m)) m ((i == kept m.next c.args.from.0 - 1) && nat_le 1 i) (answer (record (held m) { next = set_at (kept m.next) c.args.from.0 i }) c.args.from.0 (append_behind (held m) (i - 1))) c.nothing.result
    (sym c.was_sent_last.ensures ∙ c.if-not-was_sent_last.true) c.nothing.ensures

pub returns : goal.returns
returns c =
    let m = c.args.self.now in
    let new : Raft = record m { next = c.put.new.self } in
    IfOk-weaker c.one.result _ _ (λ e h. not-ok-done c.args.context.now.p.now m c.args.from.0 c.args.index c.requires.leads new c.in_ok-msg.msg e c.requires.from (sym c.was_sent_last.ensures ∙ c.if-not-was_sent_last.false) refl refl c.in_ok-put.ensures refl c.in_ok-msg.ensures h) c.one.ensures
