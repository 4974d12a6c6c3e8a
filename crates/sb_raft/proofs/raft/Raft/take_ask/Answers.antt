use Rattle.std.proofs.Common.{Some, ◌∙◌, refl, sym}
use Rattle.std.proofs.lemmas.Result.{IfOk-weaker}
use Rattle.sb_raft.specs.declared.raft.Raft.{Raft}
use Rattle.sb_raft.proofs.Refinement.LeaderRulesRefine.{grant-done, refuse-done}
use Rattle.sb_raft.proofs.raft.Raft.take_ask.Goals as goal

pub returns-then-not-grants : goal.returns-then-not-grants
returns-then-not-grants c =
    IfOk-weaker c.one.result _ _ (λ e h. refuse-done c.args.context.now.p.now c.args.self.now c.args.from.0 c.args.term c.args.last c.args.last_term e c.requires (sym c.grants.ensures ∙ c.if-not-grants.true) h) c.one.ensures

pub returns : goal.returns
returns c =
    let m = c.args.self.now in
    let new : Raft = record m { vote = Some c.args.from.0 } in
    IfOk-weaker c.one-2.result _ _ (λ e h. grant-done c.args.context.now.p.now m new c.args.from.0 c.args.term c.args.last c.args.last_term e c.requires refl refl refl (sym c.grants.ensures ∙ c.if-not-grants.false) h) c.one-2.ensures
