use Rattle.std.proofs.Common.{◌&&◌, ◌==◌, [], ◌∙◌, refl, sym}
use Rattle.std.proofs.lemmas.Result.{IfOk-weaker}
use Rattle.sb_raft.specs.declared.raft.Raft.{Raft}
use Rattle.sb_raft.specs.Rules.{counted, is_candidate}
use Rattle.sb_raft.specs.Refines.{IsLow, held}
use Rattle.sb_raft.proofs.Refinement.FollowerRulesRefine.{idle}
use Rattle.sb_raft.proofs.Refinement.LeaderRulesRefine.{vote-done}
use Rattle.sb_raft.proofs.StateChanges.StepCases.{with_granted}
use Rattle.sb_raft.proofs.raft.Raft.take_vote.Goals as goal

pub returns-then-not-counts : goal.returns-then-not-counts
returns-then-not-counts c =
    let m = c.args.self.now in
    idle c.args.context.now.p.now (IsLow (held m)) m ((is_candidate (held m).role && c.args.granted) && (c.args.term == m.term)) (counted c.args.context.now.p.now m.me.0 (with_granted (held m) c.args.from.0) []) c.nothing.result
    (sym c.counts.ensures ∙ c.if-not-counts.true) c.nothing.ensures

pub returns : goal.returns
returns c =
    let m = c.args.self.now in
    let mid : Raft = record m { granted = c.put.new.self } in
    IfOk-weaker c.count_votes.result _ _ (λ e d. vote-done c.args.context.now.p.now m mid c.count_votes.new.self c.args.from.0 c.args.term c.args.granted c.new.result e (sym c.counts.ensures ∙ c.if-not-counts.false) d c.new.ensures refl refl
    c.in_ok-put.ensures refl) c.count_votes.ensures
