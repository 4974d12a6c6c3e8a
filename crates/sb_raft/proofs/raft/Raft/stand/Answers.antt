use Rattle.std.proofs.Common.{◌+◌, Some, refl}
use Rattle.std.proofs.lemmas.Result.{IfOk-weaker}
use Rattle.sb_raft.specs.declared.raft.Role.TheVariants.{Candidate as Role_candidate}
use Rattle.sb_raft.specs.declared.raft.Raft.{Raft}
use Rattle.sb_raft.specs.Kept.{kept}
use Rattle.sb_raft.proofs.Refinement.LeaderRulesRefine.{own-vote, stand-done}
use Rattle.sb_raft.proofs.raft.Raft.stand.Goals as goal

pub returns : goal.returns
returns c =
    let m = c.args.self.now in
    let mid : Raft = record m { term = m.term + 1; vote = Some m.me.0; part = Role_candidate; granted = c.put.new.self } in
    IfOk-weaker c.count_votes.result _ _ (λ e d. stand-done c.args.context.now.p.now m mid c.count_votes.new.self c.in_ok-sends.sends e d refl refl (own-vote m.me.0 (kept c.all.result) (kept c.put.new.self) c.all.ensures c.in_ok-put.ensures) refl
    c.in_ok-sends.ensures.asks) c.count_votes.ensures
