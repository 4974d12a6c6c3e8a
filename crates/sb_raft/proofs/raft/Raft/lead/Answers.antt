use Rattle.std.proofs.Common.{refl, arith}
use Rattle.std.proofs.lemmas.Result.{on_ok_weaker}
use Rattle.sb_raft.specs.declared.raft.Role.TheVariants.{Leader as Role_leader}
use Rattle.sb_raft.specs.declared.raft.Raft.{Raft}
use Rattle.sb_raft.proofs.Refinement.LeaderRulesRefine.{lead-state}
use Rattle.sb_raft.proofs.raft.Raft.lead.Goals as goal

pub returns-clause-state : goal.returns-clause-state
returns-clause-state c =
    let slots = c.len.ensures in
    let full = c.filled.ensures in
    let less = c.saturating_sub-missing.ensures in
    let long = c.len-2.ensures.value in
    let small = c.len-2.ensures.small in
    let next = c.saturating_add.ensures in
    let new : Raft = record c.args.self.now { part = Role_leader; log = c.push_nils.new.self; next = c.all.result; matched = c.all-2.result } in
    on_ok_weaker c.push_nils.result (λ q. lead-state c.args.context.now.p.now c.args.self.now new c.push.new.self c.saturating_sub-missing.result c.saturating_add.result refl (omega (arith, slots, full, less)) (omega (arith, long, small, next)) c.all.ensures c.all-2.ensures c.in_ok-push.ensures.log q) c.push_nils.ensures
