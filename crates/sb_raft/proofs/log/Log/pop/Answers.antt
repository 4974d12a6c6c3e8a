use Rattle.std.proofs.Common.{◌<◌, arith, ap, length}
use Rattle.sb_raft.proofs.Refinement.LogCountersAgree.{counted-pop, pop-less}
use Rattle.sb_raft.proofs.log.Log.pop.Goals as goal

pub overflow_sub-self : goal.overflow_sub-self
overflow_sub-self c = pop-less c.self.inside.entries.items _ c.in-Some.entry c.self.inside.filled c.self.inside.commit c.self.inside.passed _ c.fills.ensures c.in-Some.ensures.items c.self.invariant

pub invariant_of-self-2 : goal.invariant_of-self-2
invariant_of-self-2 c =
    let commit = ap (λ v. v.commit) c.self.view_is in
    let long = ap (λ v. length v.entries) c.self.view_is in
    let lt : c.self.inside.commit < length c.self.inside.entries.items = omega (arith, commit, long, c.requires) in
    counted-pop c.self.inside.entries.items _ c.in-Some.entry c.self.inside.filled c.self.inside.commit c.self.inside.passed _ c.fills.ensures c.in-Some.ensures.items lt c.self.invariant
