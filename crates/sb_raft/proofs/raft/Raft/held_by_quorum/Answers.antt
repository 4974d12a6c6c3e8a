use Rattle.std.proofs.Common.{◌≡◌, ◌≤◌, ◌+◌, ℕ, arith, subst}
use Rattle.sb_raft.specs.Refines.{held}
use Rattle.sb_raft.proofs.CommitIndex.SearchFindsGreatest.{IsMostOf, most-of-all}
use Rattle.sb_raft.proofs.raft.Raft.held_by_quorum.Goals as goal

pub returns : goal.returns
returns c =
    let majority : c.args.context.now.p.now.setup.quorum ≡ c.args.context.now.p.now.setup.f + 1 = c.args.context.now.good.majority in
    let some : 1 ≤ c.args.context.now.p.now.setup.quorum = omega (arith, majority) in
    let end = c.loop-k-test.false in
    let most = c.loop-k.auto.k-end in
    let nodes = c.nodes-k-end.ensures in
    most-of-all c.args.context.now.p.now c.args.self.now.me.0 (held c.args.self.now) some c.loop-k.most
    (subst (λ (n : ℕ). IsMostOf c.args.context.now.p.now c.args.self.now.me.0 (held c.args.self.now) n c.loop-k.most) (omega (arith, end, most, nodes)) c.loop-k.invariant)
