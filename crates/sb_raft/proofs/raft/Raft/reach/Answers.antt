use Rattle.std.proofs.Common.{sym, ◌∙◌}
use Rattle.sb_raft.specs.Refines.{held}
use Rattle.sb_raft.proofs.CommitIndex.SearchFindsGreatest.{reached-at, reached-none}
use Rattle.sb_raft.proofs.raft.Raft.reach.Goals as goal

pub returns-then-term_at-self : goal.returns-then-term_at-self
returns-then-term_at-self c =
    let above = c.down-test.true in
    let commit = c.commit-commit.ensures.value in
    reached-at c.args.context.now.p.now c.args.self.now.me.0 (held c.args.self.now) c.held_by_quorum-index.result c.commit-commit.result c.down.index c.held_by_quorum-index.ensures commit above (sym c.term_at.ensures ∙ c.if-term_at-self.true) c.down.invariant

pub returns : goal.returns
returns c =
    reached-none c.args.context.now.p.now c.args.self.now.me.0 (held c.args.self.now) c.held_by_quorum-index.result c.commit-commit.result c.down.index c.held_by_quorum-index.ensures c.commit-commit.ensures.value c.down-test.false c.down.invariant
