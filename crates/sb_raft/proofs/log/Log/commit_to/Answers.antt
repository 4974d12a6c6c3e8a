use Rattle.std.proofs.Common.{◌∙◌, refl, ap, sym, arith}
use Rattle.sb_raft.specs.Held.{LogState}
use Rattle.sb_raft.proofs.Refinement.CommittedEntryFillsSlot.{since-none, up-next}
use Rattle.sb_raft.proofs.log.Log.commit_to.Goals as goal

pub up-init : goal.up-init
up-init c = (refl, omega arith, omega arith, c.new-fresh.ensures ∙ sym (since-none c.args.self.now.entries c.args.slots.now c.args.self.now.commit))

pub up-preserved : goal.up-preserved
up-preserved c =
    let lt = c.up-test.true in
    let commit = ap (λ (v : LogState). v.commit) c.self.view_is in
    up-next c.args.self.now c.up.self c.pass.new.self c.args.index c.args.slots.now c.up.fresh c.pass.new.fresh c.requires (omega (arith, lt, commit)) c.up.invariant c.in_ok-pass.ensures.log c.in_ok-pass.ensures.fresh
