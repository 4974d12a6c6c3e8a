use Rattle.std.proofs.Common.{◌<◌, ◌^◌, ◌+◌, ◌∙◌, ℕ, length, refl, subst, sym, w64, arith}
use Rattle.std.proofs.Math.Facts.{Fits-of_lt}
use Rattle.sb_raft.proofs.Refinement.LogCountersAgree.{IsRun, run-all, run-next, run-start, run-stop}
use Rattle.sb_raft.proofs.log.Log.same.Goals as goal

pub overflow_add-index : goal.overflow_add-index
overflow_add-index c =
    let within = c.loop-at.invariant.within in
    let long = c.len-long.ensures.value in
    let fits = c.len-long.type_inv in
    let lt : c.args.index + c.loop-at.at < 2 ^ 64 = omega (arith, within, long, fits) in
    Fits-of_lt {w = w64} lt

pub loop-at-init : goal.loop-at-init
loop-at-init c = run-start c.args.self.now.entries c.args.entries.now c.args.index c.requires

pub loop-at-preserved : goal.loop-at-preserved
loop-at-preserved c =
    run-next c.args.self.now.entries c.args.entries.now c.args.index c.loop-at.at c.index-entries-at.result c.loop-at-test.true (sym c.has_term.ensures ∙ c.if-not-has_term.false) c.loop-at.invariant

pub returns-then-not-has_term : goal.returns-then-not-has_term
returns-then-not-has_term c =
    run-stop c.args.self.now.entries c.args.entries.now c.args.index c.loop-at.at c.index-entries-at.result c.loop-at-test.true (sym c.has_term.ensures ∙ c.if-not-has_term.true) c.loop-at.invariant

pub returns : goal.returns
returns c = run-all c.args.self.now.entries c.args.entries.now c.args.index (length c.args.entries.now) refl (
    let end = c.loop-at-test.false in let most = c.loop-at.auto.at-end in
    subst (λ (n : ℕ). IsRun c.args.self.now.entries c.args.entries.now c.args.index n) (omega (arith, end, most)) c.loop-at.invariant)
