use Rattle.std.proofs.Common.{◌≡◌, ◌+◌, suc, take, Some, sym, ap, arith}
use Rattle.std.specs.Prelude.{slice_get}
use Rattle.iss_request.specs.Log.{requests}
use Rattle.iss_reply.proofs.RequestLemmas.{get-read, number-more}
use Rattle.iss_reply.proofs.repliers.seek.Goals as goal

pub run-preserved : goal.run-preserved
run-preserved c =
    let there : slice_get c.args.entries.now c.run.at.slot ≡ Some c.index-entries-at.result = get-read c.args.entries.now c.run.at.slot c.index-entries-at.result c.run-test.true (sym c.index-entries-at.is) in
    let more = number-more c.args.entries.now c.run.at.slot c.index-entries-at.result there in
    let e : c.run.at.slot + 1 ≡ suc c.run.at.slot = omega arith in
    let same = ap (λ k. requests (take k c.args.entries.now)) e in
    let size = c.size_of-size.ensures in
    (omega arith, omega (arith, more, same, size, c.run.invariant.1, c.if-at-size.false))
