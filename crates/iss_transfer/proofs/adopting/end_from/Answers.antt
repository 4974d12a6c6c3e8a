use Rattle.std.proofs.Common.{arith}
use Rattle.iss_log.proofs.ChainLemmas.{end-next}
use Rattle.iss_transfer.proofs.AdoptionLemmas.{strings-next, take-next}
use Rattle.iss_transfer.proofs.adopting.end_from.Goals as goal

pub loop-value-preserved : goal.loop-value-preserved
loop-value-preserved c =
    let xs = c.args.values.now in
    let more = take-next xs c.loop-value.value-index c.value-item.result (omega (arith, c.loop-value-test.true)) c.value-item.is in (
      end-next c.args.version c.args.start c.loop-value.end c.in_ok-end.end _ _ c.value-item.result c.loop-value.invariant.0 c.in_ok-end.ensures.end more,
      strings-next c.args.version c.args.start c.loop-value.end _ _ c.value-item.result c.args.hashed.now c.loop-value.hashed _ c.loop-value.invariant.0 c.loop-value.invariant.1 c.in_ok-end.ensures.hashed more,
    )
