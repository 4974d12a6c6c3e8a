use Rattle.std.proofs.Common.{suc, ◌+◌, ◌-◌, arith}
use Rattle.iss_request.specs.Formats.{parse_signature}
use Rattle.iss_request.proofs.Readings.{exit, continues_start, continues_next, continues_bad, continues_end}
use Rattle.pbft_wire.proofs.reading.read_signatures.Goals as goal

pub returns-in_err-sig-clause-bad : goal.returns-in_err-sig-clause-bad
returns-in_err-sig-clause-bad c =
    exit c.from_residual.result _ _ c.from_residual.ensures.1 (λ at e.
    continues_bad parse_signature c.args.many _ (c.args.many - suc c.loop.counter) _ _ _ at (omega arith) c.loop.invariant (c.in_err-sig.ensures.bad at e))

pub loop-init : goal.loop-init
loop-init c = continues_start parse_signature c.args.many _ (c.args.many - 0) _ (omega arith) c.new-signatures.ensures

pub loop-preserved : goal.loop-preserved
loop-preserved c =
    rw c.in_ok-push.ensures.ok
    (continues_next parse_signature c.args.many _ (c.args.many - (c.loop.counter + 1)) (c.args.many - c.loop.counter) _ _ _ _ (omega arith) c.loop.invariant c.in_ok-sig.ensures.ok)

pub returns-clause-ok : goal.returns-clause-ok
returns-clause-ok c = continues_end parse_signature c.args.many _ (c.args.many - c.loop.counter) _ _ (omega arith) c.loop.invariant
