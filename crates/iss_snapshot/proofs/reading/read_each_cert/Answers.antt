use Rattle.std.proofs.Common.{suc, ◌+◌, ◌-◌, arith}
use Rattle.iss_request.proofs.Readings.{continues_bad, continues_end, continues_next, continues_start, exit}
use Rattle.iss_snapshot.specs.Snapshots.{parse_cert_entry}
use Rattle.iss_snapshot.proofs.reading.read_each_cert.Goals as goal

pub returns-in_err-cert-clause-bad : goal.returns-in_err-cert-clause-bad
returns-in_err-cert-clause-bad c =
    exit c.from_residual.result _ _ c.from_residual.ensures.1 (λ at e.
    continues_bad parse_cert_entry c.args.count _ (c.args.count - suc c.loop.counter) _ _ _ at (omega arith) c.loop.invariant (c.in_err-cert.ensures.bad at e))

pub loop-init : goal.loop-init
loop-init c = continues_start parse_cert_entry c.args.count _ (c.args.count - 0) _ (omega arith) c.new-certs.ensures

pub loop-preserved : goal.loop-preserved
loop-preserved c =
    rw c.in_ok-push.ensures.ok
    (continues_next parse_cert_entry c.args.count _ (c.args.count - (c.loop.counter + 1)) (c.args.count - c.loop.counter) _ _ _ _ (omega arith) c.loop.invariant c.in_ok-cert.ensures.ok)

pub returns-clause-ok : goal.returns-clause-ok
returns-clause-ok c = continues_end parse_cert_entry c.args.count _ (c.args.count - c.loop.counter) _ _ (omega arith) c.loop.invariant
