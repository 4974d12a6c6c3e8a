use Rattle.std.proofs.Common.{refl, suc, ◌+◌, ◌-◌, arith}
use Rattle.iss_request.proofs.Readings.{exit}
use Rattle.iss_sb.specs.Signers.{parse_signed, signer_of}
use Rattle.iss_sb.proofs.Ascending.{climbs-bad, climbs-end, climbs-next, climbs-start}
use Rattle.iss_sb.proofs.signers.read_signers.Goals as goal

pub returns-in_err-signed-clause-bad : goal.returns-in_err-signed-clause-bad
returns-in_err-signed-clause-bad c =
    exit c.from_residual.result _ _ c.from_residual.ensures.1 (λ at e.
    climbs-bad parse_signed signer_of c.args.count _ (c.args.count - suc c.loop.counter) _ _ _ _ at (omega arith) c.loop.invariant.1 (c.in_err-signed.ensures.bad at e))

pub loop-init : goal.loop-init
loop-init c = (omega arith, climbs-start parse_signed signer_of c.args.count _ (c.args.count - 0) _ _ (omega arith) refl c.new-signers.ensures)

pub loop-preserved : goal.loop-preserved
loop-preserved c = (
  omega arith,
  rw c.in_ok-push.ensures.ok
      (climbs-next parse_signed signer_of c.args.count _ (c.args.count - (c.loop.counter + 1)) (c.args.count - c.loop.counter) _ _ _ _ _ _ (omega arith) (omega arith) c.loop.invariant.1 c.in_ok-signed.ensures.ok),
)

pub returns-clause-ok : goal.returns-clause-ok
returns-clause-ok c = climbs-end parse_signed signer_of c.args.count _ (c.args.count - c.loop.counter) _ _ _ (omega arith) c.loop.invariant.1
