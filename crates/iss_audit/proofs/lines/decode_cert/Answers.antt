use Rattle.iss_request.proofs.Readings.{exit, unread_whole, unread_end, read_whole}
use Rattle.iss_checkpoint.specs.Certificates.{parse_cert}
use Rattle.iss_audit.proofs.lines.decode_cert.Goals as goal

pub returns-in_err-cert-clause-bad : goal.returns-in_err-cert-clause-bad
returns-in_err-cert-clause-bad c =
    exit c.from_residual.result _ _ c.from_residual.ensures.1 (λ at e.
    unread_whole (λ v. parse_cert c.args.epoch.0) 1 c.args.bytes.now c.over-f.result at c.over-f.ensures (c.in_err-cert.ensures.bad at e))

pub returns-then-not-is_done-clause-bad : goal.returns-then-not-is_done-clause-bad
returns-then-not-is_done-clause-bad c at e =
    unread_end (λ v. parse_cert c.args.epoch.0) 1 c.args.bytes.now c.over-f.result _ _ _ at c.over-f.ensures c.in_ok-cert.ensures.ok c.if-not-is_done.ensures c.bad_field.ensures e

pub returns-clause-ok : goal.returns-clause-ok
returns-clause-ok c = read_whole (λ v. parse_cert c.args.epoch.0) 1 c.args.bytes.now c.over-f.result _ _ c.over-f.ensures c.in_ok-cert.ensures.ok c.if-not-is_done.ensures
