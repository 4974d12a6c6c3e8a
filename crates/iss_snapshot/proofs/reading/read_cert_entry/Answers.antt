use Rattle.iss_request.proofs.Readings.{exit, read_then, unread_first, unread_then}
use Rattle.iss_snapshot.specs.Snapshots.{parse_cert_entry}
use Rattle.iss_snapshot.proofs.reading.read_cert_entry.Goals as goal

pub returns-in_err-epoch-clause-bad : goal.returns-in_err-epoch-clause-bad
unfolding parse_cert_entry
returns-in_err-epoch-clause-bad c =
    exit c.from_residual.result _ _ c.from_residual.ensures.1 (λ at e.
    (unread_first _ _ (c.in_err-epoch.ensures.bad at e)))

pub returns-in_err-cert-clause-bad : goal.returns-in_err-cert-clause-bad
unfolding parse_cert_entry
returns-in_err-cert-clause-bad c =
    exit c.from_residual-in_err-cert.result _ _ c.from_residual-in_err-cert.ensures.1 (λ at e.
    (unread_then _ _ c.in_ok-epoch.ensures.ok
    (c.in_err-cert.ensures.bad at e)))

pub returns-clause-ok : goal.returns-clause-ok
unfolding parse_cert_entry
returns-clause-ok c =
    (read_then _ _ c.in_ok-epoch.ensures.ok
    c.in_ok-cert.ensures.ok)
