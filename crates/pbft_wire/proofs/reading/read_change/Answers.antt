use Rattle.iss_request.proofs.Readings.{exit, read_done, read_then, unread_first, unread_then}
use Rattle.std.proofs.Common.{◌∙◌}
use Rattle.iss_sb.proofs.Read.{read-by, unread-by}
use Rattle.pbft_wire.specs.Certificates.{parse_certificates, parse_change}
use Rattle.pbft_wire.proofs.reading.read_change.Goals as goal

pub returns-in_err-view-clause-bad : goal.returns-in_err-view-clause-bad
unfolding parse_change
returns-in_err-view-clause-bad c =
    exit c.from_residual.result _ _ c.from_residual.ensures.1 (λ at e.
    unread_first _ _ (c.in_err-view.ensures.bad at e))

pub returns-in_err-many-clause-bad : goal.returns-in_err-many-clause-bad
unfolding parse_change
returns-in_err-many-clause-bad c =
    exit c.from_residual-in_err-many.result _ _ c.from_residual-in_err-many.ensures.1 (λ at e.
    unread_then _ _ c.in_ok-view.ensures.ok
    (unread_first _ _ (c.in_err-many.ensures.bad at e)))

pub returns-in_err-certificates-clause-bad : goal.returns-in_err-certificates-clause-bad
unfolding parse_change
returns-in_err-certificates-clause-bad c =
    exit c.from_residual-in_err-certificates.result _ _ c.from_residual-in_err-certificates.ensures.1 (λ at e.
    unread_then _ _ c.in_ok-view.ensures.ok
    (unread_then _ _ c.in_ok-many.ensures.ok
    (unread_first _ _ (unread-by (λ n. parse_certificates n c.in_ok-many.many 0) (c.in_ok-many.ensures.ok.version ∙ c.in_ok-view.ensures.ok.version) (c.in_err-certificates.ensures.bad at e)))))

pub returns-in_err-sig-clause-bad : goal.returns-in_err-sig-clause-bad
unfolding parse_change
returns-in_err-sig-clause-bad c =
    exit c.from_residual-in_err-sig.result _ _ c.from_residual-in_err-sig.ensures.1 (λ at e.
    unread_then _ _ c.in_ok-view.ensures.ok
    (unread_then _ _ c.in_ok-many.ensures.ok
    (unread_then _ _ (read-by (λ n. parse_certificates n c.in_ok-many.many 0) (c.in_ok-many.ensures.ok.version ∙ c.in_ok-view.ensures.ok.version) c.in_ok-certificates.ensures.ok)
    (unread_first _ _ (c.in_err-sig.ensures.bad at e)))))

pub returns-clause-ok : goal.returns-clause-ok
unfolding parse_change
returns-clause-ok c =
    read_then _ _ c.in_ok-view.ensures.ok
    (read_then _ _ c.in_ok-many.ensures.ok
    (read_then _ _ (read-by (λ n. parse_certificates n c.in_ok-many.many 0) (c.in_ok-many.ensures.ok.version ∙ c.in_ok-view.ensures.ok.version) c.in_ok-certificates.ensures.ok)
    (read_then _ _ c.in_ok-sig.ensures.ok
    (read_done _ _))))
