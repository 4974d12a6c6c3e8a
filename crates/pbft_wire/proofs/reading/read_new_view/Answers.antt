use Rattle.iss_request.proofs.Readings.{exit, read_done, read_then, unread_first, unread_then}
use Rattle.std.proofs.Common.{◌∙◌}
use Rattle.iss_sb.proofs.Read.{read-by, unread-by}
use Rattle.pbft_wire.specs.Messages.{parse_changes, parse_new_view}
use Rattle.pbft_wire.proofs.reading.read_new_view.Goals as goal

pub returns-in_err-view-clause-bad : goal.returns-in_err-view-clause-bad
unfolding parse_new_view
returns-in_err-view-clause-bad c =
    exit c.from_residual.result _ _ c.from_residual.ensures.1 (λ at e.
    unread_first _ _ (c.in_err-view.ensures.bad at e))

pub returns-in_err-first-clause-bad : goal.returns-in_err-first-clause-bad
unfolding parse_new_view
returns-in_err-first-clause-bad c =
    exit c.from_residual-in_err-first.result _ _ c.from_residual-in_err-first.ensures.1 (λ at e.
    unread_then _ _ c.in_ok-view.ensures.ok
    (unread_first _ _ (c.in_err-first.ensures.bad at e)))

pub returns-in_err-changes-clause-bad : goal.returns-in_err-changes-clause-bad
unfolding parse_new_view
returns-in_err-changes-clause-bad c =
    exit c.from_residual-in_err-changes.result _ _ c.from_residual-in_err-changes.ensures.1 (λ at e.
    unread_then _ _ c.in_ok-view.ensures.ok
    (unread_then _ _ c.in_ok-first.ensures.ok
    (unread_first _ _ (unread-by (λ n. parse_changes n c.in_ok-first.first 0) (c.in_ok-first.ensures.ok.version ∙ c.in_ok-view.ensures.ok.version) (c.in_err-changes.ensures.bad at e)))))

pub returns-in_err-second-clause-bad : goal.returns-in_err-second-clause-bad
unfolding parse_new_view
returns-in_err-second-clause-bad c =
    exit c.from_residual-in_err-second.result _ _ c.from_residual-in_err-second.ensures.1 (λ at e.
    unread_then _ _ c.in_ok-view.ensures.ok
    (unread_then _ _ c.in_ok-first.ensures.ok
    (unread_then _ _ (read-by (λ n. parse_changes n c.in_ok-first.first 0) (c.in_ok-first.ensures.ok.version ∙ c.in_ok-view.ensures.ok.version) c.in_ok-changes.ensures.ok)
    (unread_first _ _ (c.in_err-second.ensures.bad at e)))))

pub returns-in_err-signatures-clause-bad : goal.returns-in_err-signatures-clause-bad
unfolding parse_new_view
returns-in_err-signatures-clause-bad c =
    exit c.from_residual-in_err-signatures.result _ _ c.from_residual-in_err-signatures.ensures.1 (λ at e.
    unread_then _ _ c.in_ok-view.ensures.ok
    (unread_then _ _ c.in_ok-first.ensures.ok
    (unread_then _ _ (read-by (λ n. parse_changes n c.in_ok-first.first 0) (c.in_ok-first.ensures.ok.version ∙ c.in_ok-view.ensures.ok.version) c.in_ok-changes.ensures.ok)
    (unread_then _ _ c.in_ok-second.ensures.ok
    (unread_first _ _ (c.in_err-signatures.ensures.bad at e))))))

pub returns-in_err-sig-clause-bad : goal.returns-in_err-sig-clause-bad
unfolding parse_new_view
returns-in_err-sig-clause-bad c =
    exit c.from_residual-in_err-sig.result _ _ c.from_residual-in_err-sig.ensures.1 (λ at e.
    unread_then _ _ c.in_ok-view.ensures.ok
    (unread_then _ _ c.in_ok-first.ensures.ok
    (unread_then _ _ (read-by (λ n. parse_changes n c.in_ok-first.first 0) (c.in_ok-first.ensures.ok.version ∙ c.in_ok-view.ensures.ok.version) c.in_ok-changes.ensures.ok)
    (unread_then _ _ c.in_ok-second.ensures.ok
    (unread_then _ _ c.in_ok-signatures.ensures.ok
    (unread_first _ _ (c.in_err-sig.ensures.bad at e)))))))

pub returns-clause-ok : goal.returns-clause-ok
unfolding parse_new_view
returns-clause-ok c =
    read_then _ _ c.in_ok-view.ensures.ok
    (read_then _ _ c.in_ok-first.ensures.ok
    (read_then _ _ (read-by (λ n. parse_changes n c.in_ok-first.first 0) (c.in_ok-first.ensures.ok.version ∙ c.in_ok-view.ensures.ok.version) c.in_ok-changes.ensures.ok)
    (read_then _ _ c.in_ok-second.ensures.ok
    (read_then _ _ c.in_ok-signatures.ensures.ok
    (read_then _ _ c.in_ok-sig.ensures.ok
    (read_done _ _))))))
