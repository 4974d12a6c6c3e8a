use Rattle.iss_request.proofs.Readings.{exit, read_done, read_then, unread_first, unread_then}
use Rattle.std.proofs.Common.{◌∙◌}
use Rattle.iss_request.specs.Formats.{parse_value}
use Rattle.iss_sb.proofs.Read.{read-by, unread-by}
use Rattle.pbft_wire.specs.Messages.{parse_pre_prepare}
use Rattle.pbft_wire.proofs.reading.read_pre_prepare.Goals as goal

pub returns-in_err-view-clause-bad : goal.returns-in_err-view-clause-bad
unfolding parse_pre_prepare
returns-in_err-view-clause-bad c =
    exit c.from_residual.result _ _ c.from_residual.ensures.1 (λ at e.
    unread_first _ _ (c.in_err-view.ensures.bad at e))

pub returns-in_err-slot-clause-bad : goal.returns-in_err-slot-clause-bad
unfolding parse_pre_prepare
returns-in_err-slot-clause-bad c =
    exit c.from_residual-in_err-slot.result _ _ c.from_residual-in_err-slot.ensures.1 (λ at e.
    unread_then _ _ c.in_ok-view.ensures.ok
    (unread_first _ _ (c.in_err-slot.ensures.bad at e)))

pub returns-in_err-value-clause-bad : goal.returns-in_err-value-clause-bad
unfolding parse_pre_prepare
returns-in_err-value-clause-bad c =
    exit c.from_residual-in_err-value.result _ _ c.from_residual-in_err-value.ensures.1 (λ at e.
    unread_then _ _ c.in_ok-view.ensures.ok
    (unread_then _ _ c.in_ok-slot.ensures.ok
    (unread_first _ _ (unread-by (parse_value) (c.in_ok-slot.ensures.ok.version ∙ c.in_ok-view.ensures.ok.version) (c.in_err-value.ensures.bad at e)))))

pub returns-in_err-sig-clause-bad : goal.returns-in_err-sig-clause-bad
unfolding parse_pre_prepare
returns-in_err-sig-clause-bad c =
    exit c.from_residual-in_err-sig.result _ _ c.from_residual-in_err-sig.ensures.1 (λ at e.
    unread_then _ _ c.in_ok-view.ensures.ok
    (unread_then _ _ c.in_ok-slot.ensures.ok
    (unread_then _ _ (read-by (parse_value) (c.in_ok-slot.ensures.ok.version ∙ c.in_ok-view.ensures.ok.version) c.in_ok-value.ensures.ok)
    (unread_first _ _ (c.in_err-sig.ensures.bad at e)))))

pub returns-clause-ok : goal.returns-clause-ok
unfolding parse_pre_prepare
returns-clause-ok c =
    read_then _ _ c.in_ok-view.ensures.ok
    (read_then _ _ c.in_ok-slot.ensures.ok
    (read_then _ _ (read-by (parse_value) (c.in_ok-slot.ensures.ok.version ∙ c.in_ok-view.ensures.ok.version) c.in_ok-value.ensures.ok)
    (read_then _ _ c.in_ok-sig.ensures.ok
    (read_done _ _))))
