use Rattle.iss_request.proofs.Readings.{exit, read_done, read_then, unread_first, unread_then}
use Rattle.pbft_wire.specs.Messages.{parse_at}
use Rattle.pbft_wire.proofs.reading.read_at.Goals as goal

pub returns-in_err-view-clause-bad : goal.returns-in_err-view-clause-bad
unfolding parse_at
returns-in_err-view-clause-bad c =
    exit c.from_residual.result _ _ c.from_residual.ensures.1 (λ at e make.
    unread_first _ _ (c.in_err-view.ensures.bad at e))

pub returns-in_err-slot-clause-bad : goal.returns-in_err-slot-clause-bad
unfolding parse_at
returns-in_err-slot-clause-bad c =
    exit c.from_residual-in_err-slot.result _ _ c.from_residual-in_err-slot.ensures.1 (λ at e make.
    unread_then _ _ c.in_ok-view.ensures.ok
    (unread_first _ _ (c.in_err-slot.ensures.bad at e)))

pub returns-in_err-digest-clause-bad : goal.returns-in_err-digest-clause-bad
unfolding parse_at
returns-in_err-digest-clause-bad c =
    exit c.from_residual-in_err-digest.result _ _ c.from_residual-in_err-digest.ensures.1 (λ at e make.
    unread_then _ _ c.in_ok-view.ensures.ok
    (unread_then _ _ c.in_ok-slot.ensures.ok
    (unread_first _ _ (c.in_err-digest.ensures.bad at e))))

pub returns-in_err-sig-clause-bad : goal.returns-in_err-sig-clause-bad
unfolding parse_at
returns-in_err-sig-clause-bad c =
    exit c.from_residual-in_err-sig.result _ _ c.from_residual-in_err-sig.ensures.1 (λ at e make.
    unread_then _ _ c.in_ok-view.ensures.ok
    (unread_then _ _ c.in_ok-slot.ensures.ok
    (unread_then _ _ c.in_ok-digest.ensures.ok
    (unread_first _ _ (c.in_err-sig.ensures.bad at e)))))

pub returns-clause-ok : goal.returns-clause-ok
unfolding parse_at
returns-clause-ok c make =
    read_then _ _ c.in_ok-view.ensures.ok
    (read_then _ _ c.in_ok-slot.ensures.ok
    (read_then _ _ c.in_ok-digest.ensures.ok
    (read_then _ _ c.in_ok-sig.ensures.ok
    (read_done _ _))))
