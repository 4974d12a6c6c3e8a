use Rattle.iss_request.proofs.Readings.{exit, read_done, read_then, unread_first, unread_then}
use Rattle.sb_echo.specs.Echo.{parse_echo}
use Rattle.sb_echo.proofs.wire.read_echo.Goals as goal

pub returns-in_err-read_u64-clause-bad : goal.returns-in_err-read_u64-clause-bad
unfolding parse_echo
returns-in_err-read_u64-clause-bad c =
    exit c.from_residual.result _ _ c.from_residual.ensures.1 (λ at e.
    unread_first _ _ (c.in_err-read_u64.ensures.bad at e))

pub returns-in_err-digest-clause-bad : goal.returns-in_err-digest-clause-bad
unfolding parse_echo
returns-in_err-digest-clause-bad c =
    exit c.from_residual-in_err-digest.result _ _ c.from_residual-in_err-digest.ensures.1 (λ at e.
    unread_then _ _ c.in_ok-read_u64.ensures.ok
    (unread_first _ _ (c.in_err-digest.ensures.bad at e)))

pub returns-in_err-sig-clause-bad : goal.returns-in_err-sig-clause-bad
unfolding parse_echo
returns-in_err-sig-clause-bad c =
    exit c.from_residual-in_err-sig.result _ _ c.from_residual-in_err-sig.ensures.1 (λ at e.
    unread_then _ _ c.in_ok-read_u64.ensures.ok
    (unread_then _ _ c.in_ok-digest.ensures.ok
    (unread_first _ _ (c.in_err-sig.ensures.bad at e))))

pub returns-clause-ok : goal.returns-clause-ok
unfolding parse_echo
returns-clause-ok c =
    read_then _ _ c.in_ok-read_u64.ensures.ok
    (read_then _ _ c.in_ok-digest.ensures.ok
    (read_then _ _ c.in_ok-sig.ensures.ok (read_done _ _)))
