use Rattle.iss_request.specs.Formats.{is_batch, parse_value}
use Rattle.iss_request.specs.Parsing.{such_that}
use Rattle.iss_request.proofs.Readings.{exit, read_done, read_then, unread_first, unread_then}
use Rattle.iss_sb.proofs.Read.{read-by, unread-by}
use Rattle.sb_echo.specs.Echo.{parse_say}
use Rattle.sb_echo.proofs.wire.read_say.Goals as goal

pub returns-in_err-read_u64-clause-bad : goal.returns-in_err-read_u64-clause-bad
unfolding parse_say
returns-in_err-read_u64-clause-bad c =
    exit c.from_residual.result _ _ c.from_residual.ensures.1 (λ at e.
    unread_first _ _ (c.in_err-read_u64.ensures.bad at e))

pub returns-in_err-batch-clause-bad : goal.returns-in_err-batch-clause-bad
unfolding parse_say
returns-in_err-batch-clause-bad c =
    exit c.from_residual-in_err-batch.result _ _ c.from_residual-in_err-batch.ensures.1 (λ at e.
    unread_then _ _ c.in_ok-read_u64.ensures.ok
    (unread_first _ _ (unread-by (λ n. such_that is_batch (parse_value n)) c.in_ok-read_u64.ensures.ok.version (c.in_err-batch.ensures.bad at e))))

pub returns-in_err-sig-clause-bad : goal.returns-in_err-sig-clause-bad
unfolding parse_say
returns-in_err-sig-clause-bad c =
    exit c.from_residual-in_err-sig.result _ _ c.from_residual-in_err-sig.ensures.1 (λ at e.
    unread_then _ _ c.in_ok-read_u64.ensures.ok
    (unread_then _ _ (read-by (λ n. such_that is_batch (parse_value n)) c.in_ok-read_u64.ensures.ok.version c.in_ok-batch.ensures.ok)
    (unread_first _ _ (c.in_err-sig.ensures.bad at e))))

pub returns-clause-ok : goal.returns-clause-ok
unfolding parse_say
returns-clause-ok c =
    read_then _ _ c.in_ok-read_u64.ensures.ok
    (read_then _ _ (read-by (λ n. such_that is_batch (parse_value n)) c.in_ok-read_u64.ensures.ok.version c.in_ok-batch.ensures.ok)
    (read_then _ _ c.in_ok-sig.ensures.ok (read_done _ _)))
