use Rattle.iss_request.specs.Formats.{parse_batch}
use Rattle.iss_request.proofs.Readings.{exit, read_then, unread_first, unread_then}
use Rattle.iss_request.proofs.values.read_batch.Goals as goal

pub returns-in_err-count-clause-bad : goal.returns-in_err-count-clause-bad
unfolding parse_batch
returns-in_err-count-clause-bad c =
    exit c.from_residual.result _ _ c.from_residual.ensures.1
    (λ at e. unread_first _ _ (c.in_err-count.ensures.bad at e))

pub returns-in_err-batch-clause-bad : goal.returns-in_err-batch-clause-bad
unfolding parse_batch
returns-in_err-batch-clause-bad c =
    exit c.from_residual-in_err-batch.result _ _ c.from_residual-in_err-batch.ensures.1 (λ at e.
    unread_then _ _ c.in_ok-count.ensures.ok (c.in_err-batch.ensures.bad at e))

pub returns-clause-ok : goal.returns-clause-ok
unfolding parse_batch
returns-clause-ok c = read_then _ _ c.in_ok-count.ensures.ok c.in_ok-batch.ensures.ok
