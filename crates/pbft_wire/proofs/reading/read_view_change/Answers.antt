use Rattle.iss_request.proofs.Readings.{exit, read_done, read_then, unread_first}
use Rattle.pbft_wire.specs.Messages.{parse_view_change}
use Rattle.pbft_wire.proofs.reading.read_view_change.Goals as goal

pub returns-in_err-change-clause-bad : goal.returns-in_err-change-clause-bad
unfolding parse_view_change
returns-in_err-change-clause-bad c =
    exit c.from_residual.result _ _ c.from_residual.ensures.1 (λ at e. unread_first _ _ (c.in_err-change.ensures.bad at e))

pub returns-clause-ok : goal.returns-clause-ok
unfolding parse_view_change
returns-clause-ok c = read_then _ _ c.in_ok-change.ensures.ok (read_done _ _)
