use Rattle.iss_request.proofs.Readings.{exit, read_then, unread_first, unread_then}
use Rattle.iss_snapshot.specs.Snapshots.{parse_counted}
use Rattle.iss_snapshot.proofs.reading.read_votes.Goals as goal

pub returns-in_err-count-clause-bad : goal.returns-in_err-count-clause-bad
unfolding parse_counted
returns-in_err-count-clause-bad c =
    exit c.from_residual.result _ _ c.from_residual.ensures.1 (λ at e.
    (unread_first _ _ (c.in_err-count.ensures.bad at e)))

pub returns-in_err-votes-clause-bad : goal.returns-in_err-votes-clause-bad
unfolding parse_counted
returns-in_err-votes-clause-bad c =
    exit c.from_residual-in_err-votes.result _ _ c.from_residual-in_err-votes.ensures.1 (λ at e.
    (unread_then _ _ c.in_ok-count.ensures.ok
    (c.in_err-votes.ensures.bad at e)))

pub returns-clause-ok : goal.returns-clause-ok
unfolding parse_counted
returns-clause-ok c =
    (read_then _ _ c.in_ok-count.ensures.ok
    c.in_ok-votes.ensures.ok)
