use Rattle.iss_request.proofs.Readings.{exit, read_then, unread_first, unread_then}
use Rattle.iss_snapshot.specs.Snapshots.{parse_vote_entry}
use Rattle.iss_snapshot.proofs.reading.read_vote_entry.Goals as goal

pub returns-in_err-epoch-clause-bad : goal.returns-in_err-epoch-clause-bad
unfolding parse_vote_entry
returns-in_err-epoch-clause-bad c =
    exit c.from_residual.result _ _ c.from_residual.ensures.1 (λ at e.
    (unread_first _ _ (c.in_err-epoch.ensures.bad at e)))

pub returns-in_err-by-clause-bad : goal.returns-in_err-by-clause-bad
unfolding parse_vote_entry
returns-in_err-by-clause-bad c =
    exit c.from_residual-in_err-by.result _ _ c.from_residual-in_err-by.ensures.1 (λ at e.
    (unread_then _ _ c.in_ok-epoch.ensures.ok
    (unread_first _ _ (c.in_err-by.ensures.bad at e))))

pub returns-in_err-vote-clause-bad : goal.returns-in_err-vote-clause-bad
unfolding parse_vote_entry
returns-in_err-vote-clause-bad c =
    exit c.from_residual-in_err-vote.result _ _ c.from_residual-in_err-vote.ensures.1 (λ at e.
    (unread_then _ _ c.in_ok-epoch.ensures.ok
    (unread_then _ _ c.in_ok-by.ensures.ok
    (c.in_err-vote.ensures.bad at e))))

pub returns-clause-ok : goal.returns-clause-ok
unfolding parse_vote_entry
returns-clause-ok c =
    (read_then _ _ c.in_ok-epoch.ensures.ok
    (read_then _ _ c.in_ok-by.ensures.ok
    c.in_ok-vote.ensures.ok))
