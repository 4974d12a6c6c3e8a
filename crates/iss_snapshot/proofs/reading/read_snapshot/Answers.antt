use Rattle.iss_request.proofs.Readings.{exit, read_then, unread_first, unread_then}
use Rattle.iss_snapshot.specs.Snapshots.{parse_snapshot}
use Rattle.iss_snapshot.proofs.EqualEpochs.{read-equal, unread-equal}
use Rattle.iss_snapshot.proofs.reading.read_snapshot.Goals as goal

pub returns-in_err-span-clause-bad : goal.returns-in_err-span-clause-bad
unfolding parse_snapshot
returns-in_err-span-clause-bad c = λ log. exit c.from_residual.result _ _ c.from_residual.ensures.1 (λ at e. unread_first _ _ (c.in_err-span.ensures.bad at e))

pub returns-in_err-epochs-clause-bad : goal.returns-in_err-epochs-clause-bad
unfolding parse_snapshot
returns-in_err-epochs-clause-bad c = λ log.
    exit c.from_residual-in_err-epochs.result _ _ c.from_residual-in_err-epochs.ensures.1 (λ at e.
    unread_then _ _ c.in_ok-span.ensures.ok
    (unread_first _ _ (unread-equal c.in_ok-span.ensures.ok.version c.length_of-count.ensures c.args.slots _ log (c.in_err-epochs.ensures.bad at e))))

pub returns-in_err-snapshot-clause-bad : goal.returns-in_err-snapshot-clause-bad
unfolding parse_snapshot
returns-in_err-snapshot-clause-bad c = λ log.
    exit c.from_residual-in_err-snapshot.result _ _ c.from_residual-in_err-snapshot.ensures.1 (λ at e.
    unread_then _ _ c.in_ok-span.ensures.ok
    (unread_then _ _ (read-equal c.in_ok-span.ensures.ok.version c.length_of-count.ensures c.args.slots _ log c.in_ok-epochs.ensures.ok)
    (c.in_err-snapshot.ensures.bad at e)))

pub returns-clause-ok : goal.returns-clause-ok
unfolding parse_snapshot
returns-clause-ok c = λ log.
    read_then _ _ c.in_ok-span.ensures.ok
    (read_then _ _ (read-equal c.in_ok-span.ensures.ok.version c.length_of-count.ensures c.args.slots _ log c.in_ok-epochs.ensures.ok)
    c.in_ok-snapshot.ensures.ok)
