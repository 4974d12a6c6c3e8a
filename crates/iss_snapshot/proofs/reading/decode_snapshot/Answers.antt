use Rattle.iss_request.proofs.Readings.{exit, read_whole, unread_end, unread_whole}
use Rattle.iss_snapshot.specs.Snapshots.{equal_epochs, parse_snapshot}
use Rattle.iss_snapshot.proofs.reading.decode_snapshot.Goals as goal

pub returns-in_err-snapshot-clause-bad : goal.returns-in_err-snapshot-clause-bad
returns-in_err-snapshot-clause-bad c = λ log.
    exit c.from_residual.result _ _ c.from_residual.ensures.1 (λ at e.
    unread_whole (λ v. parse_snapshot v (equal_epochs c.args.slots) log) c.args.version c.args.bytes.now c.over-f.result at c.over-f.ensures (c.in_err-snapshot.ensures.bad log at e))

pub returns-then-not-is_done-clause-bad : goal.returns-then-not-is_done-clause-bad
returns-then-not-is_done-clause-bad c = λ log at e.
    unread_end (λ v. parse_snapshot v (equal_epochs c.args.slots) log) c.args.version c.args.bytes.now c.over-f.result _ _ _ at c.over-f.ensures (c.in_ok-snapshot.ensures.ok log) c.if-not-is_done.ensures c.bad_field.ensures e

pub returns-clause-ok : goal.returns-clause-ok
returns-clause-ok c = λ log.
    read_whole (λ v. parse_snapshot v (equal_epochs c.args.slots) log) c.args.version c.args.bytes.now c.over-f.result _ _ c.over-f.ensures (c.in_ok-snapshot.ensures.ok log) c.if-not-is_done.ensures
