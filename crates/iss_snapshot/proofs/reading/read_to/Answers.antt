use Rattle.std.proofs.lemmas.Bool.{le-ltb, lt-ltb}
use Rattle.iss_request.proofs.Readings.{exit, named, read_passed, unread_failed, unread_tested}
use Rattle.iss_snapshot.specs.Snapshots.{parse_to}
use Rattle.iss_snapshot.proofs.reading.read_to.Goals as goal

pub returns-in_err-to-clause-bad : goal.returns-in_err-to-clause-bad
unfolding parse_to
returns-in_err-to-clause-bad c =
    exit c.from_residual.result _ _ c.from_residual.ensures.1 (λ at e. unread_tested _ _ (c.in_err-to.ensures.bad at e))

pub returns-then-to-from-clause-bad : goal.returns-then-to-from-clause-bad
unfolding parse_to
returns-then-to-from-clause-bad c at e =
    named (parse_to c.args.from) c.args.f.now _ _ at (unread_failed _ _ c.in_ok-to.ensures.ok (le-ltb _ _ c.if-to-from.true)) c.bad_field-no_epoch.ensures e

pub returns-clause-ok : goal.returns-clause-ok
unfolding parse_to
returns-clause-ok c = read_passed _ _ c.in_ok-to.ensures.ok (lt-ltb _ _ c.if-to-from.false)
