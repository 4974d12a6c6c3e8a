use Rattle.std.proofs.Common.{eq-eqb}
use Rattle.std.proofs.lemmas.Bool.{ne_eqb}
use Rattle.iss_request.proofs.Readings.{exit, named, read_passed, unread_failed, unread_tested}
use Rattle.iss_snapshot.specs.Snapshots.{parse_kind}
use Rattle.iss_snapshot.proofs.reading.read_kind.Goals as goal

pub returns-in_err-kind-clause-bad : goal.returns-in_err-kind-clause-bad
unfolding parse_kind
returns-in_err-kind-clause-bad c =
    exit c.from_residual.result _ _ c.from_residual.ensures.1 (λ at e. unread_tested _ _ (c.in_err-kind.ensures.bad at e))

pub returns-then-kind-ne-KIND-clause-bad : goal.returns-then-kind-ne-KIND-clause-bad
unfolding parse_kind
returns-then-kind-ne-KIND-clause-bad c at e =
    named parse_kind c.args.f.now _ _ at (unread_failed _ _ c.in_ok-kind.ensures.ok (ne_eqb _ _ c.if-kind-ne-KIND.true)) c.bad_field-no_snapshot.ensures e

pub returns-clause-ok : goal.returns-clause-ok
unfolding parse_kind
returns-clause-ok c = read_passed _ _ c.in_ok-kind.ensures.ok (eq-eqb _ _ c.if-kind-ne-KIND.false)
