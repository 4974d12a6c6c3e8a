use Rattle.std.proofs.lemmas.Bool.{le-leb, lt-leb}
use Rattle.iss_request.proofs.Readings.{exit, named, read_passed, unread_failed, unread_tested}
use Rattle.iss_packet.specs.Packets.{parse_size}
use Rattle.iss_packet.proofs.packets.read_size.Goals as goal

pub returns-in_err-size-clause-bad : goal.returns-in_err-size-clause-bad
unfolding parse_size
returns-in_err-size-clause-bad c =
    exit c.from_residual.result _ _ c.from_residual.ensures.1
    (λ at e. unread_tested _ _ (c.in_err-size.ensures.bad at e))

pub returns-then-size-gt-BODY_MAX-clause-bad : goal.returns-then-size-gt-BODY_MAX-clause-bad
unfolding parse_size
returns-then-size-gt-BODY_MAX-clause-bad c at e =
    named parse_size c.args.f.now _ _ at
    (unread_failed _ _ c.in_ok-size.ensures.ok (lt-leb _ _ c.if-size-gt-BODY_MAX.true))
    c.bad_field-too_long.ensures e

pub returns-clause-ok : goal.returns-clause-ok
unfolding parse_size
returns-clause-ok c = read_passed _ _ c.in_ok-size.ensures.ok (le-leb _ _ c.if-size-gt-BODY_MAX.false)
