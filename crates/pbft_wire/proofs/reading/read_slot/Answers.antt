use Rattle.std.proofs.Common.{sym}
use Rattle.std.specs.Prelude.{nat_le}
use Rattle.std.specs.Int.{w64}
use Rattle.iss_request.specs.Parsing.{number, such_that}
use Rattle.iss_request.proofs.Readings.{exit, named, read_passed, unread_failed, unread_tested}
use Rattle.pbft_wire.specs.Certificates.{after_slot}
use Rattle.pbft_wire.proofs.reading.read_slot.Goals as goal

pub returns-in_err-slot-clause-bad : goal.returns-in_err-slot-clause-bad
returns-in_err-slot-clause-bad c =
    exit c.from_residual.result _ _ c.from_residual.ensures.1 (λ at e. unread_tested (λ n. nat_le (after_slot c.args.last) n) (number w64) (c.in_err-slot.ensures.bad at e))

pub returns-then-not-slot_follows-clause-bad : goal.returns-then-not-slot_follows-clause-bad
returns-then-not-slot_follows-clause-bad c at e =
    named (such_that (λ n. nat_le (after_slot c.args.last) n) (number w64)) c.args.f.now _ _ at
    (unread_failed (λ n. nat_le (after_slot c.args.last) n) (number w64) c.in_ok-slot.ensures.ok (sym c.if-not-slot_follows.ensures)) c.bad_field-no_slot.ensures e

pub returns-clause-ok : goal.returns-clause-ok
returns-clause-ok c = read_passed (λ n. nat_le (after_slot c.args.last) n) (number w64) c.in_ok-slot.ensures.ok (sym c.if-not-slot_follows.ensures)
