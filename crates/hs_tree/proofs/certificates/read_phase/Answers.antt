use Rattle.std.proofs.Common.{sym}
use Rattle.iss_request.specs.Parsing.{byte, such_that}
use Rattle.iss_request.proofs.Readings.{exit, named, read_passed, unread_failed, unread_tested}
use Rattle.hs_tree.specs.Certificates.{is_phase}
use Rattle.hs_tree.proofs.certificates.read_phase.Goals as goal

pub returns-in_err-phase-clause-bad : goal.returns-in_err-phase-clause-bad
returns-in_err-phase-clause-bad c = exit c.from_residual.result _ _ c.from_residual.ensures.1 (λ at e. unread_tested (is_phase c.args.phases) byte (c.in_err-phase.ensures.bad at e))

pub returns-then-not-is_phase-clause-bad : goal.returns-then-not-is_phase-clause-bad
returns-then-not-is_phase-clause-bad c at e =
    named (such_that (is_phase c.args.phases) byte) c.args.f.now _ _ at (unread_failed (is_phase c.args.phases) byte c.in_ok-phase.ensures.ok (sym c.if-not-is_phase.ensures)) c.bad_field-no_phase.ensures e

pub returns-clause-ok : goal.returns-clause-ok
returns-clause-ok c = read_passed (is_phase c.args.phases) byte c.in_ok-phase.ensures.ok (sym c.if-not-is_phase.ensures)
