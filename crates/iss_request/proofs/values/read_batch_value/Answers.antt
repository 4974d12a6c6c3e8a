use Rattle.std.proofs.Common.{refl}
use Rattle.iss_request.specs.Formats.{is_batch, parse_value}
use Rattle.iss_request.specs.Parsing.{such_that}
use Rattle.iss_request.proofs.Readings.{exit, named, read_passed, unread_failed, unread_tested}
use Rattle.iss_request.proofs.values.read_batch_value.Goals as goal

pub returns-in_err-batch-clause-bad : goal.returns-in_err-batch-clause-bad
returns-in_err-batch-clause-bad c =
    exit c.from_residual.result _ _ c.from_residual.ensures.1
    (λ at e. unread_tested is_batch (parse_value c.args.f.now.version) (c.in_err-batch.ensures.bad at e))

pub returns-in-Batch-clause-ok : goal.returns-in-Batch-clause-ok
returns-in-Batch-clause-ok c =
    read_passed is_batch (parse_value c.args.f.now.version) (rw c.in-Batch.is at c.in_ok-batch.ensures.ok) refl

pub returns-in-Nil-clause-bad : goal.returns-in-Nil-clause-bad
returns-in-Nil-clause-bad c at e =
    named (such_that is_batch (parse_value c.args.f.now.version)) c.args.f.now _ _ at
    (unread_failed is_batch (parse_value c.args.f.now.version) (rw c.in-Nil.is at c.in_ok-batch.ensures.ok) refl)
    c.bad_field-no_batch.ensures e
