use Rattle.std.proofs.Common.{◌∙◌}
use Rattle.iss_request.proofs.Readings.{exit, named, read_done, read_passed, read_then, unread_failed, unread_first, unread_tested, unread_then}
use Rattle.iss_request.specs.Formats.{is_batch, parse_value}
use Rattle.iss_request.specs.Parsing.{such_that}
use Rattle.iss_sb.proofs.Read.{read-by, unread-by}
use Rattle.sb_relay.specs.Relay.{parse}
use Rattle.sb_relay.proofs.Spelling.{is-one, not-one}
use Rattle.sb_relay.proofs.say.Say.read.Goals as goal

pub returns-in_err-number-clause-bad : goal.returns-in_err-number-clause-bad
unfolding parse
returns-in_err-number-clause-bad c =
    exit c.from_residual.result _ _ c.from_residual.ensures.1 (λ at e.
    unread_first _ _ (unread_tested _ _ (c.in_err-number.ensures.bad at e)))

pub returns-then-number-ne-SAY-clause-bad : goal.returns-then-number-ne-SAY-clause-bad
unfolding parse
returns-then-number-ne-SAY-clause-bad c at e =
    named (parse c.args.f.now.version) c.args.f.now _ _ at
    (unread_first _ _ (unread_failed _ _ c.in_ok-number.ensures.ok (not-one _ c.if-number-ne-SAY.true)))
    c.bad_field-no_message.ensures e

pub returns-in_err-read_u64-clause-bad : goal.returns-in_err-read_u64-clause-bad
unfolding parse
returns-in_err-read_u64-clause-bad c =
    exit c.from_residual-in_err-read_u64.result _ _ c.from_residual-in_err-read_u64.ensures.1 (λ at e.
    unread_then _ _ (read_passed _ _ c.in_ok-number.ensures.ok (is-one _ c.if-number-ne-SAY.false))
    (unread_first _ _ (c.in_err-read_u64.ensures.bad at e)))

pub returns-in_err-batch-clause-bad : goal.returns-in_err-batch-clause-bad
unfolding parse
returns-in_err-batch-clause-bad c =
    exit c.from_residual-in_err-batch.result _ _ c.from_residual-in_err-batch.ensures.1 (λ at e.
    unread_then _ _ (read_passed _ _ c.in_ok-number.ensures.ok (is-one _ c.if-number-ne-SAY.false))
    (unread_then _ _ c.in_ok-read_u64.ensures.ok
    (unread_first _ _ (unread-by (λ n. such_that is_batch (parse_value n)) (c.in_ok-read_u64.ensures.ok.version ∙ c.in_ok-number.ensures.ok.version) (c.in_err-batch.ensures.bad at e)))))

pub returns-clause-ok : goal.returns-clause-ok
unfolding parse
returns-clause-ok c =
    read_then _ _ (read_passed _ _ c.in_ok-number.ensures.ok (is-one _ c.if-number-ne-SAY.false))
    (read_then _ _ c.in_ok-read_u64.ensures.ok
    (read_then _ _ (read-by (λ n. such_that is_batch (parse_value n)) (c.in_ok-read_u64.ensures.ok.version ∙ c.in_ok-number.ensures.ok.version) c.in_ok-batch.ensures.ok) (read_done _ _)))
