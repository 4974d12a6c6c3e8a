use Rattle.std.proofs.Common.{◌≡◌, ap, ◌∙◌}
use Rattle.iss_request.specs.Formats.{version_byte, is_first, parse_value}
use Rattle.iss_request.proofs.FormatLemmas.{nil_read, batch_read, batch_unread, other_first}
use Rattle.iss_request.proofs.Readings.{exit, named, unread_first, unread_failed, unread_tested}
use Rattle.iss_request.proofs.values.read_value.Goals as goal

pub returns-in_err-first-clause-bad : goal.returns-in_err-first-clause-bad
unfolding parse_value
returns-in_err-first-clause-bad c =
    exit c.from_residual.result _ _ c.from_residual.ensures.1
    (λ at e. unread_first _ _ (unread_tested _ _ (c.in_err-first.ensures.bad at e)))

pub returns-then-first-eq0-clause-ok : goal.returns-then-first-eq0-clause-ok
returns-then-first-eq0-clause-ok c = nil_read _ _ _ c.if-first-eq0.true c.in_ok-first.ensures.ok

pub returns-then-first-batch_byte-clause-bad : goal.returns-then-first-batch_byte-clause-bad
unfolding parse_value
returns-then-first-batch_byte-clause-bad c at e =
    let batch : c.version_byte-batch_byte.result ≡ version_byte c.args.f.now.version = c.version_byte-batch_byte.ensures
    ∙ ap version_byte c.version.ensures in
    let other = other_first c.args.f.now.version c.in_ok-first.first c.if-first-eq0.false
    (rw batch at c.if-first-batch_byte.true) in
    named (parse_value c.args.f.now.version) c.args.f.now _ _ at
    (unread_first _ _ (unread_failed (is_first c.args.f.now.version) _ c.in_ok-first.ensures.ok other))
    c.bad_field-no_value.ensures e

pub returns-in_err-batch-clause-bad : goal.returns-in_err-batch-clause-bad
returns-in_err-batch-clause-bad c =
    exit c.from_residual-in_err-batch.result _ _ c.from_residual-in_err-batch.ensures.1 (λ at e.
    batch_unread _ _ _ at (c.if-first-batch_byte.false ∙ c.version_byte-batch_byte.ensures
    ∙ ap version_byte c.version.ensures) c.in_ok-first.ensures.ok (c.in_err-batch.ensures.bad at e))

pub returns-clause-ok : goal.returns-clause-ok
returns-clause-ok c =
    batch_read _ _ _ _ _ (c.if-first-batch_byte.false ∙ c.version_byte-batch_byte.ensures
    ∙ ap version_byte c.version.ensures) c.in_ok-first.ensures.ok c.in_ok-batch.ensures.ok
