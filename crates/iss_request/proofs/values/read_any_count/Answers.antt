use Rattle.std.proofs.Common.{ap, ◌∙◌}
use Rattle.iss_request.specs.Formats.{is_second}
use Rattle.iss_request.proofs.Readings.{exit}
use Rattle.iss_request.proofs.FormatLemmas.{first_field, second_field}
use Rattle.iss_request.proofs.values.read_any_count.Goals as goal

pub returns-then-is_second-clause-ok : goal.returns-then-is_second-clause-ok
returns-then-is_second-clause-ok c =
    rw (second_field c.args.f.now.version (c.if-is_second.ensures ∙ ap is_second c.version.ensures))
    c.read_u16.ensures.ok

pub returns-then-is_second-clause-bad : goal.returns-then-is_second-clause-bad
returns-then-is_second-clause-bad c =
    rw (second_field c.args.f.now.version (c.if-is_second.ensures ∙ ap is_second c.version.ensures))
    c.read_u16.ensures.bad

pub returns-in_err-count-clause-bad : goal.returns-in_err-count-clause-bad
returns-in_err-count-clause-bad c =
    rw (first_field c.args.f.now.version (c.if-is_second.ensures ∙ ap is_second c.version.ensures))
    (exit c.from_residual.result _ _ c.from_residual.ensures.1 (λ at e. c.in_err-count.ensures.bad at e))

pub returns-clause-ok : goal.returns-clause-ok
returns-clause-ok c =
    rw (first_field c.args.f.now.version (c.if-is_second.ensures ∙ ap is_second c.version.ensures))
    c.in_ok-count.ensures.ok
