use Rattle.std.proofs.Common.{ap, ◌∙◌, arith}
use Rattle.std.proofs.lemmas.Bool.{le-leb, lt-leb}
use Rattle.iss_request.specs.Formats.{requests_most, parse_count}
use Rattle.iss_request.proofs.Readings.{exit, named, read_passed, unread_failed, unread_tested}
use Rattle.iss_request.proofs.values.read_count.Goals as goal

pub returns-in_err-count-clause-bad : goal.returns-in_err-count-clause-bad
unfolding parse_count
returns-in_err-count-clause-bad c =
    exit c.from_residual.result _ _ c.from_residual.ensures.1
    (λ at e. unread_tested _ _ (c.in_err-count.ensures.bad at e))

pub returns-then-count-most-clause-bad : goal.returns-then-count-most-clause-bad
unfolding parse_count
returns-then-count-most-clause-bad c at e =
    named (parse_count c.args.f.now.version) c.args.f.now _ _ at
    (unread_failed _ _ c.in_ok-count.ensures.ok
    (lt-leb _ _ (omega (arith, c.requests_most-most.ensures ∙ ap requests_most c.version.ensures))))
    c.bad_field-too_many.ensures e

pub returns-clause-ok : goal.returns-clause-ok
unfolding parse_count
returns-clause-ok c = read_passed _ _ c.in_ok-count.ensures.ok
    (le-leb _ _ (omega (arith, c.requests_most-most.ensures ∙ ap requests_most c.version.ensures)))
