use Rattle.std.proofs.Common.{sym}
use Rattle.iss_request.specs.Formats.{parse_signature}
use Rattle.iss_request.proofs.Readings.{exit, named, read_then, unread_first, unread_then, read_done, read_counted, read_passed, unread_counted, unread_failed, unread_tested}
use Rattle.iss_request.proofs.OneSpelling.{signature_parts}
use Rattle.iss_request.proofs.Parts.{read_as_is}
use Rattle.iss_request.proofs.values.read_signature.Goals as goal

pub returns-in_err-height-clause-bad : goal.returns-in_err-height-clause-bad
unfolding parse_signature
returns-in_err-height-clause-bad c =
    exit c.from_residual.result _ _ c.from_residual.ensures.1 (λ at e.
    unread_first _ _ (unread_tested _ _ (c.in_err-height.ensures.bad at e)))

pub returns-then-not-is_height-clause-bad : goal.returns-then-not-is_height-clause-bad
unfolding parse_signature
returns-then-not-is_height-clause-bad c at e =
    named parse_signature c.args.f.now _ _ at
    (unread_first _ _ (unread_failed _ _ c.in_ok-height.ensures.ok (sym c.if-not-is_height.ensures)))
    c.bad_field-no_height.ensures e

pub returns-in_err-_leaf-clause-bad : goal.returns-in_err-_leaf-clause-bad
unfolding parse_signature
returns-in_err-_leaf-clause-bad c =
    exit c.from_residual-in_err-_leaf.result _ _ c.from_residual-in_err-_leaf.ensures.1 (λ at e.
    unread_then _ _ (read_passed _ _ c.in_ok-height.ensures.ok (sym c.if-not-is_height.ensures))
    (unread_first _ _ (c.in_err-_leaf.ensures.bad at e)))

pub returns-in_err-_digests-clause-bad : goal.returns-in_err-_digests-clause-bad
unfolding parse_signature
returns-in_err-_digests-clause-bad c =
    exit c.from_residual-in_err-_digests.result _ _ c.from_residual-in_err-_digests.ensures.1 (λ at e.
    unread_then _ _ (read_passed _ _ c.in_ok-height.ensures.ok (sym c.if-not-is_height.ensures))
    (unread_then _ _ c.in_ok-_leaf.ensures.ok (unread_first _ _
    (unread_counted c.digests_of_height.ensures.value (c.in_err-_digests.ensures.bad at e)))))

pub returns-clause-ok : goal.returns-clause-ok
unfolding parse_signature
returns-clause-ok c =
    read_as_is parse_signature
    (λ bytes rest sig found. (signature_parts bytes rest sig found).parts) _ c.at-first.result
    (read_then _ _ (read_passed _ _ c.in_ok-height.ensures.ok (sym c.if-not-is_height.ensures))
    (read_then _ _ c.in_ok-_leaf.ensures.ok
    (read_then _ _ (read_counted c.digests_of_height.ensures.value c.in_ok-_digests.ensures.ok) (read_done _ _))))
    c.in_ok-since.ensures c.at-first.ensures
