use Rattle.std.proofs.Common.{arith}
use Rattle.std.specs.Prelude.{nat_le}
use Rattle.std.proofs.lemmas.Bool.{le-leb, lt-leb}
use Rattle.iss_request.specs.Parsing.{byte}
use Rattle.iss_request.proofs.Readings.{exit, named, read_done, read_passed, read_then, unread_failed, unread_first, unread_tested, unread_then}
use Rattle.iss_sb.specs.Signers.{parse_signed}
use Rattle.iss_sb.proofs.signers.read_signed.Goals as goal

pub returns-in_err-by-clause-bad : goal.returns-in_err-by-clause-bad
unfolding parse_signed
returns-in_err-by-clause-bad c = exit c.from_residual.result _ _ c.from_residual.ensures.1 (λ at e. unread_first _ _ (unread_tested (λ n. nat_le c.args.from n) byte (c.in_err-by.ensures.bad at e)))

pub returns-then-by-from-clause-bad : goal.returns-then-by-from-clause-bad
unfolding parse_signed
returns-then-by-from-clause-bad c at e =
    named (parse_signed c.args.from) c.args.f.now _ _ at (unread_first _ _ (unread_failed (λ n. nat_le c.args.from n) byte c.in_ok-by.ensures.ok (lt-leb c.args.from c.in_ok-by.by (omega arith)))) c.bad_field-too_low.ensures e

pub returns-in_err-sig-clause-bad : goal.returns-in_err-sig-clause-bad
unfolding parse_signed
returns-in_err-sig-clause-bad c =
    exit c.from_residual-in_err-sig.result _ _ c.from_residual-in_err-sig.ensures.1 (λ at e.
    unread_then _ _ (read_passed (λ n. nat_le c.args.from n) byte c.in_ok-by.ensures.ok (le-leb c.args.from c.in_ok-by.by (omega arith)))
    (unread_first _ _ (c.in_err-sig.ensures.bad at e)))

pub returns-clause-ok : goal.returns-clause-ok
unfolding parse_signed
returns-clause-ok c =
    read_then _ _ (read_passed (λ n. nat_le c.args.from n) byte c.in_ok-by.ensures.ok (le-leb c.args.from c.in_ok-by.by (omega arith)))
    (read_then _ _ c.in_ok-sig.ensures.ok (read_done _ _))
