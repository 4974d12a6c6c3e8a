use Rattle.std.proofs.Common.{◌==◌, arith}
use Rattle.std.proofs.lemmas.Result.{IfOk-weaker}
use Rattle.iss_base.proofs.Lists.{eqb-other, neither}
use Rattle.iss_request.proofs.Readings.{exit, named}
use Rattle.iss_sb.proofs.Fields.{number-unread, other-unread}
use Rattle.iss_sb.proofs.Read.{read-by, unread-by}
use Rattle.sb_echo.specs.Echo.{parse, parse_say}
use Rattle.sb_echo.proofs.Reading.{after_message, echo-read-then, echo-unread-then, known, say-read-then, say-unread-then}
use Rattle.sb_echo.proofs.wire.read.Goals as goal

pub returns-in_err-number-clause-bad : goal.returns-in_err-number-clause-bad
unfolding parse
returns-in_err-number-clause-bad c =
    exit c.from_residual.result _ _ c.from_residual.ensures.1 (λ at e. number-unread known (after_message c.args.f.now.version) (c.in_err-number.ensures.bad at e))

pub returns-in-1-clause-ok : goal.returns-in-1-clause-ok
returns-in-1-clause-ok c =
    IfOk-weaker c.read_say.result _ _ (λ m h. say-read-then c.args.f.now.version _ m c.in-1.is c.in_ok-number.ensures.ok (read-by parse_say c.in_ok-number.ensures.ok.version h)) c.read_say.ensures.ok

pub returns-in-1-clause-bad : goal.returns-in-1-clause-bad
returns-in-1-clause-bad c at e = say-unread-then c.args.f.now.version _ c.in-1.is c.in_ok-number.ensures.ok (unread-by parse_say c.in_ok-number.ensures.ok.version (c.read_say.ensures.bad at e))

pub returns-in-2-clause-ok : goal.returns-in-2-clause-ok
returns-in-2-clause-ok c =
    IfOk-weaker c.read_echo.result _ _ (λ m h. echo-read-then c.args.f.now.version _ m c.in-2.is c.in_ok-number.ensures.ok h) c.read_echo.ensures.ok

pub returns-in-2-clause-bad : goal.returns-in-2-clause-bad
returns-in-2-clause-bad c at e = echo-unread-then c.args.f.now.version _ c.in-2.is c.in_ok-number.ensures.ok (c.read_echo.ensures.bad at e)

pub returns-in_default-clause-bad : goal.returns-in_default-clause-bad
unfolding parse
returns-in_default-clause-bad c at e =
    let n = c.in_ok-number.number in
    let other = neither (n == 1) (n == 2) (eqb-other n 1 (λ q. omega (arith, q))) (eqb-other n 2 (λ q. omega (arith, q))) in
    named (parse c.args.f.now.version) c.args.f.now _ _ at (other-unread known (after_message c.args.f.now.version) n other c.in_ok-number.ensures.ok) c.bad_field-no_message.ensures e
