use Rattle.std.proofs.Common.{arith, refl}
use Rattle.std.proofs.lemmas.Result.{IfOk-weaker}
use Rattle.iss_request.proofs.Readings.{exit, named}
use Rattle.iss_sb.proofs.Fields.{kind-read, kind-unread, number-unread, other-unread}
use Rattle.iss_sb.proofs.Read.{read-by, unread-by}
use Rattle.raft_wire.specs.Messages.{fields_of, is_known, parse, parse_append}
use Rattle.raft_wire.proofs.Reading.{not-known}
use Rattle.raft_wire.proofs.wire.read.Goals as goal

pub returns-in_err-number-clause-bad : goal.returns-in_err-number-clause-bad
unfolding parse
returns-in_err-number-clause-bad c =
    exit c.from_residual.result _ _ c.from_residual.ensures.1 (λ at e. number-unread is_known (fields_of c.args.f.now.version) (c.in_err-number.ensures.bad at e))

pub returns-in-1-clause-ok : goal.returns-in-1-clause-ok
unfolding parse
returns-in-1-clause-ok c =
    IfOk-weaker c.read_append.result _ _ (λ m h. kind-read is_known (fields_of c.args.f.now.version) _ 1 m c.in-1.is refl c.in_ok-number.ensures.ok (read-by parse_append c.in_ok-number.ensures.ok.version h)) c.read_append.ensures.ok

pub returns-in-1-clause-bad : goal.returns-in-1-clause-bad
unfolding parse
returns-in-1-clause-bad c at e = kind-unread is_known (fields_of c.args.f.now.version) _ 1 c.in-1.is refl c.in_ok-number.ensures.ok (unread-by parse_append c.in_ok-number.ensures.ok.version (c.read_append.ensures.bad at e))

pub returns-in-2-clause-ok : goal.returns-in-2-clause-ok
unfolding parse
returns-in-2-clause-ok c =
    IfOk-weaker c.read_reply.result _ _ (λ m h. kind-read is_known (fields_of c.args.f.now.version) _ 2 m c.in-2.is refl c.in_ok-number.ensures.ok h) c.read_reply.ensures.ok

pub returns-in-2-clause-bad : goal.returns-in-2-clause-bad
unfolding parse
returns-in-2-clause-bad c at e = kind-unread is_known (fields_of c.args.f.now.version) _ 2 c.in-2.is refl c.in_ok-number.ensures.ok (c.read_reply.ensures.bad at e)

pub returns-in-3-clause-ok : goal.returns-in-3-clause-ok
unfolding parse
returns-in-3-clause-ok c =
    IfOk-weaker c.read_ask.result _ _ (λ m h. kind-read is_known (fields_of c.args.f.now.version) _ 3 m c.in-3.is refl c.in_ok-number.ensures.ok h) c.read_ask.ensures.ok

pub returns-in-3-clause-bad : goal.returns-in-3-clause-bad
unfolding parse
returns-in-3-clause-bad c at e = kind-unread is_known (fields_of c.args.f.now.version) _ 3 c.in-3.is refl c.in_ok-number.ensures.ok (c.read_ask.ensures.bad at e)

pub returns-in-4-clause-ok : goal.returns-in-4-clause-ok
unfolding parse
returns-in-4-clause-ok c =
    IfOk-weaker c.read_vote.result _ _ (λ m h. kind-read is_known (fields_of c.args.f.now.version) _ 4 m c.in-4.is refl c.in_ok-number.ensures.ok h) c.read_vote.ensures.ok

pub returns-in-4-clause-bad : goal.returns-in-4-clause-bad
unfolding parse
returns-in-4-clause-bad c at e = kind-unread is_known (fields_of c.args.f.now.version) _ 4 c.in-4.is refl c.in_ok-number.ensures.ok (c.read_vote.ensures.bad at e)

pub returns-in_default-clause-bad : goal.returns-in_default-clause-bad
unfolding parse
returns-in_default-clause-bad c at e =
    let n = c.in_ok-number.number in
    let other = not-known n (λ q. omega (arith, q)) (λ q. omega (arith, q)) (λ q. omega (arith, q)) (λ q. omega (arith, q)) in
    named (parse c.args.f.now.version) c.args.f.now _ _ at (other-unread is_known (fields_of c.args.f.now.version) n other c.in_ok-number.ensures.ok) c.bad_field-no_message.ensures e
