use Rattle.std.proofs.Common.{ap, arith, sym}
use Rattle.std.proofs.lemmas.Result.{IfOk-weaker}
use Rattle.iss_request.proofs.Readings.{exit, named}
use Rattle.iss_sb.proofs.Read.{read-by, unread-by}
use Rattle.hs_tree.specs.declared.messages.Body.TheVariants.{PreCommit, Commit, Decide}
use Rattle.hs_tree.specs.Messages.{fields_of, parse_body, parse_new_view, parse_prepare, parse_shown, parse_vote}
use Rattle.hs_tree.proofs.Reading.{fields-read, fields-unread, number-unread, unknown-unread, vote-fields}
use Rattle.hs_tree.proofs.wire.read_body.Goals as goal

pub returns-in_err-number-clause-bad : goal.returns-in_err-number-clause-bad
returns-in_err-number-clause-bad c =
    exit c.from_residual.result _ _ c.from_residual.ensures.1 (λ at e. number-unread c.args.phases c.args.f.now.version (c.in_err-number.ensures.bad at e))

pub returns-then-not-is_message-clause-bad : goal.returns-then-not-is_message-clause-bad
returns-then-not-is_message-clause-bad c at e =
    named (parse_body c.args.phases c.args.f.now.version) c.args.f.now _ _ at (unknown-unread c.args.phases c.args.f.now.version _ (sym c.if-not-is_message.ensures) c.in_ok-number.ensures.ok) c.bad_field-no_message.ensures e

pub returns-in-1-clause-ok : goal.returns-in-1-clause-ok
returns-in-1-clause-ok c =
    let known = sym c.if-not-is_message.ensures in
    IfOk-weaker c.read_new_view.result _ _ (λ m h. fields-read c.args.phases c.args.f.now.version _ m (parse_new_view c.args.phases) (ap (fields_of c.args.phases c.args.f.now.version) c.in-1.is) known c.in_ok-number.ensures.ok h) c.read_new_view.ensures.ok

pub returns-in-1-clause-bad : goal.returns-in-1-clause-bad
returns-in-1-clause-bad c at e =
    let known = sym c.if-not-is_message.ensures in
    fields-unread c.args.phases c.args.f.now.version _ (parse_new_view c.args.phases) (ap (fields_of c.args.phases c.args.f.now.version) c.in-1.is) known c.in_ok-number.ensures.ok (c.read_new_view.ensures.bad at e)

pub returns-in-2-clause-ok : goal.returns-in-2-clause-ok
returns-in-2-clause-ok c =
    let known = sym c.if-not-is_message.ensures in
    IfOk-weaker c.read_prepare.result _ _ (λ m h. fields-read c.args.phases c.args.f.now.version _ m (parse_prepare c.args.phases c.args.f.now.version) (ap (fields_of c.args.phases c.args.f.now.version) c.in-2.is) known c.in_ok-number.ensures.ok
    (read-by (parse_prepare c.args.phases) c.in_ok-number.ensures.ok.version h)) c.read_prepare.ensures.ok

pub returns-in-2-clause-bad : goal.returns-in-2-clause-bad
returns-in-2-clause-bad c at e =
    let known = sym c.if-not-is_message.ensures in
    fields-unread c.args.phases c.args.f.now.version _ (parse_prepare c.args.phases c.args.f.now.version) (ap (fields_of c.args.phases c.args.f.now.version) c.in-2.is) known c.in_ok-number.ensures.ok
    (unread-by (parse_prepare c.args.phases) c.in_ok-number.ensures.ok.version (c.read_prepare.ensures.bad at e))

pub returns-in_ok-s-in-3-clause-ok : goal.returns-in_ok-s-in-3-clause-ok
returns-in_ok-s-in-3-clause-ok c =
    let known = sym c.if-not-is_message.ensures in
    fields-read c.args.phases c.args.f.now.version _ _ (parse_shown c.args.phases PreCommit) (ap (fields_of c.args.phases c.args.f.now.version) c.in-3.is) known c.in_ok-number.ensures.ok (c.in_ok-s-in-3.ensures.ok PreCommit)

pub returns-in_err-s-in-3-clause-bad : goal.returns-in_err-s-in-3-clause-bad
returns-in_err-s-in-3-clause-bad c =
    let known = sym c.if-not-is_message.ensures in
    exit c.from_residual-in_err-s-in-3.result _ _ c.from_residual-in_err-s-in-3.ensures.1 (λ at e.
    fields-unread c.args.phases c.args.f.now.version _ (parse_shown c.args.phases PreCommit) (ap (fields_of c.args.phases c.args.f.now.version) c.in-3.is) known c.in_ok-number.ensures.ok (c.in_err-s-in-3.ensures.bad PreCommit at e))

pub returns-in_ok-s-in-4-clause-ok : goal.returns-in_ok-s-in-4-clause-ok
returns-in_ok-s-in-4-clause-ok c =
    let known = sym c.if-not-is_message.ensures in
    fields-read c.args.phases c.args.f.now.version _ _ (parse_shown c.args.phases Commit) (ap (fields_of c.args.phases c.args.f.now.version) c.in-4.is) known c.in_ok-number.ensures.ok (c.in_ok-s-in-4.ensures.ok Commit)

pub returns-in_err-s-in-4-clause-bad : goal.returns-in_err-s-in-4-clause-bad
returns-in_err-s-in-4-clause-bad c =
    let known = sym c.if-not-is_message.ensures in
    exit c.from_residual-in_err-s-in-4.result _ _ c.from_residual-in_err-s-in-4.ensures.1 (λ at e.
    fields-unread c.args.phases c.args.f.now.version _ (parse_shown c.args.phases Commit) (ap (fields_of c.args.phases c.args.f.now.version) c.in-4.is) known c.in_ok-number.ensures.ok (c.in_err-s-in-4.ensures.bad Commit at e))

pub returns-in_ok-s-in-5-clause-ok : goal.returns-in_ok-s-in-5-clause-ok
returns-in_ok-s-in-5-clause-ok c =
    let known = sym c.if-not-is_message.ensures in
    fields-read c.args.phases c.args.f.now.version _ _ (parse_shown c.args.phases Decide) (ap (fields_of c.args.phases c.args.f.now.version) c.in-5.is) known c.in_ok-number.ensures.ok (c.in_ok-s-in-5.ensures.ok Decide)

pub returns-in_err-s-in-5-clause-bad : goal.returns-in_err-s-in-5-clause-bad
returns-in_err-s-in-5-clause-bad c =
    let known = sym c.if-not-is_message.ensures in
    exit c.from_residual-in_err-s-in-5.result _ _ c.from_residual-in_err-s-in-5.ensures.1 (λ at e.
    fields-unread c.args.phases c.args.f.now.version _ (parse_shown c.args.phases Decide) (ap (fields_of c.args.phases c.args.f.now.version) c.in-5.is) known c.in_ok-number.ensures.ok (c.in_err-s-in-5.ensures.bad Decide at e))

pub returns-in_default-clause-ok : goal.returns-in_default-clause-ok
returns-in_default-clause-ok c =
    let known = sym c.if-not-is_message.ensures in
    let last = vote-fields c.args.phases c.args.f.now.version c.in_ok-number.number (λ q. omega (arith, q)) (λ q. omega (arith, q)) (λ q. omega (arith, q)) (λ q. omega (arith, q)) (λ q. omega (arith, q)) in
    IfOk-weaker c.read_vote.result _ _ (λ m h. fields-read c.args.phases c.args.f.now.version _ m (parse_vote c.args.phases) last known c.in_ok-number.ensures.ok h) c.read_vote.ensures.ok

pub returns-in_default-clause-bad : goal.returns-in_default-clause-bad
returns-in_default-clause-bad c at e =
    let known = sym c.if-not-is_message.ensures in
    let last = vote-fields c.args.phases c.args.f.now.version c.in_ok-number.number (λ q. omega (arith, q)) (λ q. omega (arith, q)) (λ q. omega (arith, q)) (λ q. omega (arith, q)) (λ q. omega (arith, q)) in
    fields-unread c.args.phases c.args.f.now.version _ (parse_vote c.args.phases) last known c.in_ok-number.ensures.ok (c.read_vote.ensures.bad at e)
