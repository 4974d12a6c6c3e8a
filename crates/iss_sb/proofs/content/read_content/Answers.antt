use Rattle.std.proofs.Common.{arith, refl}
use Rattle.iss_request.proofs.Readings.{exit, named, read_done, read_then, unread_first}
use Rattle.iss_request.specs.Formats.{is_batch, parse_value}
use Rattle.iss_request.specs.Parsing.{such_that}
use Rattle.iss_sb.specs.Content.{content_of, is_kind, parse_batch_content, parse_content}
use Rattle.iss_sb.proofs.Fields.{kind-read, kind-unread, number-unread, other-unread}
use Rattle.iss_sb.proofs.Read.{read-by, unread-by}
use Rattle.iss_sb.proofs.ContentFields.{no-kind}
use Rattle.iss_sb.proofs.content.read_content.Goals as goal

pub returns-in_err-kind-clause-bad : goal.returns-in_err-kind-clause-bad
unfolding parse_content
returns-in_err-kind-clause-bad c = exit c.from_residual.result _ _ c.from_residual.ensures.1 (λ at e. number-unread is_kind (content_of c.args.f.now.version) (c.in_err-kind.ensures.bad at e))

pub returns-in_err-batch-in-1-clause-bad : goal.returns-in_err-batch-in-1-clause-bad
unfolding parse_content parse_batch_content
returns-in_err-batch-in-1-clause-bad c =
    exit c.from_residual-in_err-batch-in-1.result _ _ c.from_residual-in_err-batch-in-1.ensures.1 (λ at e.
    kind-unread is_kind (content_of c.args.f.now.version) _ 1 c.in-1.is refl c.in_ok-kind.ensures.ok
    (unread_first _ _ (unread-by (λ n. such_that is_batch (parse_value n)) c.in_ok-kind.ensures.ok.version (c.in_err-batch-in-1.ensures.bad at e))))

pub returns-in-0-clause-ok : goal.returns-in-0-clause-ok
unfolding parse_content
returns-in-0-clause-ok c = kind-read is_kind (content_of c.args.f.now.version) _ 0 _ c.in-0.is refl c.in_ok-kind.ensures.ok (read_done _ _)

pub returns-in_ok-batch-in-1-clause-ok : goal.returns-in_ok-batch-in-1-clause-ok
unfolding parse_content parse_batch_content
returns-in_ok-batch-in-1-clause-ok c =
    kind-read is_kind (content_of c.args.f.now.version) _ 1 _ c.in-1.is refl c.in_ok-kind.ensures.ok
    (read_then _ _ (read-by (λ n. such_that is_batch (parse_value n)) c.in_ok-kind.ensures.ok.version c.in_ok-batch-in-1.ensures.ok) (read_done _ _))

pub returns-in-2-clause-ok : goal.returns-in-2-clause-ok
unfolding parse_content
returns-in-2-clause-ok c = kind-read is_kind (content_of c.args.f.now.version) _ 2 _ c.in-2.is refl c.in_ok-kind.ensures.ok (read_done _ _)

pub returns-in_default-clause-bad : goal.returns-in_default-clause-bad
unfolding parse_content
returns-in_default-clause-bad c at e =
    let kind = c.in_ok-kind.kind in
    let none = no-kind kind (λ q. omega (arith, q)) (λ q. omega (arith, q)) (λ q. omega (arith, q)) in
    named (parse_content c.args.f.now.version) c.args.f.now _ _ at (other-unread is_kind (content_of c.args.f.now.version) kind none c.in_ok-kind.ensures.ok) c.bad_field-no_kind.ensures e
