use Rattle.std.proofs.Common.{arith}
use Rattle.iss_request.specs.Formats.{parse_value}
use Rattle.iss_request.specs.Parsing.{times}
use Rattle.iss_request.proofs.Readings.{exit, read_done, read_then, unread_first, unread_then}
use Rattle.iss_sb.proofs.Read.{read-by, unread-by}
use Rattle.iss_sb.proofs.Fields.{count-read, count-unread}
use Rattle.iss_transfer.specs.Bodies.{parse_piece}
use Rattle.iss_transfer.proofs.bodies.read_piece.Goals as goal

pub returns-in_err-count-clause-bad : goal.returns-in_err-count-clause-bad
unfolding parse_piece
returns-in_err-count-clause-bad c = exit c.from_residual.result _ _ c.from_residual.ensures.1 (λ at e. unread_first _ _ (count-unread (c.in_err-count.ensures.bad at e)))

pub returns-in_err-values-clause-bad : goal.returns-in_err-values-clause-bad
unfolding parse_piece
returns-in_err-values-clause-bad c =
    exit c.from_residual-in_err-values.result _ _ c.from_residual-in_err-values.ensures.1 (λ at e.
    unread_then _ _ (count-read _ (omega arith) c.in_ok-count.ensures.ok)
    (unread_first _ _ (unread-by (λ n. times c.in_ok-count.count (parse_value n)) c.in_ok-count.ensures.ok.version (c.in_err-values.ensures.bad at e))))

pub returns-in_err-cert-clause-bad : goal.returns-in_err-cert-clause-bad
unfolding parse_piece
returns-in_err-cert-clause-bad c =
    exit c.from_residual-in_err-cert.result _ _ c.from_residual-in_err-cert.ensures.1 (λ at e.
    unread_then _ _ (count-read _ (omega arith) c.in_ok-count.ensures.ok)
    (unread_then _ _ (read-by (λ n. times c.in_ok-count.count (parse_value n)) c.in_ok-count.ensures.ok.version c.in_ok-values.ensures.ok)
    (unread_first _ _ (c.in_err-cert.ensures.bad at e))))

pub returns-clause-ok : goal.returns-clause-ok
unfolding parse_piece
returns-clause-ok c =
    read_then _ _ (count-read _ (omega arith) c.in_ok-count.ensures.ok)
    (read_then _ _ (read-by (λ n. times c.in_ok-count.count (parse_value n)) c.in_ok-count.ensures.ok.version c.in_ok-values.ensures.ok)
    (read_then _ _ c.in_ok-cert.ensures.ok (read_done _ _)))
