use Rattle.iss_request.proofs.Readings.{exit, read_done, read_then, unread_first, unread_then}
use Rattle.iss_sb.proofs.Read.{read-by, unread-by}
use Rattle.iss_sb.specs.Content.{parse_content}
use Rattle.raft_wire.specs.Entries.{parse_entry}
use Rattle.raft_wire.proofs.entries.read_entry.Goals as goal

pub returns-in_err-term-clause-bad : goal.returns-in_err-term-clause-bad
unfolding parse_entry
returns-in_err-term-clause-bad c =
    exit c.from_residual.result _ _ c.from_residual.ensures.1 (λ at e.
    unread_first _ _ (c.in_err-term.ensures.bad at e))

pub returns-in_err-what-clause-bad : goal.returns-in_err-what-clause-bad
unfolding parse_entry
returns-in_err-what-clause-bad c =
    exit c.from_residual-in_err-what.result _ _ c.from_residual-in_err-what.ensures.1 (λ at e.
    unread_then _ _ c.in_ok-term.ensures.ok
    (unread_first _ _ (unread-by (λ n. parse_content n) (c.in_ok-term.ensures.ok.version) (c.in_err-what.ensures.bad at e))))

pub returns-clause-ok : goal.returns-clause-ok
unfolding parse_entry
returns-clause-ok c =
    read_then _ _ c.in_ok-term.ensures.ok
    (read_then _ _ (read-by (λ n. parse_content n) (c.in_ok-term.ensures.ok.version) c.in_ok-what.ensures.ok)
    (read_done _ _))
