use Rattle.std.proofs.Common.{◌∙◌}
use Rattle.iss_request.specs.Parsing.{times}
use Rattle.iss_request.proofs.Readings.{exit, read_done, read_then, unread_first, unread_then}
use Rattle.iss_sb.proofs.Read.{read-by, unread-by}
use Rattle.raft_wire.specs.Entries.{parse_entry}
use Rattle.raft_wire.specs.Messages.{parse_append}
use Rattle.raft_wire.proofs.wire.read_append.Goals as goal

pub returns-in_err-term-clause-bad : goal.returns-in_err-term-clause-bad
unfolding parse_append
returns-in_err-term-clause-bad c =
    exit c.from_residual.result _ _ c.from_residual.ensures.1 (λ at e.
    unread_first _ _ (c.in_err-term.ensures.bad at e))

pub returns-in_err-previous-clause-bad : goal.returns-in_err-previous-clause-bad
unfolding parse_append
returns-in_err-previous-clause-bad c =
    exit c.from_residual-in_err-previous.result _ _ c.from_residual-in_err-previous.ensures.1 (λ at e.
    unread_then _ _ c.in_ok-term.ensures.ok
    (unread_first _ _ (c.in_err-previous.ensures.bad at e)))

pub returns-in_err-previous_term-clause-bad : goal.returns-in_err-previous_term-clause-bad
unfolding parse_append
returns-in_err-previous_term-clause-bad c =
    exit c.from_residual-in_err-previous_term.result _ _ c.from_residual-in_err-previous_term.ensures.1 (λ at e.
    unread_then _ _ c.in_ok-term.ensures.ok
    (unread_then _ _ c.in_ok-previous.ensures.ok
    (unread_first _ _ (c.in_err-previous_term.ensures.bad at e))))

pub returns-in_err-commit-clause-bad : goal.returns-in_err-commit-clause-bad
unfolding parse_append
returns-in_err-commit-clause-bad c =
    exit c.from_residual-in_err-commit.result _ _ c.from_residual-in_err-commit.ensures.1 (λ at e.
    unread_then _ _ c.in_ok-term.ensures.ok
    (unread_then _ _ c.in_ok-previous.ensures.ok
    (unread_then _ _ c.in_ok-previous_term.ensures.ok
    (unread_first _ _ (c.in_err-commit.ensures.bad at e)))))

pub returns-in_err-count-clause-bad : goal.returns-in_err-count-clause-bad
unfolding parse_append
returns-in_err-count-clause-bad c =
    exit c.from_residual-in_err-count.result _ _ c.from_residual-in_err-count.ensures.1 (λ at e.
    unread_then _ _ c.in_ok-term.ensures.ok
    (unread_then _ _ c.in_ok-previous.ensures.ok
    (unread_then _ _ c.in_ok-previous_term.ensures.ok
    (unread_then _ _ c.in_ok-commit.ensures.ok
    (unread_first _ _ (c.in_err-count.ensures.bad at e))))))

pub returns-in_err-entries-clause-bad : goal.returns-in_err-entries-clause-bad
unfolding parse_append
returns-in_err-entries-clause-bad c =
    exit c.from_residual-in_err-entries.result _ _ c.from_residual-in_err-entries.ensures.1 (λ at e.
    unread_then _ _ c.in_ok-term.ensures.ok
    (unread_then _ _ c.in_ok-previous.ensures.ok
    (unread_then _ _ c.in_ok-previous_term.ensures.ok
    (unread_then _ _ c.in_ok-commit.ensures.ok
    (unread_then _ _ c.in_ok-count.ensures.ok
    (unread_first _ _ (unread-by (λ n. times c.in_ok-count.count (parse_entry n)) (c.in_ok-count.ensures.ok.version ∙ c.in_ok-commit.ensures.ok.version ∙ c.in_ok-previous_term.ensures.ok.version ∙ c.in_ok-previous.ensures.ok.version ∙ c.in_ok-term.ensures.ok.version) (c.in_err-entries.ensures.bad at e))))))))

pub returns-clause-ok : goal.returns-clause-ok
unfolding parse_append
returns-clause-ok c =
    read_then _ _ c.in_ok-term.ensures.ok
    (read_then _ _ c.in_ok-previous.ensures.ok
    (read_then _ _ c.in_ok-previous_term.ensures.ok
    (read_then _ _ c.in_ok-commit.ensures.ok
    (read_then _ _ c.in_ok-count.ensures.ok
    (read_then _ _ (read-by (λ n. times c.in_ok-count.count (parse_entry n)) (c.in_ok-count.ensures.ok.version ∙ c.in_ok-commit.ensures.ok.version ∙ c.in_ok-previous_term.ensures.ok.version ∙ c.in_ok-previous.ensures.ok.version ∙ c.in_ok-term.ensures.ok.version) c.in_ok-entries.ensures.ok)
    (read_done _ _))))))
