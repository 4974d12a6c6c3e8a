use Rattle.iss_request.proofs.Readings.{exit, read_done, read_then, unread_first, unread_then}
use Rattle.std.proofs.Common.{arith}
use Rattle.hs_tree.specs.Certificates.{parse_votes}
use Rattle.iss_sb.proofs.Fields.{count-read, count-unread}
use Rattle.hs_tree.proofs.Reading.{behind, by-same, un-same}
use Rattle.hs_tree.proofs.certificates.read_votes.Goals as goal

pub returns-in_err-phase-clause-bad : goal.returns-in_err-phase-clause-bad
returns-in_err-phase-clause-bad c =
    exit c.from_residual.result _ _ c.from_residual.ensures.1 (λ at e.
    un-same (parse_votes c.args.phases c.args.view) _ (behind c.args.phases c.args.view c.requires) (
    unread_first _ _ (c.in_err-phase.ensures.bad at e)))

pub returns-in_err-digest-clause-bad : goal.returns-in_err-digest-clause-bad
returns-in_err-digest-clause-bad c =
    exit c.from_residual-in_err-digest.result _ _ c.from_residual-in_err-digest.ensures.1 (λ at e.
    un-same (parse_votes c.args.phases c.args.view) _ (behind c.args.phases c.args.view c.requires) (
    unread_then _ _ c.in_ok-phase.ensures.ok
    (unread_first _ _ (c.in_err-digest.ensures.bad at e))))

pub returns-in_err-count-clause-bad : goal.returns-in_err-count-clause-bad
returns-in_err-count-clause-bad c =
    exit c.from_residual-in_err-count.result _ _ c.from_residual-in_err-count.ensures.1 (λ at e.
    un-same (parse_votes c.args.phases c.args.view) _ (behind c.args.phases c.args.view c.requires) (
    unread_then _ _ c.in_ok-phase.ensures.ok
    (unread_then _ _ c.in_ok-digest.ensures.ok
    (unread_first _ _ (count-unread (c.in_err-count.ensures.bad at e))))))

pub returns-in_err-votes-clause-bad : goal.returns-in_err-votes-clause-bad
returns-in_err-votes-clause-bad c =
    exit c.from_residual-in_err-votes.result _ _ c.from_residual-in_err-votes.ensures.1 (λ at e.
    un-same (parse_votes c.args.phases c.args.view) _ (behind c.args.phases c.args.view c.requires) (
    unread_then _ _ c.in_ok-phase.ensures.ok
    (unread_then _ _ c.in_ok-digest.ensures.ok
    (unread_then _ _ (count-read _ (omega arith) c.in_ok-count.ensures.ok)
    (unread_first _ _ (c.in_err-votes.ensures.bad at e))))))

pub returns-clause-ok : goal.returns-clause-ok
returns-clause-ok c =
    by-same (parse_votes c.args.phases c.args.view) _ (behind c.args.phases c.args.view c.requires) (
    read_then _ _ c.in_ok-phase.ensures.ok
    (read_then _ _ c.in_ok-digest.ensures.ok
    (read_then _ _ (count-read _ (omega arith) c.in_ok-count.ensures.ok)
    (read_then _ _ c.in_ok-votes.ensures.ok
    (read_done _ _)))))
