use Rattle.iss_request.proofs.Readings.{exit, read_then, unread_first, unread_then, read_done}
use Rattle.iss_packet.specs.Packets.{parse_parts}
use Rattle.iss_request.specs.Parsing.{block}
use Rattle.iss_request.proofs.ParserLemmas.{block_parts}
use Rattle.iss_request.proofs.Parts.{read_as_is}
use Rattle.iss_packet.proofs.packets.read_parts.Goals as goal

pub returns-in_err-_first-clause-bad : goal.returns-in_err-_first-clause-bad
unfolding parse_parts
returns-in_err-_first-clause-bad c =
    exit c.from_residual.result _ _ c.from_residual.ensures.1 (λ at e.
    (unread_first _ _ (c.in_err-_first.ensures.bad at e)))

pub returns-in_err-kind-clause-bad : goal.returns-in_err-kind-clause-bad
unfolding parse_parts
returns-in_err-kind-clause-bad c =
    exit c.from_residual-in_err-kind.result _ _ c.from_residual-in_err-kind.ensures.1 (λ at e.
    (unread_then _ _ c.in_ok-_first.ensures.ok
    (unread_first _ _ (c.in_err-kind.ensures.bad at e))))

pub returns-in_err-from-clause-bad : goal.returns-in_err-from-clause-bad
unfolding parse_parts
returns-in_err-from-clause-bad c =
    exit c.from_residual-in_err-from.result _ _ c.from_residual-in_err-from.ensures.1 (λ at e.
    (unread_then _ _ c.in_ok-_first.ensures.ok
    (unread_then _ _ c.in_ok-kind.ensures.ok
    (unread_first _ _ (c.in_err-from.ensures.bad at e)))))

pub returns-in_err-epoch-clause-bad : goal.returns-in_err-epoch-clause-bad
unfolding parse_parts
returns-in_err-epoch-clause-bad c =
    exit c.from_residual-in_err-epoch.result _ _ c.from_residual-in_err-epoch.ensures.1 (λ at e.
    (unread_then _ _ c.in_ok-_first.ensures.ok
    (unread_then _ _ c.in_ok-kind.ensures.ok
    (unread_then _ _ c.in_ok-from.ensures.ok
    (unread_first _ _ (c.in_err-epoch.ensures.bad at e))))))

pub returns-in_err-leader-clause-bad : goal.returns-in_err-leader-clause-bad
unfolding parse_parts
returns-in_err-leader-clause-bad c =
    exit c.from_residual-in_err-leader.result _ _ c.from_residual-in_err-leader.ensures.1 (λ at e.
    (unread_then _ _ c.in_ok-_first.ensures.ok
    (unread_then _ _ c.in_ok-kind.ensures.ok
    (unread_then _ _ c.in_ok-from.ensures.ok
    (unread_then _ _ c.in_ok-epoch.ensures.ok
    (unread_first _ _ (c.in_err-leader.ensures.bad at e)))))))

pub returns-in_err-size-clause-bad : goal.returns-in_err-size-clause-bad
unfolding parse_parts
returns-in_err-size-clause-bad c =
    exit c.from_residual-in_err-size.result _ _ c.from_residual-in_err-size.ensures.1 (λ at e.
    (unread_then _ _ c.in_ok-_first.ensures.ok
    (unread_then _ _ c.in_ok-kind.ensures.ok
    (unread_then _ _ c.in_ok-from.ensures.ok
    (unread_then _ _ c.in_ok-epoch.ensures.ok
    (unread_then _ _ c.in_ok-leader.ensures.ok
    (unread_first _ _ (c.in_err-size.ensures.bad at e))))))))

pub returns-in_err-_lent-clause-bad : goal.returns-in_err-_lent-clause-bad
unfolding parse_parts
returns-in_err-_lent-clause-bad c =
    exit c.from_residual-in_err-_lent.result _ _ c.from_residual-in_err-_lent.ensures.1 (λ at e.
    (unread_then _ _ c.in_ok-_first.ensures.ok
    (unread_then _ _ c.in_ok-kind.ensures.ok
    (unread_then _ _ c.in_ok-from.ensures.ok
    (unread_then _ _ c.in_ok-epoch.ensures.ok
    (unread_then _ _ c.in_ok-leader.ensures.ok
    (unread_then _ _ c.in_ok-size.ensures.ok
    (unread_first _ _ (c.in_err-_lent.ensures.bad at e)))))))))

pub returns-clause-ok : goal.returns-clause-ok
unfolding parse_parts
returns-clause-ok c =
    (read_then _ _ c.in_ok-_first.ensures.ok
    (read_then _ _ c.in_ok-kind.ensures.ok
    (read_then _ _ c.in_ok-from.ensures.ok
    (read_then _ _ c.in_ok-epoch.ensures.ok
    (read_then _ _ c.in_ok-leader.ensures.ok
    (read_then _ _ c.in_ok-size.ensures.ok
    (read_then _ _ (read_as_is (block _)
    (λ bytes rest x found. (block_parts _ bytes rest x found).parts) _ c.at-first.result c.in_ok-_lent.ensures.ok
    c.in_ok-body.ensures c.at-first.ensures)
    (read_done _ _))))))))
