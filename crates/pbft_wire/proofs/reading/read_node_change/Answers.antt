use Rattle.iss_request.proofs.Readings.{exit, read_then, unread_first, unread_then}
use Rattle.iss_sb.proofs.Read.{read-by, unread-by}
use Rattle.pbft_wire.specs.Certificates.{parse_change}
use Rattle.pbft_wire.specs.Messages.{parse_node_change}
use Rattle.pbft_wire.proofs.reading.read_node_change.Goals as goal

pub returns-in_err-node-clause-bad : goal.returns-in_err-node-clause-bad
unfolding parse_node_change
returns-in_err-node-clause-bad c =
    exit c.from_residual.result _ _ c.from_residual.ensures.1 (λ at e.
    unread_first _ _ (c.in_err-node.ensures.bad at e))

pub returns-in_err-change-clause-bad : goal.returns-in_err-change-clause-bad
unfolding parse_node_change
returns-in_err-change-clause-bad c =
    exit c.from_residual-in_err-change.result _ _ c.from_residual-in_err-change.ensures.1 (λ at e.
    unread_then _ _ c.in_ok-node.ensures.ok
    (unread-by (λ n. parse_change n c.in_ok-node.node) (c.in_ok-node.ensures.ok.version) (c.in_err-change.ensures.bad at e)))

pub returns-clause-ok : goal.returns-clause-ok
unfolding parse_node_change
returns-clause-ok c =
    read_then _ _ c.in_ok-node.ensures.ok
    (read-by (λ n. parse_change n c.in_ok-node.node) (c.in_ok-node.ensures.ok.version) c.in_ok-change.ensures.ok)
