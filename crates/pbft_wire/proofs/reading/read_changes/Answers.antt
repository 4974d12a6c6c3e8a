use Rattle.std.proofs.Common.{suc, ◌+◌, ◌-◌, ◌∙◌, refl, arith}
use Rattle.iss_request.proofs.Readings.{exit}
use Rattle.iss_sb.proofs.Read.{read-by, unread-by}
use Rattle.pbft_wire.specs.Certificates.{after_node}
use Rattle.pbft_wire.specs.Messages.{node_of_change, parse_node_change}
use Rattle.iss_sb.proofs.Ascending.{climbs-bad, climbs-end, climbs-next, climbs-start}
use Rattle.pbft_wire.proofs.reading.read_changes.Goals as goal

pub returns-in_err-change-clause-bad : goal.returns-in_err-change-clause-bad
returns-in_err-change-clause-bad c =
    exit c.from_residual.result _ _ c.from_residual.ensures.1 (λ at e.
    climbs-bad (parse_node_change c.args.f.now.version) node_of_change c.args.many _ (c.args.many - suc c.loop.counter) _ _ _ _ at (omega arith) c.loop.invariant.0 (unread-by (λ n. parse_node_change n (after_node c.loop.last)) c.loop.invariant.1 (c.in_err-change.ensures.bad at e)))

pub loop-init : goal.loop-init
loop-init c = (climbs-start (parse_node_change c.args.f.now.version) node_of_change c.args.many _ (c.args.many - 0) _ _ (omega arith) refl c.new-changes.ensures, refl)

pub loop-preserved : goal.loop-preserved
loop-preserved c =
    rw c.in_ok-push.ensures.ok
    (climbs-next (parse_node_change c.args.f.now.version) node_of_change c.args.many _ (c.args.many - (c.loop.counter + 1)) (c.args.many - c.loop.counter) _ _ _ _ _ _ (omega arith) refl c.loop.invariant.0 (read-by (λ n. parse_node_change n (after_node c.loop.last)) c.loop.invariant.1 c.in_ok-change.ensures.ok), c.in_ok-change.ensures.ok.version ∙ c.loop.invariant.1)

pub returns-clause-ok : goal.returns-clause-ok
returns-clause-ok c = climbs-end (parse_node_change c.args.f.now.version) node_of_change c.args.many _ (c.args.many - c.loop.counter) _ _ _ (omega arith) c.loop.invariant.0
