use Rattle.std.proofs.Common.{sym}
use Rattle.std.specs.Prelude.{nat_le}
use Rattle.iss_request.specs.Parsing.{byte, such_that}
use Rattle.iss_request.proofs.Readings.{exit, named, read_passed, unread_failed, unread_tested}
use Rattle.pbft_wire.specs.Certificates.{after_node}
use Rattle.pbft_wire.proofs.reading.read_node.Goals as goal

pub returns-in_err-node-clause-bad : goal.returns-in_err-node-clause-bad
returns-in_err-node-clause-bad c =
    exit c.from_residual.result _ _ c.from_residual.ensures.1 (λ at e. unread_tested (λ n. nat_le (after_node c.args.last) n) byte (c.in_err-node.ensures.bad at e))

pub returns-then-not-node_follows-clause-bad : goal.returns-then-not-node_follows-clause-bad
returns-then-not-node_follows-clause-bad c at e =
    named (such_that (λ n. nat_le (after_node c.args.last) n) byte) c.args.f.now _ _ at
    (unread_failed (λ n. nat_le (after_node c.args.last) n) byte c.in_ok-node.ensures.ok (sym c.if-not-node_follows.ensures)) c.bad_field-no_node.ensures e

pub returns-clause-ok : goal.returns-clause-ok
returns-clause-ok c = read_passed (λ n. nat_le (after_node c.args.last) n) byte c.in_ok-node.ensures.ok (sym c.if-not-node_follows.ensures)
