use Rattle.std.proofs.Common.{arith, codes}
use Rattle.iss_schedule.proofs.Encoding.TextIsWritten.{node_after}
use Rattle.iss_schedule.proofs.writing.put_nodes.Goals as goal

pub loop-node-preserved : goal.loop-node-preserved
loop-node-preserved c =
    node_after (codes "faulty") c.args.nodes.now c.loop-node.node-index c.from.result
    (record { 0 = 0 }) c.args.out.now.items c.loop-node.out.items c.put_number.new.out.items
    (omega arith) c.from.ensures c.loop-node.invariant c.in_ok-put_number.ensures
