use Rattle.std.proofs.Common.{ap}
use Rattle.iss_request.specs.Fields.{Written}
use Rattle.pbft_wire.specs.Messages.{fits_node_change, node_of_change}
use Rattle.iss_sb.proofs.Ascending.{ascending-at}
use Rattle.iss_base.proofs.Lists.{and-true}
use Rattle.pbft_wire.proofs.writing.put_changes.Goals as goal

pub put_node_change-requires : goal.put_node_change-requires
put_node_change-requires c =
    let version = ap (λ (z : Written). z.version) c.loop-change.invariant in
    let r = ascending-at (fits_node_change c.args.out.now.version) node_of_change 0 c.args.changes.now c.loop-change.change-index c.change-item.result c.requires c.loop-change-test.true c.change-item.is in
    rw version (and-true _ _ r.1).1
