use Rattle.std.proofs.Common.{◌∙◌}
use Rattle.hs_tree.proofs.Stated.{node-spelled}
use Rattle.hs_tree.proofs.signing.node_string.Goals as goal

pub returns : goal.returns
returns c empty =
    c.into_bytes.ensures ∙ node-spelled c.args.out.version c.kind_of.result c.args.view c.args.parent.now c.args.held.now c.args.what.now _ _ _ _ _ empty c.kind_of.ensures c.requires
    c.in_ok-put_start.ensures c.in_ok-put_bytes.ensures.ok c.in_ok-put_u8.ensures.ok c.in_ok-put_bytes-2.ensures.ok
