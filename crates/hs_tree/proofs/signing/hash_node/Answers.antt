use Rattle.std.proofs.Common.{refl}
use Rattle.hs_tree.proofs.Stated.{hashed-node}
use Rattle.hs_tree.proofs.signing.hash_node.Goals as goal

pub returns : goal.returns
returns c =
    hashed-node c.args.p.now.setup.version c.args.view c.args.parent.now c.args.what.now _ c.in_ok-node.node c.as_slice.result.now c.new-strings.result c.put_string.new.all c.push.new.self c.digest-digest.result c.new-strings.ensures c.in_ok-value.ensures
    c.in_ok-put_string.ensures c.in_ok-push.ensures.ok ((rw c.new-out.ensures at c.in_ok-node.ensures) refl) c.as_slice.ensures c.digest-digest.ensures
