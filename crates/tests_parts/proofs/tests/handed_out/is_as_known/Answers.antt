use Rattle.std.proofs.Common.{◌≤◌, ◌^◌, length, ap, arith, sym, subst}
use Rattle.std.proofs.Math.Pow.{pow_mono}
use Rattle.std.specs.Prelude.{IfSome, slice_get}
use Rattle.iss_keys.specs.Directories.{DirectoryView}
use Rattle.iss_keys.proofs.DirectoryLemmas.{length-nodes, node-leaves}
use Rattle.tests_parts.proofs.tests.handed_out.is_as_known.Goals as goal

-- the directory has a node 0
pub signs_as_known-requires-clause-node : goal.signs_as_known-requires-clause-node
signs_as_known-requires-clause-node c =
    let held = ap (λ v. length v.nodes) c.in_ok-all.ensures in
    let size = length-nodes c.args.nodes c.args.clients c.args.height in
    omega (arith, held, size, c.requires.some)

pub signs_as_known-requires-clause-next : goal.signs_as_known-requires-clause-next
signs_as_known-requires-clause-next c =
    let least : 2 ^ 2 ≤ 2 ^ c.args.height = pow_mono c.requires.height.0 in
    let within : c.args.next ≤ 2 ^ c.args.height = omega (arith, c.requires.next, least) in
    subst (λ (d : DirectoryView). IfSome (slice_get d.nodes 0) (λ key. c.args.next ≤ 2 ^ key.height))
    (sym c.in_ok-all.ensures)
    (node-leaves c.args.nodes c.args.clients c.args.height 0 c.args.next c.requires.some within)
