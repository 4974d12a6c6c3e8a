use Rattle.std.proofs.Common.{◌^◌, ◌≤◌, arith}
use Rattle.std.proofs.Math.Pow.{pow_mono}
use Rattle.iss_keys.proofs.tree.root_of_secret.Goals as goal

pub node_of-requires : goal.node_of-requires
node_of-requires c =
    let most : 2 ^ c.args.height.levels ≤ 2 ^ 12 = pow_mono c.args.height.small in
    omega (arith, most)
