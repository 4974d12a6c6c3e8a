use Rattle.std.proofs.Common.{◌^◌, ◌≤◌, arith}
use Rattle.std.proofs.Math.Pow.{pow_mono}
use Rattle.iss_keys.proofs.tree.leaves_under.Goals as goal

pub returns-clause-high : goal.returns-clause-high
returns-clause-high c = let most : 2 ^ c.args.height.levels ≤ 2 ^ 12 = pow_mono c.args.height.small in omega arith
