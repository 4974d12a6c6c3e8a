use Rattle.std.proofs.Common.{◌≤◌, ◌^◌, arith}
use Rattle.std.proofs.Math.Pow.{pow_mono}
use Rattle.tests_parts.proofs.tests.keys.key_at.Goals as goal

pub make_at-requires-clause-next : goal.make_at-requires-clause-next
make_at-requires-clause-next c = let least : 2 ^ 2 ≤ 2 ^ c.args.height = pow_mono c.requires.height.0 in omega (arith, c.requires.next, least)
