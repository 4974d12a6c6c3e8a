use Rattle.std.proofs.Common.{◌≡◌, ◌++◌}
use Rattle.iss_keys.specs.Pieces.{join_below}
use Rattle.iss_keys.specs.Signatures.{signed_value}
use Rattle.iss_keys.proofs.chain.write_values.Given as goal

abbrev pub invariant-chains : goal.invariant-chains
invariant-chains l = l.out.items ≡ l.fn.out.items ++ join_below (signed_value l.secret l.leaf l.digest) l.i
