use Rattle.std.proofs.Common.{◌∷◌, ◌++◌}
use Rattle.std.specs.Int.{w32, to_be_bytes}
use Rattle.sha2.specs.Hashers.{Holds256}
use Rattle.iss_keys.specs.Pieces.{join_below}
use Rattle.iss_keys.specs.Signatures.{end_from}
use Rattle.iss_keys.proofs.chain.leaf_from_part.Given as goal

abbrev pub invariant-chains : goal.invariant-chains
invariant-chains l =
    Holds256 l.hasher (0x12 ∷ to_be_bytes w32 l.leaf ++ join_below (end_from l.leaf l.digest l.part) l.i)
