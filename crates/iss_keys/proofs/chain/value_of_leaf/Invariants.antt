use Rattle.std.proofs.Common.{◌∷◌, ◌++◌}
use Rattle.std.specs.Int.{w32, to_be_bytes}
use Rattle.sha2.specs.Hashers.{Holds256}
use Rattle.iss_keys.specs.Pieces.{join_below}
use Rattle.iss_keys.specs.Chains.{chain_end}
use Rattle.iss_keys.proofs.chain.value_of_leaf.Given as goal

abbrev pub invariant-chains : goal.invariant-chains
invariant-chains l =
    Holds256 l.hasher (0x12 ∷ to_be_bytes w32 l.leaf ++ join_below (chain_end l.secret l.leaf) l.i)
