use Rattle.std.proofs.Common.{◌∷◌, ap, rules}
use Rattle.std.specs.Int.{w32, to_be_bytes}
use Rattle.iss_keys.specs.Signatures.{end_from}
use Rattle.iss_keys.proofs.ChainLemmas.{holds_along, ends_more, join_below_none}
use Rattle.iss_keys.proofs.chain.leaf_from_part.Goals as goal

pub chains-init : goal.chains-init
chains-init c =
    holds_along c.update-2.new.self _ _
    (join_below_none _ (0x12 ∷ to_be_bytes w32 c.args.leaf) (end_from c.args.leaf c.args.digest.now c.args.part.now)
    (ap (λ b. 0x12 ∷ b) c.to_be_bytes.ensures))
    (c.update-2.ensures _ (c.update.ensures _ c.new-hasher.ensures))

pub chains-preserved : goal.chains-preserved
chains-preserved c =
    holds_along c.update-in-chains.new.self _ _
    (ends_more (0x12 ∷ to_be_bytes w32 c.args.leaf) c.steps_of_chain-end.result
    (end_from c.args.leaf c.args.digest.now c.args.part.now) c.chains.i (search rules))
    (c.update-in-chains.ensures _ c.chains.invariant)
