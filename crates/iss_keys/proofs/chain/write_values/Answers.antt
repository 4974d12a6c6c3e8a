use Rattle.std.proofs.Common.{◌∙◌, rules}
use Rattle.iss_keys.specs.Signatures.{signed_value}
use Rattle.iss_keys.proofs.ChainLemmas.{pieces_none, pieces_more}
use Rattle.iss_keys.proofs.chain.write_values.Goals as goal

pub chains-init : goal.chains-init
chains-init c = pieces_none c.args.out.now.items (signed_value c.args.secret.now c.args.leaf c.args.digest.now)

pub chains-preserved : goal.chains-preserved
chains-preserved c =
    c.in_ok-extend_from_slice.ensures.items
    ∙ pieces_more c.args.out.now.items _ c.steps_of_chain-value.result
    (signed_value c.args.secret.now c.args.leaf c.args.digest.now) c.chains.i c.chains.invariant (search rules)
