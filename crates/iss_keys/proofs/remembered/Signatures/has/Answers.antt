use Rattle.std.proofs.Common.{◌∙◌, sym}
use Rattle.iss_keys.proofs.VerifyLemmas.{made_verifies}
use Rattle.iss_keys.proofs.remembered.Signatures.has.Goals as goal

pub returns-in-Some : goal.returns-in-Some
returns-in-Some c = λ same.
    let made = c.in-Some.ensures.right in
    rw (← c.self.view_is) (made_verifies c.self.inside.secret c.args.statement.now c.args.signature.now
    c.self.inside.height.levels c.leaf_in-leaf.result c.self.inside.height.is_height made.within
    (sym (c.same_bytes.ensures.0 same) ∙ c.deref-in-Some.ensures.value ∙ made.same))
