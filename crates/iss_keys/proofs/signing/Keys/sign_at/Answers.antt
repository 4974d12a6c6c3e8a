use Rattle.std.proofs.lemmas.Result.{IfOk-weaker}
use Rattle.iss_keys.proofs.VerifyLemmas.{made_verifies}
use Rattle.iss_keys.proofs.signing.Keys.sign_at.Goals as goal

pub returns-clause-verifies : goal.returns-clause-verifies
returns-clause-verifies c =
    rw (← c.self.view_is)
    (IfOk-weaker c.sign.result _ _
    (λ sig e. made_verifies c.self.inside.trees.secret c.args.statement.now sig.items c.self.inside.trees.height c.args.leaf
    c.self.invariant.height (rw (← c.self.view_is) at c.requires) e) (rw c.trees.ensures at c.sign.ensures))
