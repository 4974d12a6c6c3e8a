use Rattle.std.proofs.Common.{◌∙◌, ◌∷◌, [], ap, rules, subst, sym}
use Rattle.sha2.specs.Sha256.{sha256}
use Rattle.iss_keys.specs.Levels.{KeySeed, root_of}
use Rattle.iss_keys.specs.Signatures.{Verifies}
use Rattle.iss_keys.specs.Internal.Rings.{ring_seed}
use Rattle.iss_keys.proofs.RingLemmas.{listed_verifies}
use Rattle.iss_keys.proofs.keyrings.OwnKeys.has_made.Goals as goal

pub returns-in-Some : goal.returns-in-Some
returns-in-Some c = λ made.
    let keys = c.self.inside in
    let own = c.deref.ensures ∙ c.in-Some.ensures
    ∙ ap (λ r. ring_seed r.kind r.height c.args.number) (sym c.self.view_is) in
    rw (← c.self.view_is) (listed_verifies (λ i. sha256 (keys.kind ∷ i ∷ [])) keys.height.levels keys.count c.args.number
    c.args.statement.now c.args.signature.now (search rules)
    (subst (λ (t : KeySeed). Verifies (root_of t.secret t.height) t.height c.args.statement.now c.args.signature.now) own
    (c.has_made.ensures made)))
