use Rattle.std.proofs.Common.{rules, ℕ, ◌∙◌, ap, ◌∷◌, []}
use Rattle.sha2.specs.Sha256.{sha256}
use Rattle.iss_keys.specs.KeyStates.{public_key}
use Rattle.iss_keys.proofs.ListedLemmas.{some_listed, none_listed}
use Rattle.iss_keys.proofs.keyrings.OwnKeys.key.Goals as goal

pub returns-then-from-self : goal.returns-then-from-self
returns-then-from-self c =
    let key = λ (i : ℕ). public_key (sha256 (c.self.inside.kind ∷ i ∷ [])) c.self.inside.height.levels in
    rw (← c.self.view_is) (none_listed key c.self.inside.count c.args.number (search rules))

pub returns : goal.returns
returns c =
    let key = λ (i : ℕ). public_key (sha256 (c.self.inside.kind ∷ i ∷ [])) c.self.inside.height.levels in
    rw (← c.self.view_is) (some_listed key c.self.inside.count c.args.number c.from_parts.result (search rules)
    (c.from_parts.ensures ∙ ap (λ r. record { root = r; height = c.self.inside.height.levels })
    (rw (← c.self.view_is) at c.root.ensures)))
