-- The strings that steps hash for logs are those of the chain.
use Rattle.std.proofs.Common.{◌≡◌, ◌⊎◌, inl, inr, ℕ, List, [], ◌∷◌, length, reverse, refl, sym, ap, ◌∙◌, subst}
use Rattle.iss_base.specs.Lists.{Extends, In, push_all}
use Rattle.iss_base.proofs.Lists.{in_left, in_right}
use Rattle.iss_log.specs.Chains.{chain_of, linked, strings_from, strings_of, value_link}
use Rattle.iss_log.proofs.ChainLemmas.{chain-append}
use Rattle.iss_request.specs.Digest.{digest}
use Rattle.iss_request.specs.declared.requests.Value.{Value}
use Rattle.iss_request.specs.declared.setups.Setup.{Setup}
use Rattle.iss_composition.specs.Checkpoints.{scheme_of}
use Rattle.iss_composition.specs.Cluster.{chain, chain_strings}
use Rattle.iss_model.specs.Node.{joined}
use Rattle.iss_model.proofs.Casts.{joined-newer}
use Rattle.iss_rules.proofs.Reversed.{newest-last, over-turned}

module _ (s : Setup) where
  -- the chain of a log
  pub chain-is : (log : List Value) → chain (scheme_of s) log ≡ chain_of s.version (reverse log)
  chain-is [] = refl
  chain-is (v ∷ older) =
      ap (λ (t : List ℕ). linked s.version t v) (chain-is older) ∙
      (sym (chain-append s.version (digest []) (reverse older) (v ∷ [])) ∙ ap (λ (t : List Value). chain_of s.version t) (sym (newest-last v older)))

  -- what is hashed for values after a log
  pub over-hashed : (vs log : List Value) (x : List ℕ) → In x (chain_strings (scheme_of s) (push_all vs log)) →
      In x (chain_strings (scheme_of s) log) ⊎ In x (strings_from s.version (chain_of s.version (reverse log)) vs)
  over-hashed [] log x h = inl h
  over-hashed (v ∷ vs) log x h =
      let before : List ℕ = chain_of s.version (reverse log) in
      let first : List (List ℕ) = strings_of s.version before v in
      let next : chain_of s.version (reverse (v ∷ log)) ≡ linked s.version before v =
      ap (λ (t : List Value). chain_of s.version t) (newest-last v log) ∙ chain-append s.version (digest []) (reverse log) (v ∷ []) in
      let rest : List (List ℕ) = strings_from s.version (linked s.version before v) vs in
      elim (over-hashed vs (v ∷ log) x h) [
        | inr b ↦ inr (in_right x first rest (subst (λ (t : List ℕ). In x (strings_from s.version t vs)) next b))
        | inl a ↦ elim a [
          | inl q ↦ inr (in_left x first rest (inl q))
          | inr b ↦ elim b [
            | inl q ↦ inr (in_left x first rest (inr (inl (q ∙ ap (λ (t : List ℕ). value_link s.version t v) (chain-is log)))))
            | inr d ↦ inl d
          ]
        ]
      ]

  -- what is hashed as a log grows
  pub grown-hashed : (old new : List Value) → Extends old new → (x : List ℕ) → In x (chain_strings (scheme_of s) new) →
      In x (chain_strings (scheme_of s) old) ⊎ In x (strings_from s.version (chain_of s.version (reverse old)) (reverse (joined (length old) new)))
  grown-hashed old new e x h =
      let fresh : joined (length old) new ≡ e.0 = ap (λ (t : List Value). joined (length old) t) e.1 ∙ joined-newer e.0 old in
      let whole : new ≡ push_all (reverse (joined (length old) new)) old =
      e.1 ∙ (sym (over-turned e.0 old) ∙ ap (λ (t : List Value). push_all (reverse t) old) (sym fresh)) in
      over-hashed (reverse (joined (length old) new)) old x (subst (λ (t : List Value). In x (chain_strings (scheme_of s) t)) whole h)
