use Rattle.std.proofs.Common.{rules, ◌≡◌, ◌<◌, ◌≤◌, ◌-◌, ◌++◌, ◌∷◌, [], ◌∙◌, ℕ, suc, List, true, length, refl, sym, ap, subst, arith}
use Rattle.std.specs.Result.{is_ok}
use Rattle.std.proofs.lemmas.Option.{slice_get_read}
use Rattle.iss_base.proofs.Lists.{some-injective}
use Rattle.iss_log.specs.Chains.{ChainsState, IsChainOf, chain_of, end_of, next_end, strings_of}
use Rattle.iss_log.specs.declared.chains.End.{End}
use Rattle.iss_log.proofs.ChainLemmas.{last-kept, more-kept}
use Rattle.iss_log.proofs.chains.Chains.join.Goals as goal

pub returns-clause-joined : goal.returns-clause-joined
returns-clause-joined c = λ log kept.
    let version = c.self.inside.version in
    let items = c.self.inside.ends.items in
    let state : ChainsState = record { version = version; ends = items } in
    let some : 1 ≤ length items = c.self.invariant in
    let within : c.len.result - 1 < length items = omega (arith, c.len.ensures, some) in
    let at : suc (c.len.result - 1) ≡ length items = omega (arith, c.len.ensures, some) in
    let held : IsChainOf state log = subst (λ (s : ChainsState). IsChainOf s log) (sym c.self.view_is) kept in
    let last : c.index.result.now ≡ end_of version log = some-injective _ _ (sym (slice_get_read items (length items) (c.len.result - 1) c.index.result.now refl within c.index.ensures) ∙ last-kept state log held (c.len.result - 1) at) in
    let ok : is_ok c.push.result ≡ true = search rules in
    let grown : c.push.new.self.items ≡ items ++ c.in_ok-end.end ∷ [] = rw ok at c.push.ensures.items in
    more-kept state (record { version = version; ends = c.push.new.self.items }) log c.args.value.now c.in_ok-end.end held (ap (λ (xs : List End). record { version = version; ends = xs }) grown)
    (c.in_ok-end.ensures.end ∙ ap (λ (e : End). next_end version e c.args.value.now) last)

pub returns-clause-hashed : goal.returns-clause-hashed
returns-clause-hashed c = λ log kept.
    let version = c.self.inside.version in
    let items = c.self.inside.ends.items in
    let state : ChainsState = record { version = version; ends = items } in
    let some : 1 ≤ length items = c.self.invariant in
    let within : c.len.result - 1 < length items = omega (arith, c.len.ensures, some) in
    let at : suc (c.len.result - 1) ≡ length items = omega (arith, c.len.ensures, some) in
    let held : IsChainOf state log = subst (λ (s : ChainsState). IsChainOf s log) (sym c.self.view_is) kept in
    let last : c.index.result.now ≡ end_of version log = some-injective _ _ (sym (slice_get_read items (length items) (c.len.result - 1) c.index.result.now refl within c.index.ensures) ∙ last-kept state log held (c.len.result - 1) at) in
    let same : version ≡ c.args.self.now.version = ap (λ (s : ChainsState). s.version) c.self.view_is in
    c.in_ok-end.ensures.hashed ∙ ap (λ (e : End). c.args.hashed.now ++ strings_of version e.chain c.args.value.now) last
    ∙ ap (λ (n : ℕ). c.args.hashed.now ++ strings_of n (chain_of n log) c.args.value.now) same
