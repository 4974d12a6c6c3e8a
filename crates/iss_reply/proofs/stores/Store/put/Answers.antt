use Rattle.std.proofs.Common.{rules, ◌≡◌, ◌∙◌, ap, cond, List, ℕ, Some}
use Rattle.std.specs.Str.{bytes_eq}
use Rattle.iss_reply.specs.Internal.Held.{held_in}
use Rattle.iss_reply.proofs.StoreLemmas.{held-changed}
use Rattle.iss_reply.proofs.stores.Store.put.Goals as goal

pub returns-clause-ok : goal.returns-clause-ok
returns-clause-ok c = λ k.
    let key : c.in_ok-key.key.items ≡ c.args.key.now = search rules in
    let value : c.in_ok-value.value.items ≡ c.args.value.now = search rules in
    held-changed c.in_ok-key.key.items c.self.inside.values.entries c.insert.new.self.entries (Some c.of.result) c.in_ok-_before.ensures.updates.1 c.in_ok-_before.ensures.updates.3 k
    ∙ ap (λ (s : List (List ℕ × List ℕ)). cond (bytes_eq c.in_ok-key.key.items k) (Some c.of.result) (held_in s k)) c.self.view_is
    ∙ ap (λ (b : List ℕ). cond (bytes_eq b k) (Some c.of.result) (held_in c.args.self.now k)) key
    ∙ ap (λ (b : List ℕ). cond (bytes_eq c.args.key.now k) (Some b) (held_in c.args.self.now k)) (c.of.ensures ∙ value)
