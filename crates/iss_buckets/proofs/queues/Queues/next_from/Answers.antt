use Rattle.std.proofs.Common.{◌≡◌, ◌<◌, ◌≤◌, ◌∙◌, ap, sym, subst, true, false, List, [], ℕ, length, map, get_or, arith}
use Rattle.std.proofs.lemmas.List.{get_or-map, length-map}
use Rattle.std.specs.BTreeSet.{BTreeSet}
use Rattle.std.specs.List.{list_any}
use Rattle.std.specs.Option.{IfSome, IfNone}
use Rattle.std.specs.Ordering.{is_eq, nat_cmp}
use Rattle.iss_buckets.proofs.queues.Queues.next_from.Goals as goal

pub returns-clause-some : goal.returns-clause-some
returns-clause-some c =
    let keys = λ (s : BTreeSet ℕ). s.keys in
    let items = c.self.inside.all.items in
    let long : length (map keys items) ≡ length c.args.self.now = ap length c.self.view_is in
    let size : length (map keys items) ≡ length items = length-map items keys in
    let inside : c.args.bucket < length items = omega (arith, c.requires, long, size) in
    let old : c.index.result.now.keys ≡ get_or c.args.self.now c.args.bucket [] = sym (get_or-map keys items c.args.bucket c.index.result.now [] inside ∙ ap keys (sym c.index.ensures)) ∙ ap (λ (qs : List (List ℕ)). get_or qs c.args.bucket []) c.self.view_is in
    subst (λ (ks : List ℕ). IfSome c.first_from.result (λ k. (c.args.from ≤ k) × (list_any (λ j. is_eq (nat_cmp k j)) ks ≡ true) × ((j : ℕ) → c.args.from ≤ j → list_any (λ i. is_eq (nat_cmp j i)) ks ≡ true → k ≤ j))) old c.first_from.ensures.some

pub returns-clause-none : goal.returns-clause-none
returns-clause-none c =
    let keys = λ (s : BTreeSet ℕ). s.keys in
    let items = c.self.inside.all.items in
    let long : length (map keys items) ≡ length c.args.self.now = ap length c.self.view_is in
    let size : length (map keys items) ≡ length items = length-map items keys in
    let inside : c.args.bucket < length items = omega (arith, c.requires, long, size) in
    let old : c.index.result.now.keys ≡ get_or c.args.self.now c.args.bucket [] = sym (get_or-map keys items c.args.bucket c.index.result.now [] inside ∙ ap keys (sym c.index.ensures)) ∙ ap (λ (qs : List (List ℕ)). get_or qs c.args.bucket []) c.self.view_is in
    subst (λ (ks : List ℕ). IfNone c.first_from.result ((j : ℕ) → c.args.from ≤ j → list_any (λ i. is_eq (nat_cmp j i)) ks ≡ false)) old c.first_from.ensures.none
