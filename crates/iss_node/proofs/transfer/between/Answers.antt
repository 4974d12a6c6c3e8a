use Rattle.std.proofs.Common.{arith, ◌≡◌, ◌∙◌, ◌+◌, ◌-◌, drop, take, ap, sym, ℕ}
use Rattle.std.proofs.lemmas.List.{drop-take}
use Rattle.iss_node.proofs.transfer.between.Goals as goal

pub returns : goal.returns
returns c =
    let far : c.args.first + (c.args.end - c.args.first) ≡ c.args.end = omega (arith, c.requires.ascending) in
    sym (drop-take c.args.first (c.args.end - c.args.first) c.args.values.now) ∙ ap (λ (k : ℕ). drop c.args.first (take k c.args.values.now)) far
