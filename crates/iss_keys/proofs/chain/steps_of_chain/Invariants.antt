use Rattle.std.proofs.Common.{◌≡◌, ◌-◌, ◌≤◌}
use Rattle.iss_keys.specs.Chains.{steps}
use Rattle.iss_keys.proofs.chain.steps_of_chain.Given as goal

abbrev pub invariant-steps : goal.invariant-steps
invariant-steps l =
    (l.x ≡ steps l.leaf l.chain l.first (l.step - l.first) l.fn.start) × (l.step - l.first ≤ l.fn.end - l.first)
