use Rattle.std.proofs.Common.{◌≡◌, ◌-◌, arith}
use Rattle.iss_keys.proofs.chain.steps_of_chain.Goals as goal

pub returns : goal.returns
returns c =
    let all : c.steps.step - c.args.first ≡ c.args.end - c.args.first =
    omega (arith, c.steps-test.false, c.steps.invariant.1) in
    rw (← all) c.steps.invariant.0
