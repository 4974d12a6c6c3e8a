use Rattle.witness_echo.specs.Shown.{four, rules}
use Rattle.witness_echo.proofs.Instance.{rules-sound, shown}
use Rattle.witness_echo.proofs.laws.echo_in_a_cluster.Goals as goal

pub returns : goal.returns
returns c = shown (λ w sep r. c.composition.ensures.whole four rules rules-sound w sep r)
