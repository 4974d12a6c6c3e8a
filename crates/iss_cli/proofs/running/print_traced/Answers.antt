use Rattle.std.proofs.Common.{◌∙◌}
use Rattle.iss_cli.proofs.RunningLemmas.{joined}
use Rattle.iss_cli.proofs.running.print_traced.Goals as goal

pub returns-clause-printed : goal.returns-clause-printed
returns-clause-printed g c = λ p is. joined _ _ _ _ _ c.in_ok-printed.ensures (c.as_slice.ensures ∙ c.in_ok-trace.ensures) (c.as_slice-2.ensures ∙ c.in_ok-report.ensures.tells p is)
