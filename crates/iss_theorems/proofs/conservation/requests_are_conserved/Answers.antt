use Rattle.iss_theorems.proofs.NoLoss.OnePlaceInRun.{conserved}
use Rattle.iss_theorems.proofs.Refinement.LogsArePrefixes.{cluster-run}
use Rattle.iss_rules.proofs.Written.{faithful}
use Rattle.iss_theorems.proofs.conservation.requests_are_conserved.Goals as goal

pub returns : goal.returns
returns g c =
    let M = g.M.Sequenced.spec in
    let laws = c.laws.ensures in
    λ s h events low.
    let written = faithful s M laws.grammar in
    conserved s M h written laws.lawful laws.safe laws.accepts_once events (cluster-run s M h written laws.lawful laws.safe events low)
