use Rattle.iss_theorems.proofs.Refinement.LogsArePrefixes.{casts-accepted}
use Rattle.iss_rules.proofs.Written.{faithful}
use Rattle.iss_theorems.proofs.theorems.casts_are_accepted.Goals as goal

pub returns : goal.returns
returns g c =
    let M = g.M.Sequenced.spec in
    let laws = c.laws.ensures in
    λ s h. casts-accepted s M h (faithful s M laws.grammar) laws.lawful laws.safe
