use Rattle.iss_rebuilt.proofs.Frames.{fit}
use Rattle.iss_rebuilt.proofs.laws.snapshots_fit.Goals as goal

pub returns : goal.returns
returns g c =
    let M = g.M.Sequenced.spec in
    let laws = c.laws.ensures in
    λ s h. fit s M h laws.lawful laws.decides_readable laws.grammar
