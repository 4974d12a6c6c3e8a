use Rattle.iss_rebuilt.proofs.Frames.{recover}
use Rattle.iss_rebuilt.proofs.laws.journals_recover.Goals as goal

pub returns : goal.returns
returns g c =
    let M = g.M.Sequenced.spec in
    let laws = c.laws.ensures in
    λ s h. recover s M h laws.lawful laws.decides_readable laws.grammar
