use Rattle.iss_theorems.proofs.Checkpoints.CertificatesDescribeLogs.{are-certified}
use Rattle.iss_rules.proofs.Written.{faithful}
use Rattle.iss_theorems.proofs.theorems.certificates_are_of_logs.Goals as goal

pub returns : goal.returns
returns g c =
    let M = g.M.Sequenced.spec in
    let laws = c.laws.ensures in
    λ s h. are-certified s M h (faithful s M laws.grammar) laws.lawful laws.safe
