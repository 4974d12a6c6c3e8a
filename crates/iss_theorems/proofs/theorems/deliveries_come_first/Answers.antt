use Rattle.iss_theorems.proofs.Checkpoints.CertificatesDescribeLogs.{delivered-first}
use Rattle.iss_theorems.proofs.theorems.deliveries_come_first.Goals as goal

pub returns : goal.returns
returns g c = λ R me past older v u longer is. delivered-first R g.M.Sequenced.spec me past older v u longer is
