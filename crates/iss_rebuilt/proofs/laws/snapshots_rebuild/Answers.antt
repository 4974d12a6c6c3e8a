use Rattle.iss_rebuilt.proofs.Entries.{snapshots-rebuild}
use Rattle.iss_rebuilt.proofs.laws.snapshots_rebuild.Goals as goal

pub returns : goal.returns
returns g c = λ s h. snapshots-rebuild s g.M.Sequenced.spec h
