use Rattle.iss_snapshot.proofs.SnapshotGrammar.{snapshot-exact}
use Rattle.iss_snapshot.proofs.laws.snapshots_are_exact.Goals as goal

pub returns : goal.returns
returns c = λ version slots log s bytes rest. snapshot-exact version slots log s bytes rest
