use Rattle.iss_theorems.proofs.StoppedRuns.RunShowsEvidence.{has-evidence}
use Rattle.iss_theorems.proofs.theorems.runs_end_with_evidence.Goals as goal

pub returns : goal.returns
returns g c = λ s h events. has-evidence s g.M.Sequenced.spec h events
