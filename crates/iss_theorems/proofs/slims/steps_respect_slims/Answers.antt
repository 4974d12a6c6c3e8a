use Rattle.iss_model.proofs.AlikeSlims.{steps-keep-placed, steps-respect-slims}
use Rattle.iss_theorems.proofs.slims.steps_respect_slims.Goals as goal

pub returns-clause-same : goal.returns-clause-same
returns-clause-same g c = λ s h. steps-respect-slims s g.M.Sequenced.spec h

pub returns-clause-placed : goal.returns-clause-placed
returns-clause-placed g c = λ s h. steps-keep-placed s g.M.Sequenced.spec h
