use Rattle.iss_layout.specs.Layout.{plan_of}
use Rattle.iss_layout.proofs.FairLemmas.{fair, good_plan}
use Rattle.iss_layout.proofs.laws.epochs_are_fair.Goals as goal

pub returns : goal.returns
returns c = λ s e start log good fits. fair (plan_of s e start log) (good_plan s e start log good fits)
