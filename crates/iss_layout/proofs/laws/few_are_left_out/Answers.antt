use Rattle.iss_layout.proofs.ListedLemmas.{few_left}
use Rattle.iss_layout.proofs.laws.few_are_left_out.Goals as goal

pub returns : goal.returns
returns c = λ s conduct is. few_left s conduct is
