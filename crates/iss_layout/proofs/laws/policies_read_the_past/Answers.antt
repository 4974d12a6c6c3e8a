use Rattle.iss_layout.proofs.PastLemmas.{of-the-past}
use Rattle.iss_layout.proofs.laws.policies_read_the_past.Goals as goal

pub returns : goal.returns
returns c = λ s e log newer held. of-the-past s e log newer held
