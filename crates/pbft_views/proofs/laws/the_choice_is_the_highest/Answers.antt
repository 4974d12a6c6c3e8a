use Rattle.pbft_views.proofs.Choices.{choice-is}
use Rattle.pbft_views.proofs.laws.the_choice_is_the_highest.Goals as goal

pub returns : goal.returns
returns c = λ p v from s xs h. choice-is p v s from xs h
