use Rattle.iss_answers.proofs.BeliefLemmas.{all-believed}
use Rattle.iss_answers.proofs.laws.accepted_answers_are_the_logs.Goals as goal

pub returns : goal.returns
returns c = λ s correct log replies h. all-believed s correct log replies h
