use Rattle.iss_answers.proofs.NoText.{no-text}
use Rattle.iss_answers.proofs.OneText.{one-text}
use Rattle.iss_answers.proofs.laws.texts_and_replies.Goals as goal

pub returns-clause-one : goal.returns-clause-one
returns-clause-one c = λ bytes t u h k. one-text bytes t u h k

pub returns-clause-none : goal.returns-clause-none
returns-clause-none c = λ bytes line why t bad is. no-text bytes line why t bad is
