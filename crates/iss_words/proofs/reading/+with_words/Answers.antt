use Rattle.std.proofs.lemmas.Result.{IfOk-weaker}
use Rattle.iss_words.proofs.reading.+with_words.Goals as goal

pub returns-in_ok-command-in-len1-up-clause-globals :
    goal.returns-in_ok-command-in-len1-up-clause-globals
returns-in_ok-command-in-len1-up-clause-globals t c =
    IfOk-weaker c.with_words.result _ _ (λ r h old. h (c.in_ok-command-in-len1-up.ensures.globals old)) c.with_words.ensures.globals
