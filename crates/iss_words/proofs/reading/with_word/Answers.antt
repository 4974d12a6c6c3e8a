use Rattle.std.proofs.Common.{◌≡◌, ◌∙◌, ap₂, false, rules}
use Rattle.std.specs.Prelude.{◌||◌}
use Rattle.std.proofs.lemmas.Result.{IfOk-weaker}
use Rattle.iss_words.proofs.reading.with_word.Goals as goal

pub returns-clause-globals : goal.returns-clause-globals
returns-clause-globals c =
    let local : c.required.result.global ≡ false = search rules in
    IfOk-weaker c.arg.result _ _ (λ r h old. h.globals ∙ ap₂ (λ a b. a || b) old local) c.arg.ensures
