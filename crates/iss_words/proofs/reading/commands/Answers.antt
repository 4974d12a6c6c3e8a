use Rattle.std.proofs.Common.{◌∙◌, ap₂}
use Rattle.std.proofs.lemmas.Result.{IfOk-weaker}
use Rattle.iss_words.specs.Forms.{with_commands}
use Rattle.iss_words.proofs.reading.commands.Goals as goal

pub returns : goal.returns
returns c =
    IfOk-weaker c.with_commands.result _ _ (λ r h. h ∙ ap₂ with_commands c.top.ensures c.forms.ensures) c.with_commands.ensures
