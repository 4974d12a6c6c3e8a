use Rattle.std.proofs.Common.{◌∙◌, false, refl, sym, true≢false}
use Rattle.iss_answers.proofs.LineLemmas.{cut-formed, uncut-formed}
use Rattle.iss_answers.proofs.lines.is_id.Goals as goal

pub returns-then-is_number : goal.returns-then-is_number
returns-then-is_number c =
    cut-formed c.args.word.now c.in-Some.client.now c.in-Some.number.now c.is_number-then-is_number.result c.in-Some.ensures.some c.in-Some.ensures.first (
      (λ t. (c.is_number.ensures.0 c.if-is_number.true, c.is_number-then-is_number.ensures.0 t)),
      (λ h. c.is_number-then-is_number.ensures.1 h.1),
    )

pub returns-else-is_number : goal.returns-else-is_number
returns-else-is_number c =
    cut-formed c.args.word.now c.in-Some.client.now c.in-Some.number.now c.is_number.result c.in-Some.ensures.some c.in-Some.ensures.first (
      (λ t. (c.is_number.ensures.0 t, absurd (true≢false (sym t ∙ c.if-is_number.false)))),
      (λ h. c.is_number.ensures.1 h.0),
    )

pub returns-in-None : goal.returns-in-None
returns-in-None c = uncut-formed c.args.word.now false c.in-None.ensures.none refl
