use Rattle.std.proofs.Common.{◌<◌, ◌^◌, ◌∙◌, arith, rules, sym}
use Rattle.std.proofs.lemmas.Bool.{iff_false}
use Rattle.iss_schedule.proofs.Encoding.DecimalIsInjective.{outside}
use Rattle.iss_schedule.proofs.words.number_within.Goals as goal

pub returns-else-is_within : goal.returns-else-is_within
returns-else-is_within c = λ n ok e.
    let fits : c.in_ok-number.number < 2 ^ 64 = search rules in
    let ends : c.args.end < 2 ^ 64 = omega arith in
    outside c.args.low c.args.end c.in_ok-number.number n fits ends
    (iff_false c.is_within.ensures c.if-is_within.false) ok (sym c.in_ok-number.ensures.some ∙ e)
