use Rattle.std.proofs.Common.{◌∙◌, ap, sym, decimal}
use Rattle.std.proofs.lemmas.Bool.{iff_false}
use Rattle.std.specs.declared.num.ParseIntError.{ParseIntError}
use Rattle.iss_schedule.proofs.Encoding.DecimalIsInjective.{read_same, read_some, decimal_is_text}
use Rattle.iss_schedule.proofs.words.number_of.Goals as goal

pub returns-in-Err-clause-none : goal.returns-in-Err-clause-none
returns-in-Err-clause-none c = λ n lt e. c.in-Err.ensures.cases.0 (decimal_is_text c.args.word.now n lt e)

pub returns-else-spells-clause-none : goal.returns-else-spells-clause-none
returns-else-spells-clause-none c = λ n lt e.
    iff_false c.spells.ensures c.if-spells.false
    (ap decimal (read_same ParseIntError c.in-Ok.text.now c.in-Ok-parse.number n c.in-Ok-parse.ensures.value.0 lt
    (c.in-Ok.ensures.cases.0 ∙ e)) ∙ sym e)

pub returns-in-Err-parse-clause-none : goal.returns-in-Err-parse-clause-none
returns-in-Err-parse-clause-none c =
    λ n lt e. read_some c.in-Ok.text.now c.in-Err-parse.field-0 n c.in-Err-parse.ensures.value.0 lt
    (c.in-Ok.ensures.cases.0 ∙ e)
