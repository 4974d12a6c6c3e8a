use Rattle.std.proofs.Common.{sym, decimal, subst}
use Rattle.std.proofs.lemmas.Bool.{iff_false}
use Rattle.iss_schedule.specs.Words.{IsNumber}
use Rattle.iss_schedule.proofs.Encoding.SplitsAreUnique.{behind_same}
use Rattle.iss_schedule.proofs.header.number.Goals as goal

pub returns-then-is_number : goal.returns-then-is_number
returns-then-is_number c = λ above. (
  (c.in-Some.word.now, (c.in-Some.ensures.some, c.is_number.ensures.0 c.if-is_number.true)),
  (λ h. c.in_default-number_within.ensures h.0 h.1.0
      (behind_same 32 c.args.line.now c.args.name.now c.args.name.now c.in-Some.word.now
      (decimal h.0) c.requires c.requires c.in-Some.ensures.some h.1.1).1),
)

pub returns-else-is_number : goal.returns-else-is_number
returns-else-is_number c = λ above h.
    iff_false c.is_number.ensures c.if-is_number.false
    (subst IsNumber (sym (behind_same 32 c.args.line.now c.args.name.now c.args.name.now c.in-Some.word.now
    h.0 c.requires c.requires c.in-Some.ensures.some h.1.0).1) h.1.1)
