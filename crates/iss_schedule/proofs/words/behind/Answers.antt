use Rattle.std.proofs.lemmas.Bool.{iff_false}
use Rattle.iss_schedule.proofs.Encoding.SplitsAreUnique.{uncut, behind_same}
use Rattle.iss_schedule.proofs.words.behind.Goals as goal

pub returns-in_default-clause-none : goal.returns-in_default-clause-none
returns-in_default-clause-none c = λ word e. uncut 32 c.args.line.now c.args.name.now word c.in_default.ensures.none e

pub returns-else-is_same-clause-none : goal.returns-else-is_same-clause-none
returns-else-is_same-clause-none c = λ word e.
    iff_false c.is_same.ensures c.if-is_same.false
    (behind_same 32 c.args.line.now c.in-Some.first.now c.args.name.now c.in-Some.rest.now word c.in-Some.ensures.first
    c.requires c.in-Some.ensures.some e).0
