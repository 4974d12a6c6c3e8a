use Rattle.iss_schedule.proofs.Encoding.SplitsAreUnique.{lacks_before, lacks_where}
use Rattle.iss_schedule.proofs.words.cut_at.Goals as goal

pub returns-in_default-clause-none : goal.returns-in_default-clause-none
returns-in_default-clause-none c = lacks_where c.args.byte c.args.text.now c.memchr.result c.memchr.ensures c.in_default.is

pub returns-clause-first : goal.returns-clause-first
returns-clause-first c = lacks_before c.args.byte c.args.text.now c.memchr.result c.in-Some.at c.memchr.ensures c.in-Some.is
