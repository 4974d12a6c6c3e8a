use Rattle.std.proofs.Common.{arith}
use Rattle.std.proofs.lemmas.Bool.Decides.{nat_tests}
use Rattle.iss_config.proofs.ConfigLemmas.{count_of_view}
use Rattle.iss_config.proofs.tables.has_all_keys.Goals as goal

pub returns-clause-all : goal.returns-clause-all
returns-clause-all c = rw (count_of_view c.args.table.now.entries, c.len.ensures.len) (grind (arith, nat_tests))
