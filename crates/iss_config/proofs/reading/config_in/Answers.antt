use Rattle.std.proofs.lemmas.Option.{IfSome_then}
use Rattle.iss_config.proofs.ConfigLemmas.{table_of_held}
use Rattle.iss_config.proofs.reading.config_in.Goals as goal

pub returns-clause-some : goal.returns-clause-some
returns-clause-some c =
    let all = c.has_all_keys.ensures.all.0 c.if-not-has_all_keys.false in
    IfSome_then c.config_at.result c.config_at.ensures.some (λ config held.
    table_of_held c.args.table.now.entries config c.has_all_keys.ensures.ascending all held)
