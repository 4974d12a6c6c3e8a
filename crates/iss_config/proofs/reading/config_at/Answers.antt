use Rattle.toml.specs.View.{table_view}
use Rattle.iss_config.proofs.ConfigLemmas.{no_protocol, no_sizes, no_work, none_anyway}
use Rattle.iss_config.proofs.reading.config_at.Goals as goal

pub returns-in_err-protocol-clause-none : goal.returns-in_err-protocol-clause-none
returns-in_err-protocol-clause-none c =
    none_anyway c.from_residual.result _ (no_protocol (table_view c.args.table.now) c.in_err-protocol.ensures.none)

pub returns-in_err-sizes-clause-none : goal.returns-in_err-sizes-clause-none
returns-in_err-sizes-clause-none c =
    none_anyway c.from_residual-in_err-sizes.result _ (no_sizes (table_view c.args.table.now) c.in_err-sizes.ensures.none)

pub returns-in_err-work-clause-none : goal.returns-in_err-work-clause-none
returns-in_err-work-clause-none c =
    none_anyway c.from_residual-in_err-work.result _ (no_work (table_view c.args.table.now) c.in_ok-sizes.sizes
    c.in_ok-sizes.ensures.some c.in_err-work.ensures.none)
