use Rattle.std.proofs.Common.{arith}
use Rattle.iss_schedule.proofs.HeaderTable.ModuleRows.{no_module, seen_at, seen_first}
use Rattle.iss_schedule.proofs.modules.module_at.Goals as goal

pub returns-then-place-all : goal.returns-then-place-all
returns-then-place-all c = seen_at c.modules-all.result.now c.args.place no_module c.modules-all.ensures (omega arith)

pub returns-else-place-all : goal.returns-else-place-all
returns-else-place-all c = seen_first c.modules-all.result.now c.args.place no_module c.modules-all.ensures
    (omega arith)
