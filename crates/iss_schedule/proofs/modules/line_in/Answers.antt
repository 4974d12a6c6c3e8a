use Rattle.std.proofs.Common.{arith}
use Rattle.iss_schedule.proofs.HeaderTable.ModuleRows.{line_first, line_none, no_module}
use Rattle.iss_schedule.proofs.modules.line_in.Goals as goal

pub returns-then-all-place : goal.returns-then-all-place
returns-then-all-place c = line_first c.args.all.now c.args.number c.loop-place.place no_module (omega arith)
    (λ j lt. c.loop-place.invariant no_module j lt) (omega arith)

pub returns : goal.returns
returns c = line_none c.args.all.now c.args.number no_module (λ j lt. c.loop-place.invariant no_module j (omega arith))
