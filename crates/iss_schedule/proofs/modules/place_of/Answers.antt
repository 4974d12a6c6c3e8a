use Rattle.iss_schedule.proofs.HeaderTable.ModuleRows.{few_modules}
use Rattle.iss_schedule.proofs.modules.place_of.Goals as goal

pub place_in-requires : goal.place_in-requires
place_in-requires c = few_modules c.modules.result.now c.modules.ensures
