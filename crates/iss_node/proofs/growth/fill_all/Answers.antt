use Rattle.iss_node.proofs.Log.SlotsKeepValues.{filled-next}
use Rattle.iss_node.proofs.growth.fill_all.Goals as goal

pub loop-slot-preserved : goal.loop-slot-preserved
loop-slot-preserved c = filled-next c.loop-slot.log c.fill.new.self c.in-Some.slot c.in-Some.value c.args.log.now c.loop-slot.yielded c.in_ok-_fill._fill c.loop-slot.invariant c.in_ok-_fill.ensures
