use Rattle.iss_node.proofs.EpochEnd.StepCompletes.{settled-dropped, settled-taken}
use Rattle.iss_node.proofs.state.NodeState.finish_step.Goals as goal

pub returns-in_ok-advance_epochs-in-Ok-clause-answer : goal.returns-in_ok-advance_epochs-in-Ok-clause-answer
returns-in_ok-advance_epochs-in-Ok-clause-answer g c = rw c.in-Ok.is (settled-taken g.M.Sequenced.spec g.M.Sequenced.refines c.args.self.now c.advance_epochs.new.self c.in-Ok.outcome c.in_ok-advance_epochs-in-Ok.field-0 c.in_ok-advance_epochs-in-Ok.ensures.turn)

pub returns-in-Err-clause-answer : goal.returns-in-Err-clause-answer
returns-in-Err-clause-answer g c = rw c.in-Err.is (settled-dropped g.M.Sequenced.spec g.M.Sequenced.refines c.args.self.now c.in-Err.why)

pub advance_epochs-requires : goal.advance_epochs-requires
advance_epochs-requires g c = rw c.in-Ok.is at c.requires
