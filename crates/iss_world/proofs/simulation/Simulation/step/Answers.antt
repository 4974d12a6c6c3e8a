use Rattle.std.proofs.Common.{◌≡◌, ◌∙◌, ◌<◌, Result, Ok, length, arith, ap, refl, sym, subst}
use Rattle.std.proofs.lemmas.Option.{slice_get_read}
use Rattle.iss_model.specs.Run.{cores_of}
use Rattle.iss_disk.specs.declared.errors.Failed.{Failed}
use Rattle.iss_node.specs.Steps.{IsOfNodes}
use Rattle.iss_node.specs.declared.answers.Answer.{Answer as NodeAnswer}
use Rattle.iss_world.specs.Refines.{RefinesMachines}
use Rattle.iss_world.specs.State.{SimulationState}
use Rattle.iss_world.proofs.BookLemmas.{if-ok}
use Rattle.iss_world.proofs.StepLemmas.{behind, epoch-kept, made-there, same-network, slots-kept, step-dropped, step-stopped, step-taken, still-running}
use Rattle.iss_world.proofs.simulation.Simulation.step.Goals as goal

answered : {result : Result NodeAnswer Failed} {given answer : NodeAnswer} → result ≡ Ok given → given ≡ answer → result ≡ Ok answer
answered is inside = is ∙ ap (λ (a : NodeAnswer). let r : Result NodeAnswer Failed = Ok a in r) inside

pub invariant_of-self : goal.invariant_of-self
invariant_of-self g c =
    let v : SimulationState g.row.M.Denot g.row.M-Msg.Denot = record { setup = c.self.inside.members; nodes = c.self.inside.nodes.items; network = c.self.inside.network; signed = c.self.inside.signed; hashed = c.self.inside.hashed } in
    let lt : c.args.core < length c.self.inside.nodes.items = omega (arith, ap (λ (z : SimulationState _ _). cores_of z.setup) c.self.view_is, c.self.invariant.count) in
    let at = slice_get_read c.self.inside.nodes.items _ c.args.core c.index_mut.result.now refl lt c.index_mut.ensures.value in
    still-running g.M.Sequenced.spec g.M.Sequenced.refines v c.args.core c.index_mut.result.now c.take_with_savepoint-answer.new.node c.self.inside.network c.self.inside.signed c.self.inside.hashed c.self.invariant lt at c.take_with_savepoint-answer.ensures.same
    (same-network g.M.Sequenced.spec g.M.Sequenced.refines v c.self.invariant)

pub invariant_of-self-in-Ok-Dropped : goal.invariant_of-self-in-Ok-Dropped
invariant_of-self-in-Ok-Dropped g c =
    let v : SimulationState g.row.M.Denot g.row.M-Msg.Denot = record { setup = c.self.inside.members; nodes = c.self.inside.nodes.items; network = c.self.inside.network; signed = c.self.inside.signed; hashed = c.self.inside.hashed } in
    let lt : c.args.core < length c.self.inside.nodes.items = omega (arith, ap (λ (z : SimulationState _ _). cores_of z.setup) c.self.view_is, c.self.invariant.count) in
    let at = slice_get_read c.self.inside.nodes.items _ c.args.core c.index_mut.result.now refl lt c.index_mut.ensures.value in
    still-running g.M.Sequenced.spec g.M.Sequenced.refines v c.args.core c.index_mut.result.now c.take_with_savepoint-answer.new.node c.self.inside.network c.self.inside.signed c.self.inside.hashed c.self.invariant lt at c.take_with_savepoint-answer.ensures.same
    (same-network g.M.Sequenced.spec g.M.Sequenced.refines v c.self.invariant)

pub invariant_of-self-in-Err : goal.invariant_of-self-in-Err
invariant_of-self-in-Err g c =
    let v : SimulationState g.row.M.Denot g.row.M-Msg.Denot = record { setup = c.self.inside.members; nodes = c.self.inside.nodes.items; network = c.self.inside.network; signed = c.self.inside.signed; hashed = c.self.inside.hashed } in
    let lt : c.args.core < length c.self.inside.nodes.items = omega (arith, ap (λ (z : SimulationState _ _). cores_of z.setup) c.self.view_is, c.self.invariant.count) in
    let at = slice_get_read c.self.inside.nodes.items _ c.args.core c.index_mut.result.now refl lt c.index_mut.ensures.value in
    still-running g.M.Sequenced.spec g.M.Sequenced.refines v c.args.core c.index_mut.result.now c.take_with_savepoint-answer.new.node c.self.inside.network c.self.inside.signed c.self.inside.hashed c.self.invariant lt at c.take_with_savepoint-answer.ensures.same
    (same-network g.M.Sequenced.spec g.M.Sequenced.refines v c.self.invariant)

pub invariant_of-self-in-Ok-NoMemory : goal.invariant_of-self-in-Ok-NoMemory
invariant_of-self-in-Ok-NoMemory g c =
    let v : SimulationState g.row.M.Denot g.row.M-Msg.Denot = record { setup = c.self.inside.members; nodes = c.self.inside.nodes.items; network = c.self.inside.network; signed = c.self.inside.signed; hashed = c.self.inside.hashed } in
    let lt : c.args.core < length c.self.inside.nodes.items = omega (arith, ap (λ (z : SimulationState _ _). cores_of z.setup) c.self.view_is, c.self.invariant.count) in
    let at = slice_get_read c.self.inside.nodes.items _ c.args.core c.index_mut.result.now refl lt c.index_mut.ensures.value in
    still-running g.M.Sequenced.spec g.M.Sequenced.refines v c.args.core c.index_mut.result.now c.take_with_savepoint-answer.new.node c.self.inside.network c.self.inside.signed c.self.inside.hashed c.self.invariant lt at c.take_with_savepoint-answer.ensures.same
    (same-network g.M.Sequenced.spec g.M.Sequenced.refines v c.self.invariant)

pub taken-requires-clause-retreat : goal.taken-requires-clause-retreat
taken-requires-clause-retreat g c =
    let v : SimulationState g.row.M.Denot g.row.M-Msg.Denot = record { setup = c.self.inside.members; nodes = c.self.inside.nodes.items; network = c.self.inside.network; signed = c.self.inside.signed; hashed = c.self.inside.hashed } in
    let lt : c.args.core < length c.self.inside.nodes.items = omega (arith, ap (λ (z : SimulationState _ _). cores_of z.setup) c.self.view_is, c.self.invariant.count) in
    let at = slice_get_read c.self.inside.nodes.items _ c.args.core c.index_mut.result.now refl lt c.index_mut.ensures.value in
    let nodes = subst (λ (z : SimulationState _ _). IsOfNodes z.setup.n c.args.event) (sym c.self.view_is) c.requires.nodes in
    let st = subst (λ (z : SimulationState _ _). RefinesMachines g.M.Sequenced.spec g.M.Sequenced.refines z c.requires.working.0) (sym c.self.view_is) c.requires.working.1 in
    λ k is. (
      slots-kept g.M.Sequenced.spec g.M.Sequenced.refines v c.args.core c.index_mut.result.now c.args.event c.self.invariant at c.take_with_savepoint-answer.new.node lt c.take_with_savepoint-answer.ensures.same nodes c.take_with_savepoint-answer.result.0 c.take_with_savepoint-answer.ensures.answer
          c.in-Ok-Taken.outcome (answered c.in-Ok-Taken.is c.in-Ok-Taken.field-0-is) c.requires.working.0 st c.requires.working.2 c.take_with_savepoint-answer.result.1 c.take_with_savepoint-answer.ensures.slots k is,
      epoch-kept g.M.Sequenced.spec g.M.Sequenced.refines v c.args.core c.index_mut.result.now c.args.event c.self.invariant at c.take_with_savepoint-answer.new.node lt c.take_with_savepoint-answer.ensures.same nodes c.take_with_savepoint-answer.result.0 c.take_with_savepoint-answer.ensures.answer
          c.in-Ok-Taken.outcome (answered c.in-Ok-Taken.is c.in-Ok-Taken.field-0-is) c.requires.working.0 st c.requires.working.2 c.take_with_savepoint-answer.result.2.0 c.take_with_savepoint-answer.ensures.epoch k is,
    )

pub returns-in-Ok-Taken-clause-happened : goal.returns-in-Ok-Taken-clause-happened
returns-in-Ok-Taken-clause-happened g c =
    let v : SimulationState g.row.M.Denot g.row.M-Msg.Denot = record { setup = c.self.inside.members; nodes = c.self.inside.nodes.items; network = c.self.inside.network; signed = c.self.inside.signed; hashed = c.self.inside.hashed } in
    let lt : c.args.core < length c.self.inside.nodes.items = omega (arith, ap (λ (z : SimulationState _ _). cores_of z.setup) c.self.view_is, c.self.invariant.count) in
    let at = slice_get_read c.self.inside.nodes.items _ c.args.core c.index_mut.result.now refl lt c.index_mut.ensures.value in
    let nodes = subst (λ (z : SimulationState _ _). IsOfNodes z.setup.n c.args.event) (sym c.self.view_is) c.requires.nodes in
    rw (← c.self.view_is)
    (if-ok _ _ c.taken.result c.taken.ensures.happened (λ r k w st working.
    step-taken g.M.Sequenced.spec g.M.Sequenced.refines v c.args.core c.index_mut.result.now c.args.event c.self.invariant at c.take_with_savepoint-answer.new.node lt c.take_with_savepoint-answer.ensures.same nodes c.take_with_savepoint-answer.result.0 c.take_with_savepoint-answer.ensures.answer
    c.in-Ok-Taken.outcome (answered c.in-Ok-Taken.is c.in-Ok-Taken.field-0-is) w st working c.taken.new.self r
    (k w _ _ (behind g.M.Sequenced.spec g.M.Sequenced.refines v c.args.core c.index_mut.result.now c.args.event c.self.invariant at c.take_with_savepoint-answer.new.node lt c.take_with_savepoint-answer.ensures.same nodes c.take_with_savepoint-answer.result.0 c.take_with_savepoint-answer.ensures.answer
    c.in-Ok-Taken.outcome (answered c.in-Ok-Taken.is c.in-Ok-Taken.field-0-is) w st working c.take_with_savepoint-answer.result.1 c.take_with_savepoint-answer.result.2.0 c.take_with_savepoint-answer.ensures.slots c.take_with_savepoint-answer.ensures.epoch)
    (made-there g.M.Sequenced.spec g.M.Sequenced.refines v c.args.core c.index_mut.result.now c.args.event c.self.invariant at c.take_with_savepoint-answer.new.node lt c.take_with_savepoint-answer.ensures.same nodes c.take_with_savepoint-answer.result.0 c.take_with_savepoint-answer.ensures.answer
    c.in-Ok-Taken.outcome (answered c.in-Ok-Taken.is c.in-Ok-Taken.field-0-is) w st working))))

pub returns-in-Ok-Dropped-clause-happened : goal.returns-in-Ok-Dropped-clause-happened
returns-in-Ok-Dropped-clause-happened g c =
    let v : SimulationState g.row.M.Denot g.row.M-Msg.Denot = record { setup = c.self.inside.members; nodes = c.self.inside.nodes.items; network = c.self.inside.network; signed = c.self.inside.signed; hashed = c.self.inside.hashed } in
    let lt : c.args.core < length c.self.inside.nodes.items = omega (arith, ap (λ (z : SimulationState _ _). cores_of z.setup) c.self.view_is, c.self.invariant.count) in
    let at = slice_get_read c.self.inside.nodes.items _ c.args.core c.index_mut.result.now refl lt c.index_mut.ensures.value in
    let nodes = subst (λ (z : SimulationState _ _). IsOfNodes z.setup.n c.args.event) (sym c.self.view_is) c.requires.nodes in
    rw (← c.self.view_is)
    (step-dropped g.M.Sequenced.spec g.M.Sequenced.refines v c.args.core c.index_mut.result.now c.args.event c.self.invariant at c.take_with_savepoint-answer.new.node lt c.take_with_savepoint-answer.ensures.same nodes c.take_with_savepoint-answer.result.0 c.take_with_savepoint-answer.ensures.answer c.in-Ok-Dropped.why (answered c.in-Ok-Dropped.is c.in-Ok-Dropped.field-0-is))

pub returns-in-Err-clause-happened : goal.returns-in-Err-clause-happened
returns-in-Err-clause-happened g c =
    let v : SimulationState g.row.M.Denot g.row.M-Msg.Denot = record { setup = c.self.inside.members; nodes = c.self.inside.nodes.items; network = c.self.inside.network; signed = c.self.inside.signed; hashed = c.self.inside.hashed } in
    let lt : c.args.core < length c.self.inside.nodes.items = omega (arith, ap (λ (z : SimulationState _ _). cores_of z.setup) c.self.view_is, c.self.invariant.count) in
    let at = slice_get_read c.self.inside.nodes.items _ c.args.core c.index_mut.result.now refl lt c.index_mut.ensures.value in
    let nodes = subst (λ (z : SimulationState _ _). IsOfNodes z.setup.n c.args.event) (sym c.self.view_is) c.requires.nodes in
    rw (← c.self.view_is)
    (step-stopped g.M.Sequenced.spec g.M.Sequenced.refines v c.args.core c.index_mut.result.now c.args.event c.self.invariant at c.take_with_savepoint-answer.new.node lt c.take_with_savepoint-answer.ensures.same nodes c.take_with_savepoint-answer.result.0 c.take_with_savepoint-answer.ensures.answer _ c.in-Err.is)
