use Rattle.std.proofs.Common.{refl, subst, sym}
use Rattle.iss_model.specs.Courses.{begin_machines}
use Rattle.iss_request.specs.declared.setups.Setup.{Setup}
use Rattle.iss_rules.specs.Setups.{IsSetupOf}
use Rattle.iss_world.specs.Refines.{RefinesMachines}
use Rattle.iss_world.specs.State.{SimulationState}
use Rattle.iss_world.proofs.CoreLemmas.{fresh-running, fresh-runs}
use Rattle.iss_world.proofs.simulation.Simulation.start.Goals as goal

pub start_cores-requires : goal.start_cores-requires
start_cores-requires g c = subst (λ (s : Setup). IsSetupOf g.M.Sequenced.spec s) (sym c.in_ok-members.ensures) c.requires

pub invariant_of-result : goal.invariant_of-result
invariant_of-result g c =
    let good = subst (λ (s : Setup). IsSetupOf g.M.Sequenced.spec s) (sym c.in_ok-members.ensures) c.requires in
    fresh-running g.M.Sequenced.spec g.M.Sequenced.refines c.in_ok-members.members c.in_ok-members.members c.in_ok-start_cores.field-0.items c.in_ok-new.field-0 c.new-2.result c.in_ok-new-2.field-0
    c.cores.result good refl c.cores.ensures c.in_ok-start_cores.ensures c.in_ok-new.ensures

pub returns-clause-refines : goal.returns-clause-refines
returns-clause-refines g c =
    let v : SimulationState g.row.M.Denot g.row.M-Msg.Denot = record {
      setup = c.in_ok-members.members;
      nodes = c.in_ok-start_cores.field-0.items;
      network = c.in_ok-new.field-0;
      signed = c.new-2.result;
      hashed = c.in_ok-new-2.field-0;
    } in
    subst (λ (s : Setup). RefinesMachines g.M.Sequenced.spec g.M.Sequenced.refines v (begin_machines s)) c.in_ok-members.ensures
    (fresh-runs g.M.Sequenced.spec g.M.Sequenced.refines c.in_ok-members.members c.in_ok-members.members c.in_ok-start_cores.field-0.items c.in_ok-new.field-0 c.new-2.result c.in_ok-new-2.field-0
    c.cores.result c.cores.ensures c.in_ok-start_cores.ensures c.in_ok-new.ensures c.new-2.ensures c.in_ok-new-2.ensures)
