use Rattle.std.proofs.Common.{◌∙◌, ◌<◌, ◌≡◌, ℕ, length, arith, ap, subst, sym, None}
use Rattle.iss_network.specs.Network.{Network, due}
use Rattle.iss_model.specs.Driver.{calms}
use Rattle.iss_model.specs.Courses.{driver_of}
use Rattle.iss_world.specs.Refines.{HasChanged, RefinesMachines}
use Rattle.iss_world.specs.State.{SimulationState}
use Rattle.iss_world.specs.declared.ends.EventOutcome.TheVariants.{Done}
use Rattle.iss_world.proofs.CourseLemmas.{calms-early, calms-ended, calms-next, going-is, no-packets}
use Rattle.iss_world.proofs.simulation.Simulation.calm.Goals as goal

pub deliver_each-requires : goal.deliver_each-requires
deliver_each-requires g c =
    let m = g.M.Sequenced.spec in
    let s = c.args.self.now.setup in
    let u = (calms (driver_of s m) c.loop-done.done c.requires.0).state in
    (u, subst (λ (z : SimulationState _ _). RefinesMachines m g.M.Sequenced.refines z u) (sym c.due.ensures.same) (c.loop-done.invariant.calmed c.requires.0 c.requires.1).0)

pub returns-then-len-eq0-clause-happened : goal.returns-then-len-eq0-clause-happened
returns-then-len-eq0-clause-happened g c = λ w st.
    let m = g.M.Sequenced.spec in
    let s = c.args.self.now.setup in
    let lt : c.loop-done.done < c.args.most = omega (arith, c.loop-done-test.true) in
    let now = c.loop-done.invariant.calmed w st in
    let u = (calms (driver_of s m) c.loop-done.done w).state in
    let is = going-is m g.M.Sequenced.refines (calms (driver_of s m) c.loop-done.done w) now.1 now.2 in
    let due-is = c.in_ok-packets.ensures.found ∙ ap (λ (z : Network). due z) now.0.network in
    let ok = c.in_ok-packets.packets.ok in
    let zero : c.in_ok-packets.packets.len ≡ 0 = sym c.len.ensures ∙ c.if-len-eq0.true in
    let none : length c.in_ok-packets.packets.items ≡ 0 = omega (arith, ok.0, zero) in
    calms-early g.M.Sequenced.spec g.M.Sequenced.refines s c.due.new.self.setup c.due.new.self w (ap (λ (z : SimulationState _ _). z.setup) c.due.ensures.same ∙ c.loop-done.invariant.same) c.loop-done.done c.args.most c.in_ok-packets.packets.items u lt is due-is
    (no-packets c.in_ok-packets.packets.items none) (subst (λ (z : SimulationState _ _). RefinesMachines m g.M.Sequenced.refines z u) (sym c.due.ensures.same) now.0)

pub returns-in-Ended-clause-happened : goal.returns-in-Ended-clause-happened
returns-in-Ended-clause-happened g c = λ w st.
    let m = g.M.Sequenced.spec in
    let s = c.args.self.now.setup in
    let lt : c.loop-done.done < c.args.most = omega (arith, c.loop-done-test.true) in
    let now = c.loop-done.invariant.calmed w st in
    let u = (calms (driver_of s m) c.loop-done.done w).state in
    let is = going-is m g.M.Sequenced.refines (calms (driver_of s m) c.loop-done.done w) now.1 now.2 in
    let due-is = c.in_ok-packets.ensures.found ∙ ap (λ (z : Network). due z) now.0.network in
    let there = subst (λ (z : SimulationState _ _). RefinesMachines m g.M.Sequenced.refines z u) (sym c.due.ensures.same) now.0 in
    calms-ended g.M.Sequenced.spec g.M.Sequenced.refines s c.due.new.self.setup c.deliver_each.new.self w (ap (λ (z : SimulationState _ _). z.setup) c.due.ensures.same ∙ c.loop-done.invariant.same) c.loop-done.done c.args.most c.as_slice.result.now c.in_ok-end.field-0 c.in-Ended.end u c.in-Ended.is lt is
    (c.as_slice.ensures.value ∙ due-is) (c.in_ok-end.ensures.happened u there)

pub loop-done-preserved : goal.loop-done-preserved
loop-done-preserved g c = record {
  calmed = λ w st.
      let m = g.M.Sequenced.spec in
      let s = c.args.self.now.setup in
      let lt : c.loop-done.done < c.args.most = omega (arith, c.loop-done-test.true) in
      let now = c.loop-done.invariant.calmed w st in
      let u = (calms (driver_of s m) c.loop-done.done w).state in
      let is = going-is m g.M.Sequenced.refines (calms (driver_of s m) c.loop-done.done w) now.1 now.2 in
      let due-is = c.in_ok-packets.ensures.found ∙ ap (λ (z : Network). due z) now.0.network in
      let there = subst (λ (z : SimulationState _ _). RefinesMachines m g.M.Sequenced.refines z u) (sym c.due.ensures.same) now.0 in
      calms-next g.M.Sequenced.spec g.M.Sequenced.refines s c.due.new.self.setup c.deliver_each.new.self w (ap (λ (z : SimulationState _ _). z.setup) c.due.ensures.same ∙ c.loop-done.invariant.same) c.loop-done.done c.as_slice.result.now c.in_ok-end.field-0 u is
      (c.as_slice.ensures.value ∙ due-is) (c.in_ok-end.ensures.happened u there) c.in_default.not-Ended;
  same = c.deliver_each.ensures.same ∙ (ap (λ (z : SimulationState _ _). z.setup) c.due.ensures.same ∙ c.loop-done.invariant.same);
}

pub returns-clause-happened : goal.returns-clause-happened
returns-clause-happened g c = λ w st.
    let m = g.M.Sequenced.spec in
    let s = c.args.self.now.setup in
    let all : c.loop-done.done ≡ c.args.most = omega (arith, c.loop-done-test.false, c.loop-done.auto.done-end) in
    subst (λ (k : ℕ). HasChanged m g.M.Sequenced.refines None c.loop-done.self (calms (driver_of s m) k w) Done) all (c.loop-done.invariant.calmed w st)
