use Rattle.std.proofs.Common.{◌∙◌, ◌<◌, ◌≤◌, ℕ, List, length, arith, subst, None}
use Rattle.iss_network.proofs.Keeping.{any_default}
use Rattle.iss_model.specs.Driver.{delivers_each}
use Rattle.iss_model.specs.Courses.{driver_of}
use Rattle.iss_world.specs.Refines.{HasChanged}
use Rattle.iss_world.specs.declared.ends.EventOutcome.TheVariants.{Done}
use Rattle.iss_world.proofs.CourseLemmas.{each-ended, each-next, take-past}
use Rattle.iss_world.proofs.simulation.Simulation.deliver_each.Goals as goal

pub deliver-requires : goal.deliver-requires
deliver-requires g c = (_, (c.loop-packet.invariant.taken c.requires.0 c.requires.1).0)

pub returns-in-Ended-clause-happened : goal.returns-in-Ended-clause-happened
returns-in-Ended-clause-happened g c = λ w st.
    let lt : c.loop-packet.packet-index < length c.args.packets.now = omega (arith, c.loop-packet-test.true) in
    let now = c.loop-packet.invariant.taken w st in
    each-ended g.M.Sequenced.spec g.M.Sequenced.refines c.args.self.now.setup c.loop-packet.self.setup c.deliver.new.self w c.loop-packet.invariant.same c.args.packets.now c.loop-packet.packet-index _ c.in_ok-end.field-0 c.in-Ended.end c.in-Ended.is lt
    (any_default c.args.packets.now c.loop-packet.packet-index _ _ lt) now.2 (c.in_ok-end.ensures.happened _ now.0)

pub loop-packet-preserved : goal.loop-packet-preserved
loop-packet-preserved g c =
    let lt : c.loop-packet.packet-index < length c.args.packets.now = omega (arith, c.loop-packet-test.true) in
    record {
      taken = λ w st.
          let now = c.loop-packet.invariant.taken w st in
          each-next g.M.Sequenced.spec g.M.Sequenced.refines c.args.self.now.setup c.loop-packet.self.setup c.deliver.new.self w c.loop-packet.invariant.same c.args.packets.now c.loop-packet.packet-index _ _ lt
          (any_default c.args.packets.now c.loop-packet.packet-index _ _ lt) now.2 (c.in_ok-end.ensures.happened _ now.0) c.in_default.not-Ended;
      same = c.deliver.ensures.same ∙ c.loop-packet.invariant.same;
    }

pub returns-clause-happened : goal.returns-clause-happened
returns-clause-happened g c = λ w st.
    let m = g.M.Sequenced.spec in
    let s = c.args.self.now.setup in
    let end : length c.args.packets.now ≤ c.loop-packet.packet-index = omega (arith, c.loop-packet-test.false) in
    subst (λ (ks : List ℕ). HasChanged m g.M.Sequenced.refines None c.loop-packet.self (delivers_each (driver_of s m) ks w) Done)
    (take-past c.args.packets.now c.loop-packet.packet-index end) (c.loop-packet.invariant.taken w st)
