use Rattle.std.proofs.Common.{◌<◌, ◌≡◌, ◌∙◌, List, length, true, false, Some, arith, ap, refl, sym, subst}
use Rattle.std.proofs.lemmas.Option.{slice_get_read}
use Rattle.iss_rules.specs.Concrete.{rules_of}
use Rattle.iss_rules.specs.Formats.{formats_of}
use Rattle.iss_rules.specs.declared.events.Why.TheVariants.{Stopped}
use Rattle.iss_model.specs.Node.{step}
use Rattle.iss_model.specs.Run.{cores_of, first_forged, node_of}
use Rattle.iss_model.specs.Courses.{Machines}
use Rattle.iss_model.specs.Driver.{Upshot}
use Rattle.iss_sb.specs.declared.effects.Claim.{Claim}
use Rattle.iss_world.specs.Refines.{HasChanged, IsLeftBy, RefinesMachines}
use Rattle.iss_world.specs.State.{SimulationState}
use Rattle.iss_world.specs.Internal.Steps.{kept_to}
use Rattle.iss_world.specs.declared.ends.EventOutcome.TheVariants.{Ended, Lost}
use Rattle.iss_world.specs.declared.ends.Evidence.TheVariants.{Forged as Evidence_forged}
use Rattle.iss_world.proofs.BookLemmas.{if-ok}
use Rattle.iss_world.proofs.MachineLemmas.{machine-forged, machine-kept, machine-stopped}
use Rattle.iss_world.proofs.StepLemmas.{claims-here, stale-here}
use Rattle.iss_world.proofs.simulation.Simulation.take.Goals as goal

pub returns-then-stale-clause-happened : goal.returns-then-stale-clause-happened
returns-then-stale-clause-happened g c =
    let v : SimulationState g.row.M.Denot g.row.M-Msg.Denot = record { setup = c.self.inside.members; nodes = c.self.inside.nodes.items; network = c.self.inside.network; signed = c.self.inside.signed; hashed = c.self.inside.hashed } in
    let lt : c.args.core < length c.self.inside.nodes.items = omega (arith, ap (λ (z : SimulationState _ _). cores_of z.setup) c.self.view_is, c.self.invariant.count) in
    let at = slice_get_read c.self.inside.nodes.items _ c.args.core c.index-node.result.now refl lt c.index-node.ensures in
    rw (← c.self.view_is) (λ w st.
    let m = g.M.Sequenced.spec in
    let s = c.self.inside.members in
    let failed : (w.disks c.args.core).failed ≡ true =
    sym (stale-here g.M.Sequenced.spec g.M.Sequenced.refines v c.args.core c.index-node.result.now c.args.event c.self.invariant at w st) ∙ (sym c.stale.ensures ∙ c.if-stale.true) in
    subst (λ (u : Upshot (Machines g.row.M-Msg.Denot)). HasChanged m g.M.Sequenced.refines (Some c.args.core) v u (Lost Stopped)) (sym (machine-stopped m s (formats_of s m) w c.args.core c.args.event failed))
    (st, refl, refl))

pub step-requires-clause-working : goal.step-requires-clause-working
step-requires-clause-working g c =
    let v : SimulationState g.row.M.Denot g.row.M-Msg.Denot = record { setup = c.self.inside.members; nodes = c.self.inside.nodes.items; network = c.self.inside.network; signed = c.self.inside.signed; hashed = c.self.inside.hashed } in
    let lt : c.args.core < length c.self.inside.nodes.items = omega (arith, ap (λ (z : SimulationState _ _). cores_of z.setup) c.self.view_is, c.self.invariant.count) in
    let at = slice_get_read c.self.inside.nodes.items _ c.args.core c.index-node.result.now refl lt c.index-node.ensures in
    let w = c.requires.standing.0 in
    let st = subst (λ (z : SimulationState _ _). RefinesMachines g.M.Sequenced.spec g.M.Sequenced.refines z w) (sym c.self.view_is) c.requires.standing.1 in
    (w, c.requires.standing.1, sym (stale-here g.M.Sequenced.spec g.M.Sequenced.refines v c.args.core c.index-node.result.now c.args.event c.self.invariant at w st) ∙ (sym c.stale.ensures ∙ c.if-stale.false))

pub returns-in-Some-clause-happened : goal.returns-in-Some-clause-happened
returns-in-Some-clause-happened g c =
    let v : SimulationState g.row.M.Denot g.row.M-Msg.Denot = record { setup = c.self.inside.members; nodes = c.self.inside.nodes.items; network = c.self.inside.network; signed = c.self.inside.signed; hashed = c.self.inside.hashed } in
    let lt : c.args.core < length c.self.inside.nodes.items = omega (arith, ap (λ (z : SimulationState _ _). cores_of z.setup) c.self.view_is, c.self.invariant.count) in
    let at = slice_get_read c.self.inside.nodes.items _ c.args.core c.index-node.result.now refl lt c.index-node.ensures in
    rw (← c.self.view_is) (λ w st.
    let m = g.M.Sequenced.spec in
    let s = c.self.inside.members in
    let working : (w.disks c.args.core).failed ≡ false =
    sym (stale-here g.M.Sequenced.spec g.M.Sequenced.refines v c.args.core c.index-node.result.now c.args.event c.self.invariant at w st) ∙ (sym c.stale.ensures ∙ c.if-stale.false) in
    let are = claims-here g.M.Sequenced.spec g.M.Sequenced.refines v c.args.core c.index-node.result.now c.args.event c.self.invariant at c.in_ok-claims.claims c.in_ok-claims.ensures w st working in
    let there = subst (λ (z : SimulationState g.row.M.Denot g.row.M-Msg.Denot). (w : Machines g.row.M-Msg.Denot) → RefinesMachines m g.M.Sequenced.refines z w →
    IsLeftBy m g.M.Sequenced.refines (Some c.args.core) c.stop_at.new.self w) (sym c.self.view_is) c.stop_at.ensures.left in
    let first = sym c.in-Some.is ∙ c.in_ok-forged.ensures w.held.signed st.signed ∙ ap (λ (cs : List Claim). first_forged s (rules_of s) w.held.signed cs) c.as_slice.ensures in
    subst (λ (u : Upshot (Machines g.row.M-Msg.Denot)). HasChanged m g.M.Sequenced.refines (Some c.args.core) c.stop_at.new.self u (Ended (Evidence_forged c.in-Some.claim)))
    (sym (machine-forged m s (formats_of s m) w c.args.core c.args.event c.in_ok-claims.claims are working c.in-Some.claim first))
    (there w st, refl, refl))

pub returns-in-None-clause-happened : goal.returns-in-None-clause-happened
returns-in-None-clause-happened g c =
    let v : SimulationState g.row.M.Denot g.row.M-Msg.Denot = record { setup = c.self.inside.members; nodes = c.self.inside.nodes.items; network = c.self.inside.network; signed = c.self.inside.signed; hashed = c.self.inside.hashed } in
    let lt : c.args.core < length c.self.inside.nodes.items = omega (arith, ap (λ (z : SimulationState _ _). cores_of z.setup) c.self.view_is, c.self.invariant.count) in
    let at = slice_get_read c.self.inside.nodes.items _ c.args.core c.index-node.result.now refl lt c.index-node.ensures in
    rw (← c.self.view_is)
    (if-ok _ _ c.step.result c.step.ensures.happened (λ r f w st.
    let m = g.M.Sequenced.spec in
    let s = c.self.inside.members in
    let working : (w.disks c.args.core).failed ≡ false =
    sym (stale-here g.M.Sequenced.spec g.M.Sequenced.refines v c.args.core c.index-node.result.now c.args.event c.self.invariant at w st) ∙ (sym c.stale.ensures ∙ c.if-stale.false) in
    let are = claims-here g.M.Sequenced.spec g.M.Sequenced.refines v c.args.core c.index-node.result.now c.args.event c.self.invariant at c.in_ok-claims.claims c.in_ok-claims.ensures w st working in
    let there = subst (λ (z : SimulationState g.row.M.Denot g.row.M-Msg.Denot). (w : Machines g.row.M-Msg.Denot) → RefinesMachines m g.M.Sequenced.refines z w → (w.disks c.args.core).failed ≡ false →
    HasChanged m g.M.Sequenced.refines (Some c.args.core) c.step.new.self
    (kept_to z.setup w c.args.core c.args.event (step (formats_of z.setup m) (rules_of z.setup) m (node_of z.setup c.args.core) (w.held.net.cores c.args.core) c.args.event)) r) (sym c.self.view_is) f in
    let none = ap (λ (cs : List Claim). first_forged s (rules_of s) w.held.signed cs) (sym c.as_slice.ensures) ∙ sym (c.in_ok-forged.ensures w.held.signed st.signed) ∙ c.in-None.is in
    subst (λ (u : Upshot (Machines g.row.M-Msg.Denot)). HasChanged m g.M.Sequenced.refines (Some c.args.core) c.step.new.self u r)
    (sym (machine-kept m s (formats_of s m) w c.args.core c.args.event c.in_ok-claims.claims are working none)) (there w st working)))
