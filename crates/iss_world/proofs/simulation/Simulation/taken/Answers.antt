use Rattle.std.proofs.Common.{◌<◌, ◌++◌, List, ℕ, length, arith, ap, refl, subst, sym}
use Rattle.std.proofs.lemmas.Option.{slice_get_read}
use Rattle.iss_base.specs.Lists.{push_all}
use Rattle.iss_model.specs.Run.{booked, cores_of, posted_all}
use Rattle.iss_network.specs.Network.{Network}
use Rattle.iss_sb.specs.declared.effects.Claim.{Claim}
use Rattle.iss_sb.specs.declared.effects.To.{To}
use Rattle.iss_world.specs.Books.{AreSigned}
use Rattle.iss_world.specs.State.{SimulationState}
use Rattle.iss_world.specs.Internal.Steps.{MayRetreat, ends_by}
use Rattle.iss_world.proofs.MachineLemmas.{kept-end, no-end}
use Rattle.iss_world.proofs.StepLemmas.{same-network, still-running, turn-ended, turn-refines, with-network}
use Rattle.iss_world.proofs.simulation.Simulation.taken.Goals as goal

pub invariant_of-self : goal.invariant_of-self
invariant_of-self g c =
    let v : SimulationState g.row.M.Denot g.row.M-Msg.Denot = record { setup = c.self.inside.members; nodes = c.self.inside.nodes.items; network = c.self.inside.network; signed = c.self.inside.signed; hashed = c.self.inside.hashed } in
    with-network g.M.Sequenced.spec g.M.Sequenced.refines v c.self.inside.network c.self.inside.signed c.ends.new.hashed c.self.invariant (same-network g.M.Sequenced.spec g.M.Sequenced.refines v c.self.invariant)

pub invariant_of-self-in-Some : goal.invariant_of-self-in-Some
invariant_of-self-in-Some g c =
    let v : SimulationState g.row.M.Denot g.row.M-Msg.Denot = record { setup = c.self.inside.members; nodes = c.self.inside.nodes.items; network = c.self.inside.network; signed = c.self.inside.signed; hashed = c.self.inside.hashed } in
    let lt : c.args.core < length c.self.inside.nodes.items = omega (arith, ap (λ (z : SimulationState _ _). cores_of z.setup) c.self.view_is, c.self.invariant.count) in
    let at = slice_get_read c.self.inside.nodes.items _ c.args.core c.index_mut.result.now refl lt c.index_mut.ensures.value in
    still-running g.M.Sequenced.spec g.M.Sequenced.refines v c.args.core c.index_mut.result.now c.retreat.new.self c.self.inside.network c.self.inside.signed c.ends.new.hashed c.self.invariant lt at c.retreat.ensures.same
    (same-network g.M.Sequenced.spec g.M.Sequenced.refines v c.self.invariant)

pub returns-in-Some-clause-happened : goal.returns-in-Some-clause-happened
returns-in-Some-clause-happened g c =
    let v : SimulationState g.row.M.Denot g.row.M-Msg.Denot = record { setup = c.self.inside.members; nodes = c.self.inside.nodes.items; network = c.self.inside.network; signed = c.self.inside.signed; hashed = c.self.inside.hashed } in
    let lt : c.args.core < length c.self.inside.nodes.items = omega (arith, ap (λ (z : SimulationState _ _). cores_of z.setup) c.self.view_is, c.self.invariant.count) in
    let at = slice_get_read c.self.inside.nodes.items _ c.args.core c.index_mut.result.now refl lt c.index_mut.ensures.value in
    rw (← c.self.view_is) (λ w event t b made.
    turn-ended g.M.Sequenced.spec g.M.Sequenced.refines v c.args.core c.self.invariant lt w event t c.args.slots c.args.epoch.0 b c.index_mut.result.now c.retreat.new.self at
    c.retreat.ensures.log c.retreat.ensures.epoch c.retreat.ensures.stale c.retreat.ensures.journal.1 c.retreat.ensures.same c.self.inside.network c.self.inside.signed c.ends.new.hashed refl refl
    c.args.outcome.now c.in-Some.end made
    (kept-end c.in_ok-ended.ended c.in-Some.end (ends_by c.self.inside.members w.held.signed w.held.hashed c.args.outcome.now.early c.args.outcome.now.hashed)
    c.in-Some.is (c.in_ok-ended.ensures.told w.held.signed w.held.hashed b.signed b.hashed)))

pub returns-in_ok-post_all-in-None-clause-happened : goal.returns-in_ok-post_all-in-None-clause-happened
returns-in_ok-post_all-in-None-clause-happened g c =
    let v : SimulationState g.row.M.Denot g.row.M-Msg.Denot = record { setup = c.self.inside.members; nodes = c.self.inside.nodes.items; network = c.self.inside.network; signed = c.self.inside.signed; hashed = c.self.inside.hashed } in
    let lt : c.args.core < length c.self.inside.nodes.items = omega (arith, ap (λ (z : SimulationState _ _). cores_of z.setup) c.self.view_is, c.self.invariant.count) in
    let net : Network = posted_all c.self.inside.members c.self.inside.network c.args.core c.as_slice.result.now in
    rw (← c.self.view_is) (λ w event t b made.
    rw c.in_ok-post_all-in-None.ensures.posted
    (turn-refines g.M.Sequenced.spec g.M.Sequenced.refines v c.args.core c.self.invariant lt w event t c.args.slots c.args.epoch.0 b c.args.outcome.now net c.book_own.new.signed c.share.new.self made
    (no-end c.in_ok-ended.ended (ends_by c.self.inside.members w.held.signed w.held.hashed c.args.outcome.now.early c.args.outcome.now.hashed)
    c.in-None.is (c.in_ok-ended.ensures.told w.held.signed w.held.hashed b.signed b.hashed))
    (ap (λ (xs : List (To × List ℕ)). posted_all c.self.inside.members c.self.inside.network c.args.core xs) c.as_slice.ensures)
    (subst (λ (cs : List Claim). AreSigned c.book_own.new.signed (booked c.self.inside.members c.args.core cs ++ w.held.signed)) c.as_slice-own.ensures (c.in_ok-book_own-in-None.ensures w.held.signed b.signed))
    (c.in_ok-share-in-None.ensures (push_all c.args.outcome.now.hashed w.held.hashed)
    (c.in_ok-ended.ensures.booked w.held.hashed b.hashed c.in-None.is))))

pub retreat-requires-clause-slots : goal.retreat-requires-clause-slots
retreat-requires-clause-slots g c =
    let lt : c.args.core < length c.self.inside.nodes.items = omega (arith, ap (λ (z : SimulationState _ _). cores_of z.setup) c.self.view_is, c.self.invariant.count) in
    let at = slice_get_read c.self.inside.nodes.items _ c.args.core c.index_mut.result.now refl lt c.index_mut.ensures.value in
    (subst (λ (z : SimulationState _ _). MayRetreat z c.args.core c.args.slots c.args.epoch.0) (sym c.self.view_is) c.requires.retreat c.index_mut.result.now at).0

pub retreat-requires-clause-epoch : goal.retreat-requires-clause-epoch
retreat-requires-clause-epoch g c =
    let lt : c.args.core < length c.self.inside.nodes.items = omega (arith, ap (λ (z : SimulationState _ _). cores_of z.setup) c.self.view_is, c.self.invariant.count) in
    let at = slice_get_read c.self.inside.nodes.items _ c.args.core c.index_mut.result.now refl lt c.index_mut.ensures.value in
    (subst (λ (z : SimulationState _ _). MayRetreat z c.args.core c.args.slots c.args.epoch.0) (sym c.self.view_is) c.requires.retreat c.index_mut.result.now at).1
