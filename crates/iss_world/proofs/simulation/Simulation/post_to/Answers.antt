use Rattle.std.proofs.Common.{◌<◌, ℕ, is_ok, subst, sym}
use Rattle.iss_model.specs.Run.{cores_of}
use Rattle.iss_network.specs.Network.{Network}
use Rattle.iss_world.specs.Internal.Shape.{IsNetworkOf}
use Rattle.iss_world.specs.State.{SimulationState}
use Rattle.iss_world.proofs.PostLemmas.{between-posted}
use Rattle.iss_world.proofs.StepLemmas.{with-network}
use Rattle.iss_world.proofs.simulation.Simulation.post_to.Goals as goal

pub invariant_of-self-2 : goal.invariant_of-self-2
invariant_of-self-2 g c =
    let v : SimulationState g.row.M.Denot g.row.M-Msg.Denot = record { setup = c.self.inside.members; nodes = c.self.inside.nodes.items; network = c.self.inside.network; signed = c.self.inside.signed; hashed = c.self.inside.hashed } in
    let from = subst (λ (z : SimulationState _ _). c.args.from < cores_of z.setup) (sym c.self.view_is) c.requires.from in
    let core = subst (λ (z : SimulationState _ _). c.args.core < cores_of z.setup) (sym c.self.view_is) c.requires.core in
    let there : IsNetworkOf (cores_of c.self.inside.members) c.post.new.self =
    subst (λ (w : Network). IsNetworkOf (cores_of c.self.inside.members) w) (sym c.post.ensures)
    (between-posted (is_ok c.post.result) (cores_of c.self.inside.members) c.self.inside.network _ c.self.invariant.network from core) in
    with-network g.M.Sequenced.spec g.M.Sequenced.refines v c.post.new.self c.self.inside.signed c.self.inside.hashed c.self.invariant
    (subst (λ (k : ℕ). IsNetworkOf k c.post.new.self) (sym c.self.invariant.count) there)
