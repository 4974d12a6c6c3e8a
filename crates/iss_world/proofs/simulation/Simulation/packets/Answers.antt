use Rattle.std.proofs.Common.{◌∙◌, ap, subst, sym}
use Rattle.iss_model.specs.Run.{cores_of}
use Rattle.iss_network.specs.Network.{Network}
use Rattle.iss_network.specs.declared.packets.Sent.{Sent}
use Rattle.std.proofs.Common.{List}
use Rattle.iss_world.specs.State.{AreBetweenCores}
use Rattle.iss_world.proofs.StepLemmas.{network-shown}
use Rattle.iss_world.proofs.simulation.Simulation.packets.Goals as goal

pub returns-clause-shown : goal.returns-clause-shown
returns-clause-shown g c = λ w k.
    c.packets.ensures ∙ ap (λ (u : Network). u.packets) (ap (λ v. v.network) c.self.view_is ∙ network-shown g.M.Sequenced.spec g.M.Sequenced.refines _ w k)

pub returns-clause-between : goal.returns-clause-between
returns-clause-between g c =
    rw (← c.self.view_is)
    (subst (λ (ps : List Sent). AreBetweenCores (cores_of c.self.inside.members) ps) (sym c.packets.ensures) c.self.invariant.network.packets)
