use Rattle.std.proofs.Common.{Some, subst, sym}
use Rattle.iss_model.specs.Frames.{frame_of}
use Rattle.iss_node.proofs.Snapshots.NodeIsWoken.{is-open, wakes, woken-so}
use Rattle.iss_node.specs.Rebuilding.{IsOf, RebuildingView, RefinesRebuilt}
use Rattle.iss_rebuilt.specs.Reading.{woken, woken_of}
use Rattle.iss_node.proofs.rebuilding.Rebuilding.finish.Goals as goal

pub take_each-requires-clause-lasts : goal.take_each-requires-clause-lasts
take_each-requires-clause-lasts g c = is-open g.M.Sequenced.spec g.M.Sequenced.refines c.self.inside.state c.self.inside.early.items c.self.invariant.0 c.self.invariant.1

pub of-requires : goal.of-requires
of-requires g c =
    let m = g.M.Sequenced.spec in
    let v = c.self.inside.state in
    let r = c.self.invariant.0 in (
      (woken (frame_of v.setup m) v.me.0 r.core).core,
      wakes m g.M.Sequenced.refines v c.self.inside.early.items r c.self.invariant.1 c.take_each.new.self c.take_each.ensures.later c.nothing.result c.in-Ok.outcome c.nothing.ensures c.in-Ok.ensures.turn,
    )

pub returns-in-Ok-clause-woken : goal.returns-in-Ok-clause-woken
returns-in-Ok-clause-woken g c = λ r h.
    let m = g.M.Sequenced.spec in
    let v = c.self.inside.state in
    let here = subst (λ (z : RebuildingView g.row.M.Denot g.row.M-Msg.Denot). RefinesRebuilt m g.M.Sequenced.refines z r) (sym c.self.view_is) h in
    subst (λ (z : RebuildingView g.row.M.Denot g.row.M-Msg.Denot). IsOf m g.M.Sequenced.refines (woken_of (frame_of z.state.setup m) z.state.me.0 (Some r)) c.of.result) c.self.view_is
    (woken-so m g.M.Sequenced.refines v c.self.inside.early.items r here c.take_each.new.self c.take_each.ensures.later c.nothing.result c.in-Ok.outcome c.nothing.ensures c.in-Ok.ensures.turn c.of.result c.of.ensures)
