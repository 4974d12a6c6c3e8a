use Rattle.std.proofs.Common.{◌≡◌, ◌∙◌, List, ap, subst}
use Rattle.iss_layout.specs.Layout.{Ended, IsStanding, conduct_of, plan_by}
use Rattle.iss_node.proofs.EpochEnd.NextEpochStarts.{begun-so, opened-shape}
use Rattle.iss_node.specs.Internal.Epochs.{AreStarted}
use Rattle.iss_node.specs.State.{StateView}
use Rattle.iss_node.proofs.state.NodeState.open.Goals as goal

pub invariant_of-self : goal.invariant_of-self
invariant_of-self g c =
    opened-shape g.M.Sequenced.spec g.M.Sequenced.refines _ c.self.invariant c.args.epoch.0 c.args.start _ c.of-layout.result c.in_ok-segments.segments.items (rw (← c.self.view_is) at c.requires) c.of-layout.ensures.carried
    c.in_ok-segments.ensures.started c.in_ok-segments.ensures.count c.new.result.items c.new-2.result

pub start_segments-requires-clause-member : goal.start_segments-requires-clause-member
start_segments-requires-clause-member g c = record { good = c.self.invariant.good; directory = c.self.invariant.directory; me = c.self.invariant.me }

pub returns-clause-opened : goal.returns-clause-opened
returns-clause-opened g c = record {
  plan = subst (λ (z : StateView g.row.M.Denot g.row.M-Msg.Denot). (past : List Ended) → IsStanding z.setup past z.standing → c.of-layout.result ≡ plan_by z.setup c.args.epoch.0 c.args.start (conduct_of past)) c.self.view_is c.of-layout.ensures.past;
  started = subst (λ (z : StateView g.row.M.Denot g.row.M-Msg.Denot). AreStarted g.M.Sequenced.refines z.setup z.me c.args.epoch.0 c.of-layout.result c.in_ok-segments.segments.items) c.self.view_is c.in_ok-segments.ensures.started;
  rest =
      let made : StateView g.row.M.Denot g.row.M-Msg.Denot → StateView g.row.M.Denot g.row.M-Msg.Denot =
      λ z. record z { epoch = c.args.epoch.0; plan = c.of-layout.result; segments = c.in_ok-segments.segments.items; accepted = c.new.result.items; logged = c.new-2.result } in
      ap made c.self.view_is ∙ begun-so c.args.self.now c.args.epoch.0 c.of-layout.result c.in_ok-segments.segments.items c.new.result.items c.new-2.result c.new.ensures.items c.new-2.ensures;
}
