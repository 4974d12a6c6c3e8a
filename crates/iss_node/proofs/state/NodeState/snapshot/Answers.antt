use Rattle.std.proofs.Common.{◌∙◌, ap}
use Rattle.iss_node.proofs.EpochEnd.SnapshotIsMade.{snapshot-is}
use Rattle.iss_node.specs.State.{StateView}
use Rattle.iss_node.proofs.state.NodeState.snapshot.Goals as goal

pub returns : goal.returns
returns g c = λ past votes certs tied kept.
    let from = c.from-from.ensures ∙ ap (λ (z : StateView g.row.M.Denot g.row.M-Msg.Denot). z.saved.from) c.self.view_is in
    let to = ap (λ (z : StateView g.row.M.Denot g.row.M-Msg.Denot). z.epoch) c.self.view_is in
    let waiting = c.in_ok-requests.ensures ∙ ap (λ (z : StateView g.row.M.Denot g.row.M-Msg.Denot). z.waiting) c.self.view_is in
    let counted = c.in_ok-copies_of_votes.ensures ∙ (c.open_votes.ensures ∙ ap (λ (z : StateView g.row.M.Denot g.row.M-Msg.Denot). z.ballots.counted) c.self.view_is) in
    snapshot-is g.M.Sequenced.spec g.M.Sequenced.refines c.args.self.now past tied votes certs kept c.args.early.now _
    from to c.in_ok-epochs_from.ensures (c.next_leaf.ensures tied.keys) waiting (c.in_ok-new_certs.ensures votes certs kept) counted c.in_ok-packets_of.ensures
