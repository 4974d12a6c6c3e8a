use Rattle.std.proofs.Common.{arith, ◌∙◌, ℕ, ◌++◌, ◌∷◌, [], ◌<◌, List, ap, length, refl}
use Rattle.iss_model.specs.Frames.{frame_of}
use Rattle.iss_node.proofs.EpochEnd.SnapshotIsMade.{packets-next}
use Rattle.iss_node.specs.State.{StateView, seen_one}
use Rattle.iss_rebuilt.specs.Stored.{early_parcel}
use Rattle.iss_rules.specs.Formats.{formats_of}
use Rattle.iss_node.proofs.state.NodeState.packets_of.Goals as goal

pub loop-message-preserved : goal.loop-message-preserved
loop-message-preserved g c =
    let m = g.M.Sequenced.spec in
    let v = c.args.self.now in
    let x = c.message-item.result in
    let lt : c.loop-message.message-index < length c.args.early.now = omega (arith, c.loop-message-test.true) in
    c.in_ok-push.ensures.ok
    ∙ ap (λ (b : List ℕ). c.loop-message.packets ++ b ∷ [])
    (c.in_ok-wrap.ensures c.self.inside.setup refl ∙ ap (λ (z : StateView g.row.M.Denot g.row.M-Msg.Denot). (formats_of z.setup m).wrap (early_parcel z.epoch (seen_one x))) c.self.view_is)
    ∙ ap (λ (zs : List (List ℕ)). zs ++ (formats_of v.setup m).wrap (early_parcel v.epoch (seen_one x)) ∷ []) c.loop-message.invariant
    ∙ packets-next (frame_of v.setup m) v.epoch c.args.early.now c.loop-message.message-index x lt c.message-item.is
