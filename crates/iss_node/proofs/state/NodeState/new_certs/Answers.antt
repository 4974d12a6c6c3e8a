use Rattle.std.proofs.Common.{arith, ◌≡◌, ◌≤◌, ◌∙◌, ℕ, suc, ap, sym, add-one}
use Rattle.iss_base.specs.Lists.{below}
use Rattle.iss_node.proofs.EpochEnd.SnapshotIsMade.{certs-from, certs-next}
use Rattle.iss_node.specs.Saved.{holds}
use Rattle.iss_node.specs.State.{StateView}
use Rattle.iss_rebuilt.specs.Stored.{new_certs}
use Rattle.iss_node.proofs.state.NodeState.new_certs.Goals as goal

pub loop-epoch-init : goal.loop-epoch-init
loop-epoch-init g c = λ votes certs kept.
    let v = c.args.self.now in
    let low = c.low.ensures ∙ ap (λ (z : StateView g.row.M.Denot g.row.M-Msg.Denot). z.saved.low) c.self.view_is in
    let under : c.min-low.result ≤ v.saved.low = omega (arith, c.min-low.ensures, low) in
    c.new-certs.ensures ∙ certs-from v.saved certs c.min-low.result under

pub loop-epoch-preserved : goal.loop-epoch-preserved
loop-epoch-preserved g c = λ votes certs kept.
    let v = c.args.self.now in
    c.in_ok-put_new_cert.ensures
    ∙ (certs-next v votes certs kept c.loop-epoch.epoch c.loop-epoch.certs (c.loop-epoch.invariant votes certs kept)
    ∙ ap (λ (k : ℕ). new_certs (holds v.saved) certs (below k)) (sym (add-one c.loop-epoch.epoch)))

pub returns : goal.returns
returns g c = λ votes certs kept.
    let v = c.args.self.now in
    let number = ap (λ (z : StateView g.row.M.Denot g.row.M-Msg.Denot). z.epoch) c.self.view_is in
    let same : c.loop-epoch.epoch ≡ suc (suc v.epoch) = omega (arith, c.in_ok-end.ensures.sum, number) in
    c.loop-epoch.invariant votes certs kept ∙ ap (λ (k : ℕ). new_certs (holds v.saved) certs (below k)) same
