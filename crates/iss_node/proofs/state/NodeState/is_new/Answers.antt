use Rattle.std.proofs.Common.{◌≡◌, ◌∙◌, ◌&&◌, Bool, true, false, not, nat_le, ap, subst, sym}
use Rattle.iss_checkpoint.specs.Votes.{is_cert, voters_of}
use Rattle.iss_keys.specs.Directories.{DirectoryView}
use Rattle.iss_node.proofs.Snapshots.BytesAreRead.{check-is}
use Rattle.iss_node.specs.Internal.Rebuilding.{after}
use Rattle.iss_node.specs.Internal.Shape.{IsNodeState}
use Rattle.iss_node.specs.Saved.{holds}
use Rattle.iss_node.specs.State.{StateView}
use Rattle.iss_rules.specs.Concrete.{rules_of}
use Rattle.iss_rules.specs.Votes.{is_true_cert}
use Rattle.iss_node.proofs.state.NodeState.is_new.Goals as goal

pub returns-then-not-holds : goal.returns-then-not-holds
returns-then-not-holds g c =
    let m = g.M.Sequenced.spec in
    let v = c.args.self.now in
    let cert = c.args.cert.now in
    let shape : IsNodeState m v = subst (λ (z : StateView g.row.M.Denot g.row.M-Msg.Denot). IsNodeState m z) c.self.view_is c.self.invariant in
    let above : true ≡ nat_le (after c.args.last) cert.epoch.0 = sym c.if-is_above.true ∙ c.is_above.ensures in
    let none : false ≡ holds v.saved cert.epoch.0 =
    sym c.if-not-holds.true ∙ (c.holds.ensures ∙ ap (λ (z : StateView g.row.M.Denot g.row.M-Msg.Denot). holds z.saved cert.epoch.0) c.self.view_is) in
    c.check.ensures
    ∙ (ap (λ (d : DirectoryView). is_cert (voters_of c.self.inside.setup d) cert) c.directory.ensures
    ∙ (ap (λ (z : StateView g.row.M.Denot g.row.M-Msg.Denot). is_cert (voters_of z.setup z.directory) cert) c.self.view_is
    ∙ (check-is m v shape cert
    ∙ (ap (λ (h : Bool). not h && is_true_cert (rules_of v.setup) cert) none
    ∙ ap (λ (a : Bool). a && (not (holds v.saved cert.epoch.0) && is_true_cert (rules_of v.setup) cert)) above))))
