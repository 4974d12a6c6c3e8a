use Rattle.std.proofs.Common.{◌∙◌, false, List, Bool, sym, subst}
use Rattle.std.proofs.lemmas.Result.{on_ok_weaker}
use Rattle.iss_certified.specs.Exported.{certs_shown}
use Rattle.iss_model.specs.Run.{node_of}
use Rattle.iss_request.specs.declared.requests.Value.{Value}
use Rattle.iss_request.specs.declared.setups.Setup.{Setup}
use Rattle.iss_theorems.specs.Headline.{shown}
use Rattle.iss_export.specs.Exporting.{HasPut}
use Rattle.iss_export.proofs.ExportLemmas.{log-shown, put-none, refines-core}
use Rattle.iss_export.proofs.exporting.put_epochs.Goals as goal

pub returns-then-is_silent : goal.returns-then-is_silent
returns-then-is_silent g c = λ p reader r stale.
    let m = g.M.Sequenced.spec in
    let s = c.args.report.now.world.simulation.setup in
    let i = c.args.core in
    let k = p.state.held.net.cores i in
    let log = shown s m p.state.held i in
    let out = c.args.out.now.items in
    let quiet = sym c.if-is_silent.true ∙ (c.is_silent.ensures ∙ stale i c.node-node.result.now c.node-node.ensures.at) in
    subst (λ (b : Bool). HasPut s (certs_shown k b) log out out) quiet (put-none s k log out)

pub returns : goal.returns
returns g c =
    let m = g.M.Sequenced.spec in
    let s = c.args.report.now.world.simulation.setup in
    let i = c.args.core in
    let node = c.node-node.result.now in
    let out = c.args.out.now.items in
    on_ok_weaker c.put_kept.result (λ h p reader r stale.
    let k = p.state.held.net.cores i in
    let fresh = sym c.is_silent.ensures ∙ c.if-is_silent.false in
    let speaks = sym fresh ∙ stale i node c.node-node.ensures.at in
    let put = h k (refines-core m g.M.Sequenced.refines node k s (node_of s i) (p.state.disks i) (c.node-node.ensures.left p r.refined) fresh) in
    let at = subst (λ (t : Setup). HasPut t (certs_shown k false) c.entries.result.now out c.put_kept.new.out.items) c.setup.ensures.same put in
    let log = subst (λ (l : List Value). HasPut s (certs_shown k false) l out c.put_kept.new.out.items)
    (log-shown s m p.state.held i c.entries.result.now c.requires (c.entries.ensures p r.refined)) at in
    subst (λ (b : Bool). HasPut s (certs_shown k b) (shown s m p.state.held i) out c.put_kept.new.out.items) speaks log)
    c.put_kept.ensures
