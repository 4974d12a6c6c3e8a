use Rattle.std.proofs.Common.{◌<◌, subst, sym, ℕ, IsErrOf, OnOk}
use Rattle.iss_cluster.proofs.NodeLemmas.{read-by, reopened-running}
use Rattle.iss_cluster.specs.Nodes.{HasRead, IsRefused}
use Rattle.iss_journal.specs.declared.errors.AttachError.TheVariants.{Damaged}
use Rattle.iss_keep.specs.State.{KeptState}
use Rattle.iss_request.specs.declared.ids.NodeId.{NodeId}
use Rattle.iss_request.specs.declared.setups.Setup.{Setup}
use Rattle.iss_rules.specs.Setups.{IsSetupOf}
use Rattle.iss_cluster.proofs.nodes.RunningNode.reopen.Goals as goal

pub returns-clause-refused : goal.returns-clause-refused
returns-clause-refused g c =
    subst (λ (v : KeptState _ _ _). (at : ℕ) → IsErrOf c.reopen.result (Damaged at) → IsRefused g.M.Sequenced.spec v.setup v.me.0 (g.D.Disk.state v.disk).history (g.D.Disk.state c.reopen.new.self.disk).history at) c.self.view_is
    (λ at q. record { entries = c.reopen.new.self.entries; damaged = (c.reopen.ensures.refused at q).damaged; left = (c.reopen.ensures.refused at q).left })

pub returns-clause-read : goal.returns-clause-read
returns-clause-read g c =
    let m = g.M.Sequenced.spec in
    let new = c.reopen.new.self in
    let good : IsSetupOf m new.setup = subst (λ (s : Setup). IsSetupOf m s) (sym c.reopen.ensures.same.setup) c.self.invariant.good in
    let low : new.me.0 < new.setup.n = subst (λ (s : Setup). new.me.0 < s.n) (sym c.reopen.ensures.same.setup) (subst (λ (i : NodeId). i.0 < c.self.inside.kept.setup.n) (sym c.reopen.ensures.same.me) c.self.invariant.member) in
    subst (λ (v : KeptState _ _ _). OnOk c.reopen.result (HasRead m g.M.Sequenced.refines (g.D.Disk.state v.disk).history new)) c.self.view_is
    (read-by m g.M.Sequenced.refines g.D.Disk.state
    c.self.inside.kept new c.reopen.ensures.same c.nodes_stand_for_slims.ensures (c.a_journal_recovers.ensures new.setup good new.me.0 low)
    c.reopen.result c.reopen.ensures.reopened)

pub invariant_of-self : goal.invariant_of-self
invariant_of-self g c =
    reopened-running g.M.Sequenced.spec g.M.Sequenced.refines g.D.Disk.state
    c.self.inside.kept c.reopen.new.self c.reopen.ensures.same c.self.inside.nodes c.self.inside.me c.reopen.result c.self.invariant c.reopen.ensures.stale c.reopen.ensures.reopened
