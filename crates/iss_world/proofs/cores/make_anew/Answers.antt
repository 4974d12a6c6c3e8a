use Rattle.std.proofs.Common.{arith, ◌≡◌, ◌∙◌, ◌<◌, ◌^◌, ap, subst, ℕ, Result, Err}
use Rattle.iss_journal.specs.declared.errors.AttachError.{AttachError}
use Rattle.iss_journal.specs.declared.errors.AttachError.TheVariants.{Damaged}
use Rattle.iss_request.specs.declared.ids.NodeId.{NodeId}
use Rattle.iss_request.specs.declared.setups.Setup.{Setup}
use Rattle.iss_rules.specs.Setups.{IsSetupOf}
use Rattle.iss_world.proofs.OverLemmas.{not-damaged, reopened-over}
use Rattle.iss_world.proofs.cores.make_anew.Goals as goal

pub unreachable-requires-in-Err-Damaged : goal.unreachable-requires-in-Err-Damaged
unreachable-requires-in-Err-Damaged g c =
    let whole = c.requires.whole in
    let is : c.reopen.result ≡ Err (Damaged c.in-Err-Damaged.field-0-0) =
    c.in-Err-Damaged.is ∙ ap (λ (e : AttachError). let r : Result (Unit {0}) AttachError = Err e in r) c.in-Err-Damaged.field-0-is in
    let few : c.epoch-epoch.result.0 < 2 ^ 64 = omega arith in
    let good = subst (λ (s : Setup). IsSetupOf g.M.Sequenced.spec s) c.setup-setup.ensures.same c.setup-setup.ensures.good in
    let low = subst (λ (i : NodeId). i.0 < c.args.node.now.setup.n) c.me-me.ensures.same c.me-me.ensures.member in
    not-damaged g.M.Sequenced.spec g.M.Sequenced.refines c.args.node.now c.reopen.new.self c.reopen.ensures.same c.a_file_has_one_reading.ensures.one whole.0 whole.1 whole.2
    (c.a_journal_recovers.ensures c.args.node.now.setup good c.args.node.now.me.0 low)
    (subst (λ (n : ℕ). n < 2 ^ 64) c.epoch-epoch.ensures.shown few)
    c.in-Err-Damaged.field-0-0 (c.reopen.ensures.refused c.in-Err-Damaged.field-0-0 is).damaged

pub returns-in-Ok-clause-anew : goal.returns-in-Ok-clause-anew
returns-in-Ok-clause-anew g c = λ events d leads.
    let few : c.epoch-epoch.result.0 < 2 ^ 64 = omega arith in
    let good = subst (λ (s : Setup). IsSetupOf g.M.Sequenced.spec s) c.setup-setup.ensures.same c.setup-setup.ensures.good in
    let low = subst (λ (i : NodeId). i.0 < c.args.node.now.setup.n) c.me-me.ensures.same c.me-me.ensures.member in
    reopened-over g.M.Sequenced.spec g.M.Sequenced.refines c.args.node.now c.reopen.new.self c.reopen.ensures.same c.a_file_has_one_reading.ensures.one events d leads
    (c.a_journal_recovers.ensures c.args.node.now.setup good c.args.node.now.me.0 low)
    (subst (λ (n : ℕ). n < 2 ^ 64) c.epoch-epoch.ensures.shown few) _
    c.in-Ok.ensures.reopened.core.0 c.requires.works c.in-Ok.ensures.reopened.core.1 c.in-Ok.ensures.reopened.core.2 c.nodes_stand_for_slims.ensures c.in-Ok.ensures.reopened.attached c.reopen.ensures.loses
