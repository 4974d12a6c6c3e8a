use Rattle.std.proofs.Common.{◌∙◌, sym}
use Rattle.iss_node.proofs.EpochEnd.InstancesStart.{copy-is, good-copy}
use Rattle.iss_node.proofs.starting.params_of.Goals as goal

pub returns-clause-params : goal.returns-clause-params
returns-clause-params g c =
    copy-is c.args.setup.now c.in_ok-copy.field-0 c.args.epoch.0 c.args.leader c.in_ok-slots_of.field-0 c.share.result c.args.layout.now c.in_ok-copy.ensures c.in_ok-slots_of.ensures (c.share.ensures ∙ c.requires.member.directory)

pub returns-clause-good : goal.returns-clause-good
returns-clause-good g c =
    good-copy g.M.Sequenced.spec c.args.setup.now c.in_ok-copy.field-0 c.args.epoch.0 c.args.leader c.in_ok-slots_of.field-0 c.share.result c.args.layout.now c.requires.member.good c.requires.member.me c.requires.plan (sym c.if-not-leads.ensures) c.in_ok-copy.ensures c.in_ok-slots_of.ensures (c.share.ensures ∙ c.requires.member.directory)
