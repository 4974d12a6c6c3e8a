use Rattle.std.proofs.Common.{sym}
use Rattle.iss_request.specs.declared.requests.Value.TheVariants.{Batch as Value_batch}
use Rattle.iss_sb.specs.declared.effects.Input.TheVariants.{Receive}
use Rattle.pbft_wire.specs.Signed.{PrePrepare}
use Rattle.sb_pbft.proofs.Refinement.RulesCompose.{does-nothing}
use Rattle.sb_pbft.proofs.Refinement.ProposalRefines.{told-idle}
use Rattle.sb_pbft.proofs.pbft.Pbft.take_pre_prepare.Goals as goal

pub returns-then-not-may_take : goal.returns-then-not-may_take
returns-then-not-may_take c =
    let x = c.args.offer in
    does-nothing c.args.context.now.p.now (Receive x.from (PrePrepare x.view x.slot (Value_batch c.args.batch) x.sig)) c.args.self.now c.args.keys.now _
    (told-idle c.args.context.now.p.now c.args.self.now x.slot c.args.batch c.args.keys.now.used x.from x.view x.sig (sym c.if-not-may_take.ensures)) c.nothing-effects.ensures

pub returns : goal.returns
returns c = c.in_ok-follow.ensures c.nothing-effects.ensures
