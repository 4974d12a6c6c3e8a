use Rattle.std.proofs.Common.{sym}
use Rattle.iss_sb.specs.declared.effects.Input.TheVariants.{Cast}
use Rattle.sb_pbft.proofs.Refinement.RulesCompose.{does-nothing}
use Rattle.sb_pbft.proofs.Refinement.ProposalRefines.{cast-idle}
use Rattle.sb_pbft.proofs.pbft.Pbft.cast.Goals as goal

pub returns-then-not-may_cast : goal.returns-then-not-may_cast
returns-then-not-may_cast c =
    does-nothing c.args.context.now.p.now (Cast c.args.slot c.args.batch) c.args.self.now c.args.keys.now _
    (cast-idle c.args.context.now.p.now c.args.self.now c.args.slot c.args.batch c.args.keys.now.used (sym c.if-not-may_cast.ensures)) c.nothing-effects.ensures

pub returns : goal.returns
returns c = c.in_ok-propose.ensures c.nothing-effects.ensures
