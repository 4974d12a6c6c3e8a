use Rattle.std.proofs.Common.{subst}
use Rattle.iss_request.specs.declared.setups.Setup.{Setup}
use Rattle.iss_rules.specs.Setups.{IsSetupOf}
use Rattle.iss_world.proofs.OverLemmas.{answered, at-working}
use Rattle.iss_world.proofs.stepping.take_with_savepoint.Goals as goal

pub returns-clause-answer : goal.returns-clause-answer
returns-clause-answer g c = λ d disk over working of.
    answered g.M.Sequenced.spec g.M.Sequenced.refines c.args.node.now c.take.new.self c.take.ensures.node.same d disk over working c.args.event c.take.result of (subst (λ (s : Setup). IsSetupOf g.M.Sequenced.spec s) c.setup-setup.ensures.same c.setup-setup.ensures.good)
    (c.take.ensures.answer d (at-working g.M.Sequenced.spec g.M.Sequenced.refines c.args.node.now d disk over working)) c.take.ensures.written c.take.ensures.stored c.take.ensures.stale c.take.ensures.node.shown
