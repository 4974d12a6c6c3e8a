use Rattle.std.proofs.Common.{subst, sym}
use Rattle.iss_rules.specs.Setups.{IsSetupOf}
use Rattle.iss_request.specs.declared.setups.Setup.{Setup}
use Rattle.iss_theorems.specs.Headline.{course_after}
use Rattle.iss_schedule.specs.Events.{IsInRange}
use Rattle.iss_world.specs.Refines.{awake}
use Rattle.iss_world.specs.State.{WorldState}
use Rattle.iss_world.proofs.HeadlineLemmas.{headline-more}
use Rattle.iss_world.proofs.WorldLemmas.{awake-at}
use Rattle.iss_world.proofs.world.World.event.Goals as goal

pub returns-in-Ok-clause-happened : goal.returns-in-Ok-clause-happened
returns-in-Ok-clause-happened g c =
    rw (← c.self.view_is)
    (λ p st. c.in-Ok.ensures.happened p (awake-at g.M.Sequenced.spec g.M.Sequenced.refines c.self.inside.simulation c.self.inside.ended c.self.inside.stale p c.if-self.false st))

pub returns-in-Ok-clause-headline : goal.returns-in-Ok-clause-headline
returns-in-Ok-clause-headline g c =
    rw (← c.self.view_is)
    (λ events range st answered.
    let m = g.M.Sequenced.spec in
    let s = c.self.inside.simulation.setup in
    let inside = subst (λ (z : WorldState _ _). IsInRange z.simulation.setup c.args.event.now) (sym c.self.view_is) c.requires in
    let good = subst (λ (t : Setup). IsSetupOf m t) c.setup-setup.ensures.same c.setup-setup.ensures.good in
    headline-more m g.M.Sequenced.refines s (c.restarts_change_nothing.ensures s good) (c.leaves_are_of_one_statement.ensures.signs s good)
    (awake c.run_event.new.simulation c.run_event.new.ended) events c.args.event.now c.in-Ok.happened range inside
    (c.in-Ok.ensures.happened (course_after s m events)
    (awake-at m g.M.Sequenced.refines c.self.inside.simulation c.self.inside.ended c.self.inside.stale (course_after s m events) c.if-self.false st)) answered)

pub returns-in-Ok-clause-silent : goal.returns-in-Ok-clause-silent
returns-in-Ok-clause-silent g c =
    rw (← c.self.view_is)
    (λ p st going answered. c.in-Ok.ensures.silent p (awake-at g.M.Sequenced.spec g.M.Sequenced.refines c.self.inside.simulation c.self.inside.ended c.self.inside.stale p c.if-self.false st) going)
