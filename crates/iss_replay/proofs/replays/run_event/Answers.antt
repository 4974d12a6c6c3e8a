use Rattle.iss_rules.specs.Concrete.{rules_of}
use Rattle.iss_rules.specs.Formats.{formats_of}
use Rattle.iss_replay.proofs.RunLemmas.{has-collided, was-forged, was-lost, went-on}
use Rattle.iss_replay.proofs.replays.run_event.Goals as goal

pub returns-in-Done-clause-went : goal.returns-in-Done-clause-went
returns-in-Done-clause-went g c = λ p n st.
    let s = c.args.world.now.simulation.setup in
    let m = g.M.Sequenced.spec in
    went-on m g.M.Sequenced.refines s (formats_of s m) (rules_of s) c.event.new.self c.args.drops.now p c.args.event.now (c.in-Done.ensures.happened p st.refined) st.end_is st.drops_are

pub returns-in_ok-push-in-Lost-clause-went : goal.returns-in_ok-push-in-Lost-clause-went
returns-in_ok-push-in-Lost-clause-went g c = λ p n st.
    let s = c.args.world.now.simulation.setup in
    let m = g.M.Sequenced.spec in
    was-lost m g.M.Sequenced.refines s (formats_of s m) (rules_of s) c.event.new.self c.args.drops.now c.push.new.self p c.args.event.now c.args.number c.in-Lost.why (c.in-Lost.ensures.happened p st.refined) st.end_is n st.drops_are c.in_ok-push-in-Lost.ensures.ok

pub returns-in-Forged-clause-went : goal.returns-in-Forged-clause-went
returns-in-Forged-clause-went g c = λ p n st.
    let s = c.args.world.now.simulation.setup in
    let m = g.M.Sequenced.spec in
    was-forged m g.M.Sequenced.refines s (formats_of s m) (rules_of s) c.event.new.self c.args.drops.now p c.args.event.now c.args.number c.in-Forged.by c.in-Forged.statement c.in-Forged.sig (c.in-Forged.ensures.happened p st.refined) st.end_is n st.drops_are

pub returns-in-Collision-clause-went : goal.returns-in-Collision-clause-went
returns-in-Collision-clause-went g c = λ p n st.
    let s = c.args.world.now.simulation.setup in
    let m = g.M.Sequenced.spec in
    has-collided m g.M.Sequenced.refines s (formats_of s m) (rules_of s) c.event.new.self c.args.drops.now p c.args.event.now c.args.number c.in-Collision.first c.in-Collision.second (c.in-Collision.ensures.happened p st.refined) st.end_is n st.drops_are

pub returns-in-Done-clause-silent : goal.returns-in-Done-clause-silent
returns-in-Done-clause-silent g c = λ p going st. c.in-Done.ensures.silent p st going tt

pub returns-in_ok-push-in-Lost-clause-silent : goal.returns-in_ok-push-in-Lost-clause-silent
returns-in_ok-push-in-Lost-clause-silent g c = λ p going st. c.in-Lost.ensures.silent p st going tt

pub returns-in-Forged-clause-silent : goal.returns-in-Forged-clause-silent
returns-in-Forged-clause-silent g c = λ p going st. c.in-Forged.ensures.silent p st going tt

pub returns-in-Collision-clause-silent : goal.returns-in-Collision-clause-silent
returns-in-Collision-clause-silent g c = λ p going st. c.in-Collision.ensures.silent p st going tt
