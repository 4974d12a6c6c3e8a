use Rattle.iss_model.specs.Node.{finish_step, step, try_step}
use Rattle.iss_rules.specs.declared.events.NodeEvent.TheVariants.{Propose as On_propose}
use Rattle.iss_node.proofs.Steps.VotesDoNotMatter.{fired-held, proposed-held}
use Rattle.iss_node.proofs.Instances.ChecksRefine.{later-trans}
use Rattle.iss_node.proofs.Steps.StepsCompose.{held-ok, settled-ok}
use Rattle.iss_sb.specs.declared.effects.Input.TheVariants.{Timeout}
use Rattle.iss_node.proofs.EpochEnd.LeafIsKept.{to-complete}
use Rattle.iss_node.specs.State.{core_of}
use Rattle.iss_rules.specs.Concrete.{rules_of}
use Rattle.iss_rules.specs.Formats.{formats_of}
use Rattle.iss_node.proofs.state.NodeState.turn.Goals as goal

pub returns-in-Propose-clause-answer : goal.returns-in-Propose-clause-answer
returns-in-Propose-clause-answer g c =
    let m = g.M.Sequenced.spec in
    rw c.in-Propose.is (held-ok m g.M.Sequenced.refines c.args.self.now c.propose.new.self c.propose.ensures.later (λ F R me d. step F R m me d On_propose) (Unit {0}) c.propose.result
    (λ F R me votes certs d. proposed-held F R m me votes certs d) c.propose.ensures.answer)

pub returns-in_ok-step-in-Timeout-clause-answer : goal.returns-in_ok-step-in-Timeout-clause-answer
returns-in_ok-step-in-Timeout-clause-answer g c =
    let m = g.M.Sequenced.spec in
    let v = c.args.self.now in
    let mid = c.try_step.new.self in
    let w = c.finish_step.new.self in
    let l = c.in-Timeout.leader.0 in
    rw c.in-Timeout.is (held-ok m g.M.Sequenced.refines v w (later-trans v mid w c.in_ok-step-in-Timeout.ensures.later c.finish_step.ensures.later)
    (λ F R me d. finish_step F R m me (try_step F R m me d l Timeout)) (Unit {0}) c.finish_step.result (λ F R me votes certs d. fired-held F R m me votes certs l d)
    (settled-ok m g.M.Sequenced.refines v mid w (λ F R me d. try_step F R m me d l Timeout) c.in_ok-step-in-Timeout.step c.finish_step.result c.in_ok-step-in-Timeout.ensures.later
    c.in_ok-step-in-Timeout.ensures.answer c.finish_step.ensures.answer))

pub finish_step-requires : goal.finish_step-requires
finish_step-requires g c =
    let m = g.M.Sequenced.spec in
    let v = c.args.self.now in
    to-complete m g.M.Sequenced.refines v c.try_step.new.self (λ past. try_step (formats_of v.setup m) (rules_of v.setup) m v.me.0 (core_of v past) c.in-Timeout.leader.0 Timeout)
    c.in_ok-step-in-Timeout.step c.requires c.in_ok-step-in-Timeout.ensures.answer c.in_ok-step-in-Timeout.ensures.tried
