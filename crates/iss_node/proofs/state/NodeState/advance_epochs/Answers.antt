use Rattle.std.proofs.Common.{◌∙◌, true, false, subst, sym}
use Rattle.std.proofs.lemmas.Result.{IfOk-weaker}
use Rattle.iss_model.specs.Node.{advance_epochs, takes_each, then_turn}
use Rattle.iss_node.proofs.EpochEnd.NextEpochStarts.{is-over}
use Rattle.iss_node.proofs.EpochEnd.StepCompletes.{settles-not, settles-on}
use Rattle.iss_node.specs.Internal.Epochs.{appended}
use Rattle.iss_node.specs.State.{seen_early}
use Rattle.iss_node.specs.Steps.{IsTurnBehind}
use Rattle.iss_node.specs.declared.answers.Outcome.{Outcome}
use Rattle.iss_node.proofs.EpochEnd.LeafIsKept.{may-vote}
use Rattle.iss_node.proofs.state.NodeState.advance_epochs.Goals as goal

pub returns-clause-turn : goal.returns-clause-turn
returns-clause-turn g c =
    let m = g.M.Sequenced.spec in
    let u = c.end_epoch.new.self in
    let vote = c.in_ok-vote.vote in
    let early = c.in_ok-vote.early in
    let all = appended c.args.outcome vote in
    IfOk-weaker c.take_each.result
    (λ o. IsTurnBehind m g.M.Sequenced.refines u (λ F R me t. then_turn t (takes_each F R m me u.epoch (seen_early early.items))) c.append_outcome.new.all c.take_each.new.self o)
    (λ o. IsTurnBehind m g.M.Sequenced.refines c.args.self.now (λ F R me t. advance_epochs F R m me t) c.args.outcome c.take_each.new.self o)
    (λ o h. settles-on m g.M.Sequenced.refines c.args.self.now u c.take_each.new.self c.args.outcome vote o early.items
    (is-over m g.M.Sequenced.refines c.args.self.now c.is_complete.result true c.is_complete.ensures c.if-not-is_complete.false) c.in_ok-vote.ensures.ended c.in_ok-vote.ensures.later
    (subst (λ (z : Outcome). IsTurnBehind m g.M.Sequenced.refines u (λ F R me t. then_turn t (takes_each F R m me u.epoch (seen_early early.items))) z c.take_each.new.self o) c.in_ok-append_outcome.ensures h))
    c.take_each.ensures.turn

pub returns-then-not-is_complete-clause-turn : goal.returns-then-not-is_complete-clause-turn
returns-then-not-is_complete-clause-turn g c =
    let m = g.M.Sequenced.spec in
    settles-not m g.M.Sequenced.refines c.args.self.now c.args.outcome (is-over m g.M.Sequenced.refines c.args.self.now c.is_complete.result false c.is_complete.ensures c.if-not-is_complete.true)

pub end_epoch-requires : goal.end_epoch-requires
end_epoch-requires g c = may-vote g.M.Sequenced.spec g.M.Sequenced.refines c.args.self.now c.requires (sym c.is_complete.ensures ∙ c.if-not-is_complete.false)
