use Rattle.std.proofs.Common.{◌∙◌, ap, subst, sym}
use Rattle.iss_rules.specs.Concrete.{rules_of}
use Rattle.iss_rules.specs.Formats.{formats_of}
use Rattle.iss_model.specs.Node.{or_unchanged, try_step}
use Rattle.iss_node.proofs.Instances.ChecksRefine.{later-trans}
use Rattle.iss_node.proofs.EpochEnd.NextEpochStarts.{early-goes, early-stays}
use Rattle.iss_node.proofs.EpochEnd.LeafIsKept.{may-vote, ready-after}
use Rattle.iss_node.proofs.EpochEnd.StepCompletes.{tried-so}
use Rattle.iss_node.proofs.Wire.ClaimsAgree.{read-message}
use Rattle.iss_node.specs.Internal.Ready.{IsOpen, IsReady}
use Rattle.iss_node.specs.State.{StateView, core_of}
use Rattle.iss_node.specs.Steps.{IsLater, IsTurnOf}
use Rattle.iss_node.specs.declared.answers.Outcome.{Outcome}
use Rattle.iss_sb.specs.declared.effects.Input.TheVariants.{Receive}
use Rattle.iss_node.proofs.state.NodeState.take_early.Goals as goal
use Rattle.iss_node.proofs.state.NodeState.take_early.Goals.{then-is_complete+in_ok-vote+in_ok-append_outcome, else-is_complete}

pub try_step-requires : goal.try_step-requires
try_step-requires g c =
    read-message g.M.Sequenced.spec g.M.Sequenced.refines c.args.self.now c.args.message.from c.args.message.leader c.args.message.msg c.as_slice.result.now c.requires.from (λ past tied. c.as_slice.ensures ∙ c.in_ok-claims.ensures past tied)

pub returns-clause-turn : goal.returns-clause-turn
returns-clause-turn g c =
    let m = g.M.Sequenced.spec in
    let v = c.args.self.now in
    let x = c.args.message in
    let went : IsTurnOf m g.M.Sequenced.refines v (λ F R me d. or_unchanged d (try_step F R m me d x.leader.0 (Receive x.from x.msg))) c.try_step.new.self c.or_nothing-outcome.result =
    tried-so m g.M.Sequenced.refines v c.try_step.new.self (λ F R me d. try_step F R m me d x.leader.0 (Receive x.from x.msg)) c.in_ok-step.step c.or_nothing-outcome.result c.or_nothing-outcome.ensures c.in_ok-step.ensures.answer in
    elim c.if-is_complete.branch [
      | then-is_complete+in_ok-vote+in_ok-append_outcome w ↦ early-goes m g.M.Sequenced.refines v c.try_step.new.self c.in_ok-step.ensures.later x c.or_nothing-outcome.result c.is_complete.result c.is_complete.ensures went c.in_ok-claims.claims c.in_ok-claims.ensures c.with_early.result
          w.end_epoch.new.self c.if-is_complete.self w.self-is w.if-is_complete.true w.in_ok-vote.vote _ w.in_ok-vote.ensures.ended w.in_ok-vote.ensures.later
          (c.with_early.ensures ∙ ap (λ (z : Outcome). let o : Outcome = record z { early = c.in_ok-claims.claims } in o) (w.outcome-is ∙ w.in_ok-append_outcome.ensures))
      | else-is_complete w ↦ early-stays m g.M.Sequenced.refines v c.try_step.new.self c.in_ok-step.ensures.later x c.or_nothing-outcome.result c.is_complete.result c.is_complete.ensures went c.in_ok-claims.claims c.in_ok-claims.ensures c.with_early.result
          c.if-is_complete.self w.self-is w.if-is_complete.false
          (c.with_early.ensures ∙ ap (λ (z : Outcome). let o : Outcome = record z { early = c.in_ok-claims.claims } in o) w.outcome-is)
    ]

pub returns-clause-later : goal.returns-clause-later
returns-clause-later g c = elim c.if-is_complete.branch [
  | then-is_complete+in_ok-vote+in_ok-append_outcome w ↦ subst (λ (z : StateView g.row.M.Denot g.row.M-Msg.Denot). IsLater c.args.self.now z) (sym w.self-is)
      (later-trans c.args.self.now c.try_step.new.self w.end_epoch.new.self c.in_ok-step.ensures.later w.in_ok-vote.ensures.later)
  | else-is_complete w ↦ subst (λ (z : StateView g.row.M.Denot g.row.M-Msg.Denot). IsLater c.args.self.now z) (sym w.self-is) c.in_ok-step.ensures.later
]

pub end_epoch-requires : goal.end_epoch-requires
end_epoch-requires g c =
    let m = g.M.Sequenced.spec in
    let v = c.args.self.now in
    let x = c.args.message in
    let ready = ready-after m g.M.Sequenced.refines v c.try_step.new.self (λ past. try_step (formats_of v.setup m) (rules_of v.setup) m v.me.0 (core_of v past) x.leader.0 (Receive x.from x.msg))
    c.in_ok-step.step c.requires.lasts c.in_ok-step.ensures.answer c.in_ok-step.ensures.tried in
    may-vote m g.M.Sequenced.refines c.try_step.new.self ready (sym c.is_complete.ensures ∙ c.if-is_complete.true)

pub returns-clause-goes_on : goal.returns-clause-goes_on
returns-clause-goes_on g c =
    let m = g.M.Sequenced.spec in
    let v = c.args.self.now in
    let x = c.args.message in
    let ready : IsReady m g.M.Sequenced.refines c.try_step.new.self = ready-after m g.M.Sequenced.refines v c.try_step.new.self (λ past. try_step (formats_of v.setup m) (rules_of v.setup) m v.me.0 (core_of v past) x.leader.0 (Receive x.from x.msg))
    c.in_ok-step.step c.requires.lasts c.in_ok-step.ensures.answer c.in_ok-step.ensures.tried in
    elim c.if-is_complete.branch [
      | then-is_complete+in_ok-vote+in_ok-append_outcome w ↦ subst (λ (z : StateView g.row.M.Denot g.row.M-Msg.Denot). IsOpen m g.M.Sequenced.refines z) (sym w.self-is) w.in_ok-vote.ensures.begun
      | else-is_complete w ↦ subst (λ (z : StateView g.row.M.Denot g.row.M-Msg.Denot). IsOpen m g.M.Sequenced.refines z) (sym w.self-is)
          (record { refined = ready.refined; lasts = sym c.is_complete.ensures ∙ w.if-is_complete.false })
    ]
