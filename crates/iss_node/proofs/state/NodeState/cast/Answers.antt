use Rattle.std.proofs.Common.{◌∙◌, ◌<◌, ℕ, ap, subst, sym}
use Rattle.std.proofs.lemmas.Result.{IfOk-weaker}
use Rattle.iss_rules.specs.Formats.{formats_of}
use Rattle.iss_model.specs.Node.{step_unjudged}
use Rattle.iss_node.proofs.Instances.ProposalRefines.{cast-turned}
use Rattle.iss_node.proofs.EpochEnd.NextEpochStarts.{uncut-shape}
use Rattle.iss_node.specs.Internal.Casts.{casting}
use Rattle.iss_node.specs.Internal.Shape.{IsNodeState}
use Rattle.iss_node.specs.State.{StateView}
use Rattle.iss_node.specs.Steps.{IsTurnOf}
use Rattle.iss_sb.specs.declared.effects.Input.TheVariants.{Cast}
use Rattle.iss_node.proofs.EpochEnd.LeafIsKept.{leaves-cut}
use Rattle.iss_node.specs.Internal.Ready.{HasLeaves}
use Rattle.iss_node.proofs.state.NodeState.cast.Goals as goal

pub returns-clause-taken : goal.returns-clause-taken
returns-clause-taken g c =
    let m = g.M.Sequenced.spec in
    let v = c.args.self.now in
    let cut = c.in_ok-batch.ensures.cut in
    let after : IsNodeState m c.cut.new.self = subst (λ (z : StateView g.row.M.Denot g.row.M-Msg.Denot). IsNodeState m z) c.step_unjudged.view_is c.step_unjudged.invariant in
    let shape : IsNodeState m v = uncut-shape m v c.cut.new.self c.args.slot c.in_ok-batch.batch cut after in
    IfOk-weaker c.step_unjudged-2.result
    (λ o. IsTurnOf m g.M.Sequenced.refines c.cut.new.self (λ F R me d. step_unjudged F R m me d c.step_unjudged.inside.me.0 (Cast c.args.slot c.in_ok-batch.batch)) c.step_unjudged-2.new.self o)
    (λ o. IsTurnOf m g.M.Sequenced.refines v (λ F R me d. casting F R m me d c.args.slot) c.step_unjudged-2.new.self o)
    (λ o h past tied. cast-turned m g.M.Sequenced.refines v shape past tied (formats_of v.setup m) c.cut.new.self c.args.slot c.in_ok-batch.batch cut c.step_unjudged-2.new.self o c.step_unjudged.inside.me.0 (ap (λ z. z.me.0) c.step_unjudged.view_is) h)
    c.step_unjudged-2.ensures.taken

pub step_unjudged-requires : goal.step_unjudged-requires
step_unjudged-requires g c =
    let m = g.M.Sequenced.spec in
    let cut = c.in_ok-batch.ensures.cut in
    record {
      leader = subst (λ (z : StateView g.row.M.Denot g.row.M-Msg.Denot). c.step_unjudged.inside.me.0 < z.setup.n) c.step_unjudged.view_is c.step_unjudged.invariant.me;
      input = tt;
      leaves = subst (λ (k : ℕ). HasLeaves m c.cut.new.self k) (sym (ap (λ z. z.me.0) c.step_unjudged.view_is ∙ ap (λ z. z.me.0) cut.rest))
          (leaves-cut m g.M.Sequenced.refines c.args.self.now c.cut.new.self c.args.self.now.me.0 c.args.slot c.in_ok-batch.batch cut c.requires);
    }
