use Rattle.std.proofs.Common.{refl, subst}
use Rattle.iss_rules.specs.Formats.{formats_of}
use Rattle.iss_node.proofs.Instances.ChecksRefine.{credible-is, drops-claims, drops-keys, drops-refused, takes-input, turned}
use Rattle.iss_node.specs.Internal.Shape.{IsNodeState}
use Rattle.iss_node.specs.State.{StateView}
use Rattle.iss_node.proofs.EpochEnd.LeafIsKept.{took-leaf}
use Rattle.iss_node.proofs.state.NodeState.try_step.Goals as goal

pub returns-then-not-is_credible-clause-answer : goal.returns-then-not-is_credible-clause-answer
returns-then-not-is_credible-clause-answer g c = λ past tied.
    let m = g.M.Sequenced.spec in
    let v = c.args.self.now in
    drops-claims m g.M.Sequenced.refines (formats_of v.setup m) v c.args.leader.0 c.args.input c.if-not-leads.ensures.leads past tied (credible-is m g.M.Sequenced.refines v c.args.leader.0 c.args.input c.args.claims.now c.if-not-leads.ensures.leads c.requires _ c.if-not-is_credible.ensures past tied)

pub judged_step-requires : goal.judged_step-requires
judged_step-requires g c = record { leader = c.if-not-leads.ensures.below refl; input = c.requires.sender; leaves = c.if-not-has_leaves.ensures.enough refl }

pub returns-then-not-has_leaves-clause-answer : goal.returns-then-not-has_leaves-clause-answer
returns-then-not-has_leaves-clause-answer g c = λ past tied.
    let m = g.M.Sequenced.spec in
    let v = c.args.self.now in
    drops-keys m g.M.Sequenced.refines (formats_of v.setup m) v c.args.leader.0 c.args.input c.if-not-leads.ensures.leads past tied (credible-is m g.M.Sequenced.refines v c.args.leader.0 c.args.input c.args.claims.now c.if-not-leads.ensures.leads c.requires _ c.if-not-is_credible.ensures past tied) c.if-not-has_leaves.ensures.is

pub returns-in_ok-apply_effects-in-Ok-clause-answer : goal.returns-in_ok-apply_effects-in-Ok-clause-answer
returns-in_ok-apply_effects-in-Ok-clause-answer g c = λ past tied.
    let m = g.M.Sequenced.spec in
    let v = c.args.self.now in
    let shape : IsNodeState m v = subst (λ (z : StateView g.row.M.Denot g.row.M-Msg.Denot). IsNodeState m z) c.self.view_is c.self.invariant in
    let o = c.in_ok-apply_effects-in-Ok.field-0 in
    takes-input m g.M.Sequenced.refines (formats_of v.setup m) v c.args.leader.0 c.args.input c.if-not-leads.ensures.leads past tied (credible-is m g.M.Sequenced.refines v c.args.leader.0 c.args.input c.args.claims.now c.if-not-leads.ensures.leads c.requires _ c.if-not-is_credible.ensures past tied) c.if-not-has_leaves.ensures.is c.apply_effects.new.self o c.in-Ok.ensures.step.1
    (turned m c.laws.ensures.lawful g.M.Sequenced.refines v shape c.args.leader c.args.input c.in-Ok.effects c.apply_effects.new.self o past tied c.judged_step.new.self c.in-Ok.ensures.step.0 c.in_ok-apply_effects-in-Ok.ensures.absorbed c.in_ok-apply_effects-in-Ok.ensures.made c.in_ok-apply_effects-in-Ok.ensures.hashed)

pub returns-in-Err-Refused-clause-answer : goal.returns-in-Err-Refused-clause-answer
returns-in-Err-Refused-clause-answer g c = rw c.in-Err-Refused.field-0-is (λ past tied.
    let m = g.M.Sequenced.spec in
    let v = c.args.self.now in
    drops-refused m g.M.Sequenced.refines (formats_of v.setup m) v c.args.leader.0 c.args.input c.if-not-leads.ensures.leads past tied (credible-is m g.M.Sequenced.refines v c.args.leader.0 c.args.input c.args.claims.now c.if-not-leads.ensures.leads c.requires _ c.if-not-is_credible.ensures past tied) c.if-not-has_leaves.ensures.is c.judged_step.new.self c.in-Err-Refused.refusal (rw c.in-Err-Refused.field-0-is at c.in-Err-Refused.ensures.step))

pub returns-in_ok-apply_effects-in-Ok-clause-tried : goal.returns-in_ok-apply_effects-in-Ok-clause-tried
returns-in_ok-apply_effects-in-Ok-clause-tried g c =
    took-leaf g.M.Sequenced.spec g.M.Sequenced.refines c.args.self.now c.judged_step.new.self c.apply_effects.new.self c.args.leader c.args.input c.in-Ok.effects (c.if-not-has_leaves.ensures.enough refl) c.in-Ok.ensures.step.0 c.in_ok-apply_effects-in-Ok.ensures.absorbed

pub returns-in-Err-Refused-clause-tried : goal.returns-in-Err-Refused-clause-tried
returns-in-Err-Refused-clause-tried g c = (rw c.in-Err-Refused.field-0-is at c.in-Err-Refused.ensures.step).0
