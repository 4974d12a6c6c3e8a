use Rattle.std.proofs.Common.{◌∙◌}
use Rattle.iss_model.specs.Node.{try_step}
use Rattle.iss_node.proofs.EpochEnd.LeafIsKept.{to-complete}
use Rattle.iss_node.proofs.Wire.ClaimsAgree.{read-message}
use Rattle.iss_node.specs.State.{core_of}
use Rattle.iss_rules.specs.Concrete.{rules_of}
use Rattle.iss_rules.specs.Formats.{formats_of}
use Rattle.iss_sb.specs.declared.effects.Input.TheVariants.{Receive}
use Rattle.iss_node.proofs.state.NodeState.take_now.Goals as goal

pub try_step-requires : goal.try_step-requires
try_step-requires g c =
    read-message g.M.Sequenced.spec g.M.Sequenced.refines c.args.self.now c.args.message.from c.args.message.leader c.args.message.msg c.as_slice.result.now c.requires.from (λ past tied. c.as_slice.ensures ∙ c.in_ok-claims.ensures past tied)

pub finish_step-requires : goal.finish_step-requires
finish_step-requires g c =
    let m = g.M.Sequenced.spec in
    let v = c.args.self.now in
    to-complete m g.M.Sequenced.refines v c.try_step.new.self (λ past. try_step (formats_of v.setup m) (rules_of v.setup) m v.me.0 (core_of v past) c.args.message.leader.0 (Receive c.args.message.from c.args.message.msg))
    c.in_ok-step.step c.requires.refined c.in_ok-step.ensures.answer c.in_ok-step.ensures.tried
