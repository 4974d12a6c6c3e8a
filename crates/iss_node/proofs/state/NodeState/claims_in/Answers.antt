use Rattle.std.proofs.Common.{◌≡◌, ◌∙◌, ap}
use Rattle.std.proofs.lemmas.Result.{IfOk-weaker}
use Rattle.iss_rules.specs.Concrete.{rules_of}
use Rattle.iss_model.specs.Node.{claims_in}
use Rattle.iss_rules.specs.Past.{Past}
use Rattle.iss_node.proofs.Wire.ClaimsAgree.{claims-led}
use Rattle.iss_node.specs.State.{RefinesPast}
use Rattle.iss_node.proofs.state.NodeState.claims_in.Goals as goal

pub returns-in-Some : goal.returns-in-Some
returns-in-Some g c =
    let m = g.M.Sequenced.spec in
    let v = c.args.self.now in
    IfOk-weaker c.claims.result (λ claims. claims ≡ m.claims c.params.result.now c.args.from.0 c.args.msg.now)
    (λ claims. (past : Past g.row.M-Msg.Denot) → RefinesPast m g.M.Sequenced.refines v past → claims ≡ claims_in (rules_of v.setup) m v.me.0 past c.args.from.0 c.args.leader.0 c.args.msg.now)
    (λ claims is past tied. claims-led m g.M.Sequenced.refines v past tied c.args.from.0 c.args.leader.0 c.args.msg.now c.in-Some.segment.now c.in-Some.ensures.led claims (is ∙ ap (λ p. m.claims p c.args.from.0 c.args.msg.now) c.params.ensures.same))
    c.claims.ensures
