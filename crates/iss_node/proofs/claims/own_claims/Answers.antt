use Rattle.std.proofs.Common.{◌∙◌, ◌++◌, ◌<◌, ap, length, arith}
use Rattle.iss_model.specs.Node.{only_by}
use Rattle.iss_node.proofs.Wire.ClaimsAgree.{own-next}
use Rattle.iss_node.proofs.claims.own_claims.Goals as goal

pub loop-msg-preserved : goal.loop-msg-preserved
loop-msg-preserved g c =
    let m = g.M.Sequenced.spec in
    let p = c.args.p.now in
    let me = c.args.me.0 in
    let i = c.loop-msg.msg-index in
    let lt : i < length c.args.sends.now = omega (arith, c.loop-msg-test.true) in
    c.in_ok-put_own.ensures
    ∙ ap (λ cs. c.loop-msg.own ++ only_by me cs) c.in_ok-claims.ensures
    ∙ ap (λ xs. xs ++ only_by me (m.claims p me c.loop-msg-item.result.1)) c.loop-msg.invariant
    ∙ own-next m p me c.args.sends.now i c.loop-msg-item.result lt c.loop-msg-item.is
