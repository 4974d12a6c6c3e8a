use Rattle.std.proofs.Common.{◌∙◌, Some, refl, ap, subst, sym}
use Rattle.iss_ballots.specs.Ballots.{AreKept}
use Rattle.iss_node.proofs.StateTransfer.HandOutRefines.{hands-short, hands-so}
use Rattle.iss_node.specs.State.{StateView}
use Rattle.iss_node.proofs.state.NodeState.take_ask.Goals as goal

pub returns-in_default-2-clause-answer : goal.returns-in_default-2-clause-answer
returns-in_default-2-clause-answer g c = λ d h.
    let kept = subst (λ (z : StateView g.row.M.Denot g.row.M-Msg.Denot). AreKept z.ballots d.votes d.certs) (sym c.self.view_is) h.kept in
    hands-short g.M.Sequenced.spec g.M.Sequenced.refines c.args.self.now c.args.from c.args.epoch.0 d h _ c.in-Some.cert.now (sym (c.in-Some.ensures.kept d.votes d.certs kept)) (sym c.in_default-2.is ∙ c.in_ok-values.ensures)

pub returns-clause-answer : goal.returns-clause-answer
returns-clause-answer g c = λ d h.
    let kept = subst (λ (z : StateView g.row.M.Denot g.row.M-Msg.Denot). AreKept z.ballots d.votes d.certs) (sym c.self.view_is) h.kept in
    let cert = sym (c.in-Some.ensures.kept d.votes d.certs kept) ∙ ap (λ x. Some x) (sym c.in_ok-cert.ensures) in
    hands-so g.M.Sequenced.spec g.M.Sequenced.refines c.args.self.now c.args.from c.args.epoch.0 d h _ (record { epoch = c.args.epoch; values = c.in-Some-2.values; cert = c.in_ok-cert.cert })
    c.in_ok-hand_out_piece.field-0 cert (sym c.in-Some-2.is ∙ c.in_ok-values.ensures) refl c.in_ok-hand_out_piece.ensures c.requires (Unit {0})
