use Rattle.std.proofs.Common.{arith, ◌∙◌, ◌≤◌, ap, subst, sym}
use Rattle.iss_rules.specs.declared.events.Why.TheVariants.{BadClaim, OtherEpoch, WrongChain as Why_wrong_chain}
use Rattle.iss_node.proofs.StateTransfer.PieceChecks.{piece-refused, piece-taken, step_by}
use Rattle.iss_node.specs.Internal.Shape.{IsNodeState}
use Rattle.iss_node.specs.State.{StateView}
use Rattle.iss_node.proofs.state.NodeState.take_piece.Goals as goal

pub returns-in-WrongEpoch-clause-answer : goal.returns-in-WrongEpoch-clause-answer
returns-in-WrongEpoch-clause-answer g c =
    let m = g.M.Sequenced.spec in
    let v = c.args.self.now in
    let shape : IsNodeState m v = subst (λ (z : StateView g.row.M.Denot g.row.M-Msg.Denot). IsNodeState m z) c.self.view_is c.self.invariant in
    let timely : v.epoch ≤ c.args.piece.epoch.0 = let same = ap (λ (z : StateView g.row.M.Denot g.row.M-Msg.Denot). z.epoch) c.self.view_is in omega (arith, c.if-piece-self.false, same) in
    λ d h. piece-refused m g.M.Sequenced.refines v c.args.piece d h shape timely c.in_ok-adoption.field-0 c.in_ok-adoption.ensures OtherEpoch (λ t. ap (λ z. step_by t z) c.in-WrongEpoch.is)

pub returns-in-BadCert-clause-answer : goal.returns-in-BadCert-clause-answer
returns-in-BadCert-clause-answer g c =
    let m = g.M.Sequenced.spec in
    let v = c.args.self.now in
    let shape : IsNodeState m v = subst (λ (z : StateView g.row.M.Denot g.row.M-Msg.Denot). IsNodeState m z) c.self.view_is c.self.invariant in
    let timely : v.epoch ≤ c.args.piece.epoch.0 = let same = ap (λ (z : StateView g.row.M.Denot g.row.M-Msg.Denot). z.epoch) c.self.view_is in omega (arith, c.if-piece-self.false, same) in
    λ d h. piece-refused m g.M.Sequenced.refines v c.args.piece d h shape timely c.in_ok-adoption.field-0 c.in_ok-adoption.ensures BadClaim (λ t. ap (λ z. step_by t z) c.in-BadCert.is)

pub returns-in-WrongChain-clause-answer : goal.returns-in-WrongChain-clause-answer
returns-in-WrongChain-clause-answer g c =
    let m = g.M.Sequenced.spec in
    let v = c.args.self.now in
    let shape : IsNodeState m v = subst (λ (z : StateView g.row.M.Denot g.row.M-Msg.Denot). IsNodeState m z) c.self.view_is c.self.invariant in
    let timely : v.epoch ≤ c.args.piece.epoch.0 = let same = ap (λ (z : StateView g.row.M.Denot g.row.M-Msg.Denot). z.epoch) c.self.view_is in omega (arith, c.if-piece-self.false, same) in
    λ d h. piece-refused m g.M.Sequenced.refines v c.args.piece d h shape timely c.in_ok-adoption.field-0 c.in_ok-adoption.ensures Why_wrong_chain (λ t. ap (λ z. step_by t z) c.in-WrongChain.is)

pub returns-in_ok-outcome-in-Adopt-clause-answer : goal.returns-in_ok-outcome-in-Adopt-clause-answer
returns-in_ok-outcome-in-Adopt-clause-answer g c =
    let m = g.M.Sequenced.spec in
    let v = c.args.self.now in
    let shape : IsNodeState m v = subst (λ (z : StateView g.row.M.Denot g.row.M-Msg.Denot). IsNodeState m z) c.self.view_is c.self.invariant in
    let timely : v.epoch ≤ c.args.piece.epoch.0 = let same = ap (λ (z : StateView g.row.M.Denot g.row.M-Msg.Denot). z.epoch) c.self.view_is in omega (arith, c.if-piece-self.false, same) in
    λ d h. piece-taken m g.M.Sequenced.refines v c.args.piece d h shape timely c.in_ok-adoption.field-0 c.in_ok-adoption.ensures c.in-Adopt.hashed c.in-Adopt.is c.adopt.new.self c.in_ok-outcome-in-Adopt.outcome c.in_ok-outcome-in-Adopt.ensures.adopted

pub adopt-requires : goal.adopt-requires
adopt-requires g c = record {
  refined = c.requires;
  found = sym (c.in_ok-adoption.ensures c.args.self.now.log.entries c.requires.1.chained) ∙ c.in-Adopt.is;
}
