use Rattle.std.proofs.Common.{subst}
use Rattle.iss_node.specs.Internal.Parcels.{IsBodyFrom}
use Rattle.iss_node.specs.declared.parcels.Body.{Body}
use Rattle.iss_model.specs.Node.{takes_message, takes_request}
use Rattle.iss_node.proofs.Steps.VotesDoNotMatter.{message-held, request-held}
use Rattle.iss_node.proofs.Steps.StepsCompose.{held-ok}
use Rattle.iss_node.proofs.state.NodeState.take_parcel.Goals as goal

pub returns-in-Request-clause-answer : goal.returns-in-Request-clause-answer
returns-in-Request-clause-answer g c =
    let m = g.M.Sequenced.spec in
    let q = c.in-Request.request in
    rw c.in-Request.is (held-ok m g.M.Sequenced.refines c.args.self.now c.take_request.new.self c.take_request.ensures.later (λ F R me d. takes_request R m me d q) (Unit {0}) c.take_request.result
    (λ F R me votes certs d. request-held F R m me votes certs q d) c.take_request.ensures.answer)

pub take_message-requires : goal.take_message-requires
take_message-requires g c = record {
  from = subst (λ (b : Body g.row.M-Msg.Denot). IsBodyFrom c.args.self.now.setup.n c.args.parcel.from.0 b) c.in-Message.is c.requires.from;
  refined = c.requires.refined;
}

pub returns-in-Message-clause-answer : goal.returns-in-Message-clause-answer
returns-in-Message-clause-answer g c =
    let m = g.M.Sequenced.spec in
    let from = c.args.parcel.from.0 in
    let e = c.args.parcel.epoch.0 in
    let l = c.in-Message.leader.0 in
    let msg = c.in-Message.msg in
    rw c.in-Message.is (held-ok m g.M.Sequenced.refines c.args.self.now c.take_message.new.self c.take_message.ensures.later (λ F R me d. takes_message F R m me d from e l msg) (Unit {0}) c.take_message.result
    (λ F R me votes certs d. message-held F R m me votes certs from e l msg d) c.take_message.ensures.answer)
