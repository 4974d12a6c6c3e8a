use Rattle.std.proofs.Common.{List, Some, refl, subst}
use Rattle.iss_node.proofs.EpochEnd.LeafIsKept.{begins-open}
use Rattle.iss_node.proofs.EpochEnd.VoteRefines.{ended-all}
use Rattle.iss_node.specs.Entered.{IsEntryOf}
use Rattle.iss_node.specs.Internal.Shape.{IsNodeState}
use Rattle.iss_node.specs.State.{StateView}
use Rattle.iss_node.specs.declared.answers.Early.{Early}
use Rattle.iss_node.proofs.state.NodeState.end_epoch.Goals as goal

pub returns-clause-ended : goal.returns-clause-ended
returns-clause-ended g c =
    let m = g.M.Sequenced.spec in
    let v = c.args.self.now in
    let early = c.in_ok-early.early.items in
    let bytes = c.in_ok-bytes.bytes in
    let shape : IsNodeState m v = subst (λ (z : StateView g.row.M.Denot g.row.M-Msg.Denot). IsNodeState m z) c.self.view_is c.self.invariant in
    ended-all m g.M.Sequenced.refines v c.vote.new.self c.next_epoch.new.self shape c.in_ok-vote.vote c.in_ok-outcome.outcome (record c.in_ok-outcome.outcome { entered = Some bytes }) bytes early c.in_ok-vote.ensures.voted c.in_ok-outcome.ensures refl
    (subst (λ (xs : List (Early g.row.M-Msg.Denot)). IsEntryOf m g.M.Sequenced.refines c.next_epoch.new.self xs bytes) c.as_slice.ensures.value c.in_ok-bytes.ensures) c.in_ok-early.ensures.next

pub returns-clause-begun : goal.returns-clause-begun
returns-clause-begun g c =
    let m = g.M.Sequenced.spec in
    let v = c.args.self.now in
    let shape : IsNodeState m v = subst (λ (z : StateView g.row.M.Denot g.row.M-Msg.Denot). IsNodeState m z) c.self.view_is c.self.invariant in
    begins-open m g.M.Sequenced.refines v c.vote.new.self c.next_epoch.new.self shape c.in_ok-vote.vote c.in_ok-early.early.items c.in_ok-vote.ensures.voted c.in_ok-early.ensures.next c.in_ok-early.ensures.later c.requires

pub entry-requires : goal.entry-requires
entry-requires g c =
    let m = g.M.Sequenced.spec in
    let v = c.args.self.now in
    let shape : IsNodeState m v = subst (λ (z : StateView g.row.M.Denot g.row.M-Msg.Denot). IsNodeState m z) c.self.view_is c.self.invariant in
    (begins-open m g.M.Sequenced.refines v c.vote.new.self c.next_epoch.new.self shape c.in_ok-vote.vote c.in_ok-early.early.items c.in_ok-vote.ensures.voted c.in_ok-early.ensures.next c.in_ok-early.ensures.later c.requires).refined
