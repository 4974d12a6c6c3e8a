use Rattle.std.proofs.Common.{Bool, Some, true, false, subst}
use Rattle.std.proofs.lemmas.Result.{IfOk-weaker}
use Rattle.iss_model.specs.Frames.{frame_of}
use Rattle.iss_model.specs.Node.{Core}
use Rattle.iss_node.proofs.Snapshots.PartsAreTaken.{refill-refused, refill-taken, same-trans}
use Rattle.iss_node.specs.Internal.Rebuilding.{AreTaken}
use Rattle.iss_node.specs.State.{StateRefinesCore}
use Rattle.iss_rebuilt.specs.Reading.{takes_requests, takes_votes}
use Rattle.iss_request.specs.declared.setups.Setup.{Setup}
use Rattle.iss_node.proofs.state.NodeState.refill.Goals as goal

pub returns-then-not-all-clause-taken : goal.returns-then-not-all-clause-taken
returns-then-not-all-clause-taken g c = λ d k.
    let m = g.M.Sequenced.spec in
    let v = c.args.self.now in
    let o = takes_requests (frame_of v.setup m) v.me.0 c.args.waiting (Some d) in
    refill-refused m g.M.Sequenced.refines (frame_of v.setup m) o c.args.votes c.take_requests.new.self
    (subst (λ (b : Bool). AreTaken m g.M.Sequenced.refines o c.take_requests.new.self b) c.if-not-all.true (c.in_ok-all.ensures.taken d k))

pub returns-clause-taken : goal.returns-clause-taken
returns-clause-taken g c =
    let m = g.M.Sequenced.spec in
    let refines = g.M.Sequenced.refines in
    let v = c.args.self.now in
    let u = c.take_requests.new.self in
    let w = c.take_votes.new.self in
    IfOk-weaker c.take_votes.result
    (λ b. (x : Core g.row.M-Msg.Denot) → StateRefinesCore m refines u x → AreTaken m refines (takes_votes (frame_of u.setup m) c.args.votes (Some x)) w b)
    (λ b. (d : Core g.row.M-Msg.Denot) → StateRefinesCore m refines v d → AreTaken m refines (takes_votes (frame_of v.setup m) c.args.votes (takes_requests (frame_of v.setup m) v.me.0 c.args.waiting (Some d))) w b)
    (λ b all d k.
    let o = takes_requests (frame_of v.setup m) v.me.0 c.args.waiting (Some d) in
    refill-taken m refines (frame_of v.setup m) o c.args.votes u w b
    (subst (λ (t : Bool). AreTaken m refines o u t) c.if-not-all.false (c.in_ok-all.ensures.taken d k))
    (λ x h. subst (λ (s : Setup). AreTaken m refines (takes_votes (frame_of s m) c.args.votes (Some x)) w b) c.take_requests.ensures.same.setup (all x h)))
    c.take_votes.ensures.taken

pub returns-clause-same : goal.returns-clause-same
returns-clause-same g c = same-trans c.args.self.now c.take_requests.new.self c.take_votes.new.self c.take_requests.ensures.same c.take_votes.ensures.same
