use Rattle.std.proofs.Common.{refl}
use Rattle.sb_chained.specs.declared.chained.Chained.{Chained}
use Rattle.sb_chained.specs.declared.state.Node.{Node}
use Rattle.sb_chained.specs.Rules.{with_vote}
use Rattle.sb_chained.proofs.Refinement.MessagesRefine.{kept-vote, reached-vote}
use Rattle.sb_chained.proofs.Refinement.InputRefines.{vote-kept}
use Rattle.sb_chained.proofs.chained.Chained.vote.Goals as goal

pub returns-then-not-is_reached : goal.returns-then-not-is_reached
returns-then-not-is_reached c =
    let p = c.args.context.now.p.now in
    let m = c.args.self.now in
    let node : Node = record m.node { votes = c.keep.new.self } in
    let mid : Chained = record m { node = node } in
    kept-vote p c.args.from c.args.vote.poll.phase c.args.vote.poll.view c.args.vote.poll.digest c.args.vote.sig m mid c.keeps_vote.result c.if-not-keeps_vote.false (λ s h. c.keeps_vote.ensures s h) refl refl refl
    (λ s h. vote-kept p m.node s h c.args.from.0 c.args.vote.poll.view c.args.vote.poll.digest c.args.vote.sig c.keep.new.self (c.in_ok-keep.ensures _ s.votes refl h.votes))
    c.is_reached.result (λ k h. c.is_reached.ensures k h) c.of-then-not-is_reached.result c.nothing-then-not-is_reached.result c.of-then-not-is_reached.ensures c.nothing-then-not-is_reached.ensures c.if-not-is_reached.true

pub returns : goal.returns
returns c =
    let p = c.args.context.now.p.now in
    let m = c.args.self.now in
    let node : Node = record m.node { votes = c.keep.new.self } in
    let mid : Chained = record m { node = node } in
    let shown = c.show.new.self in
    let last : Chained = record shown { node = c.next.new.self } in
    reached-vote p c.args.from c.args.vote.poll.phase c.args.vote.poll.view c.args.vote.poll.digest c.args.vote.sig m mid c.keeps_vote.result c.if-not-keeps_vote.false (λ s h. c.keeps_vote.ensures s h) refl refl refl
    (λ s h. vote-kept p m.node s h c.args.from.0 c.args.vote.poll.view c.args.vote.poll.digest c.args.vote.sig c.keep.new.self (c.in_ok-keep.ensures _ s.votes refl h.votes))
    c.is_reached.result (λ k h. c.is_reached.ensures k h) shown last c.in_ok-outcome.outcome c.in_ok-shown.shown c.in_ok-delivers.delivers c.if-not-is_reached.false
    (λ s h. c.in_ok-shown.ensures (with_vote s c.args.from.0 c.args.vote.poll.view c.args.vote.poll.digest c.args.vote.sig).votes (c.in_ok-keep.ensures _ s.votes refl h.votes))
    c.in_ok-delivers.ensures.inside (λ k h. c.in_ok-delivers.ensures.shown k h) c.in_ok-delivers.ensures.accepted refl refl (λ k h. c.in_ok-outcome.ensures k h)
