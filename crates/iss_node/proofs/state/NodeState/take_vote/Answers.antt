use Rattle.std.proofs.Common.{◌∙◌, refl, sym}
use Rattle.iss_node.proofs.EpochEnd.VotesAreCounted.{vote-bad, vote-counted, vote-known}
use Rattle.iss_node.proofs.state.NodeState.take_vote.Goals as goal
use Rattle.iss_node.proofs.state.NodeState.take_vote.Goals.{in-Counted, in-BadSignature, in-Known}

pub returns-clause-answer : goal.returns-clause-answer
returns-clause-answer g c = rw (← c.self.view_is) (elim c.match-branch-2.branch [
  | in-Counted w ↦ rw w.result-is (λ d h. vote-counted _ _ _ c.self.invariant c.args.vote (sym c.is_far.ensures ∙ c.if-is_far.false) _ c.take.new.self refl c.take.ensures.voters d h (Unit {0}) w.nothing.result w.nothing.ensures
      ((rw w.in-Counted.is at c.in_ok-take.ensures.taken) d.votes d.certs h.kept))
  | in-BadSignature w ↦ rw w.result-is (λ d h. vote-bad _ _ _ c.self.invariant c.args.vote (sym c.is_far.ensures ∙ c.if-is_far.false) _ c.take.new.self refl c.take.ensures.voters d h ((rw w.in-BadSignature.is at c.in_ok-take.ensures.taken) d.votes d.certs h.kept))
  | in-Known w ↦ rw w.result-is (λ d h. vote-known _ _ _ c.self.invariant c.args.vote (sym c.is_far.ensures ∙ c.if-is_far.false) _ c.take.new.self refl c.take.ensures.voters d h ((rw w.in-Known.is at c.in_ok-take.ensures.taken) d.votes d.certs h.kept))
])
