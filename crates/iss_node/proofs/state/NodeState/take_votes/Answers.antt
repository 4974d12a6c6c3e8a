use Rattle.std.proofs.Common.{arith, rules, ◌≡◌, ◌∙◌, ◌++◌, [], List, Bool, Some, true, ap, sym, subst}
use Rattle.std.proofs.lemmas.List.{append-nil, nil_from_length}
use Rattle.iss_model.specs.Frames.{frame_of}
use Rattle.iss_model.specs.Node.{takes_vote}
use Rattle.iss_node.proofs.Snapshots.PartsAreTaken.{same-trans, same-refl, vote-dropped, vote-next, vote-taken, then_step}
use Rattle.iss_node.proofs.WaitingRequests.RequestRefines.{whole-next}
use Rattle.iss_node.specs.Internal.Rebuilding.{AreTaken}
use Rattle.iss_rebuilt.specs.Reading.{takes_votes}
use Rattle.iss_checkpoint.specs.declared.votes.Vote.{Vote}
use Rattle.iss_rules.specs.Concrete.{rules_of}
use Rattle.iss_node.proofs.state.NodeState.take_votes.Goals as goal

pub loop-vote-init : goal.loop-vote-init
loop-vote-init g c =
    let whole : c.args.votes ≡ c.into_iter-vote-iterator.result.rest.items = search rules in
    record { taken = λ d k. k; same = same-refl c.args.self.now; whole = whole }

pub returns-then-not-was_taken-clause-taken : goal.returns-then-not-was_taken-clause-taken
returns-then-not-was_taken-clause-taken g c = λ d k.
    let m = g.M.Sequenced.spec in
    let h = c.loop-vote.invariant in
    let v = c.args.self.now in
    let step = vote-taken m g.M.Sequenced.refines v c.loop-vote.self c.take_vote.new.self h.same c.loop-vote.yielded c.in-Some.vote d c.in_ok-step.step c.in_ok-step.ensures.answer (h.taken d k) in
    vote-dropped m g.M.Sequenced.refines (frame_of v.setup m) c.args.votes c.loop-vote.yielded c.in-Some.vote _ d c.take_vote.new.self
    (h.whole ∙ ap (λ (xs : List Vote). c.loop-vote.yielded ++ xs) c.in-Some.ensures.steps.0)
    (subst (λ (b : Bool). AreTaken m g.M.Sequenced.refines (then_step (takes_votes (frame_of v.setup m) c.loop-vote.yielded (Some d)) (λ x. takes_vote (rules_of v.setup) x c.in-Some.vote)) c.take_vote.new.self b) (sym c.if-not-was_taken.ensures) step)

pub loop-vote-preserved : goal.loop-vote-preserved
loop-vote-preserved g c =
    let m = g.M.Sequenced.spec in
    let h = c.loop-vote.invariant in
    let v = c.args.self.now in
    record {
      taken = λ d k.
          let step = vote-taken m g.M.Sequenced.refines v c.loop-vote.self c.take_vote.new.self h.same c.loop-vote.yielded c.in-Some.vote d c.in_ok-step.step c.in_ok-step.ensures.answer (h.taken d k) in
          vote-next m g.M.Sequenced.refines (frame_of v.setup m) c.loop-vote.yielded c.in-Some.vote d c.take_vote.new.self
          (subst (λ (b : Bool). AreTaken m g.M.Sequenced.refines (then_step (takes_votes (frame_of v.setup m) c.loop-vote.yielded (Some d)) (λ x. takes_vote (rules_of v.setup) x c.in-Some.vote)) c.take_vote.new.self b) (sym c.if-not-was_taken.ensures) step);
      same = same-trans v c.loop-vote.self c.take_vote.new.self h.same c.take_vote.ensures.same;
      whole = whole-next c.args.votes c.loop-vote.yielded c.in-Some.vote _ _ h.whole c.in-Some.ensures.steps.0;
    }

pub returns-clause-taken : goal.returns-clause-taken
returns-clause-taken g c = λ d k.
    let m = g.M.Sequenced.spec in
    let h = c.loop-vote.invariant in
    let v = c.args.self.now in
    let left = c.loop-vote.vote-iterator.rest in
    let none : left.items ≡ [] = nil_from_length left.items (omega (arith, left.ok.0, c.in-None.ensures.steps.0)) in
    let all : c.loop-vote.yielded ≡ c.args.votes = sym (h.whole ∙ ap (λ xs. c.loop-vote.yielded ++ xs) none ∙ append-nil c.loop-vote.yielded) in
    subst (λ (xs : List Vote). AreTaken m g.M.Sequenced.refines (takes_votes (frame_of v.setup m) xs (Some d)) c.loop-vote.self true) all (h.taken d k)

pub returns-then-not-was_taken-clause-same : goal.returns-then-not-was_taken-clause-same
returns-then-not-was_taken-clause-same g c = same-trans c.args.self.now c.loop-vote.self c.take_vote.new.self c.loop-vote.invariant.same c.take_vote.ensures.same

pub returns-in_err-step-clause-same : goal.returns-in_err-step-clause-same
returns-in_err-step-clause-same g c = same-trans c.args.self.now c.loop-vote.self c.take_vote.new.self c.loop-vote.invariant.same c.take_vote.ensures.same

pub returns-clause-same : goal.returns-clause-same
returns-clause-same g c = c.loop-vote.invariant.same
