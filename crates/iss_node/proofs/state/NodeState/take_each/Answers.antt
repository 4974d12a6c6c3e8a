use Rattle.std.proofs.Common.{arith, rules, ◌≡◌, ◌∙◌, ◌++◌, ◌∷◌, [], ◌<◌, List, ap, sym, subst}
use Rattle.std.proofs.lemmas.List.{append-nil, nil_from_length}
use Rattle.iss_node.proofs.Instances.ChecksRefine.{later-refl, later-trans}
use Rattle.iss_node.proofs.WaitingRequests.RequestRefines.{whole-next}
use Rattle.iss_node.proofs.EpochEnd.StepCompletes.{Owes, owes-first, owes-last, owes-next, owes-none}
use Rattle.iss_node.specs.Internal.Shape.{AreFrom}
use Rattle.iss_node.specs.declared.answers.Early.{Early}
use Rattle.iss_request.specs.declared.setups.Setup.{Setup}
use Rattle.iss_node.proofs.state.NodeState.take_each.Goals as goal
use Rattle.iss_base.proofs.Lists.{eqb-other}

pub loop-message-init : goal.loop-message-init
loop-message-init g c =
    let whole : c.args.early.items ≡ c.into_iter-message-iterator.result.rest.items = search rules in
    record {
      owes = λ t h. owes-first g.M.Sequenced.spec g.M.Sequenced.refines c.args.self.now c.args.outcome t h;
      later = later-refl c.args.self.now;
      from = subst (λ (xs : List (Early g.row.M-Msg.Denot)). AreFrom c.args.self.now.setup.n xs) whole c.requires.from;
      whole = whole;
      lasts = c.requires.lasts;
    }

pub take_early-requires : goal.take_early-requires
take_early-requires g c =
    let h = c.loop-message.invariant in
    let from = subst (λ (xs : List (Early g.row.M-Msg.Denot)). AreFrom c.args.self.now.setup.n xs) c.in-Some.ensures.steps.0 h.from in
    record { from = subst (λ (s : Setup). c.in-Some.message.from.0 < s.n) (sym h.later.setup) from.0; lasts = h.lasts }

pub returns-in_err-more-clause-later : goal.returns-in_err-more-clause-later
returns-in_err-more-clause-later g c = later-trans c.args.self.now c.loop-message.self c.take_early.new.self c.loop-message.invariant.later c.take_early.ensures.later

pub loop-message-preserved-in-Continue-branch-2 : goal.loop-message-preserved-in-Continue-branch-2
loop-message-preserved-in-Continue-branch-2 g c =
    let h = c.loop-message.invariant in
    let m = g.M.Sequenced.spec in
    let from = subst (λ (xs : List (Early g.row.M-Msg.Denot)). AreFrom c.args.self.now.setup.n xs) c.in-Some.ensures.steps.0 h.from in
    let lasts = sym (ap (λ z. z.epoch) c.self-in-loop-message.view_is) ∙ c.if-self-epoch.true ∙ ap (λ z. z.epoch) c.self.view_is in
    record {
      owes = λ t k. subst (λ o. Owes m g.M.Sequenced.refines c.args.self.now c.take_early.new.self o (c.loop-message.yielded ++ c.in-Some.message ∷ []) t) (sym c.in_ok-append_outcome.ensures)
          (owes-next m g.M.Sequenced.refines c.args.self.now c.loop-message.self c.take_early.new.self c.loop-message.all c.in_ok-more.more c.loop-message.yielded c.in-Some.message t h.later c.take_early.ensures.later lasts c.in_ok-more.ensures.turn (h.owes t k));
      later = later-trans c.args.self.now c.loop-message.self c.take_early.new.self h.later c.take_early.ensures.later;
      from = from.1;
      lasts = c.in_ok-more.ensures.goes_on;
      whole = whole-next c.args.early.items c.loop-message.yielded c.in-Some.message _ _ h.whole c.in-Some.ensures.steps.0;
    }

pub returns-in_err-append_outcome-clause-later : goal.returns-in_err-append_outcome-clause-later
returns-in_err-append_outcome-clause-later g c = later-trans c.args.self.now c.loop-message.self c.take_early.new.self c.loop-message.invariant.later c.take_early.ensures.later

pub loop-message-preserved : goal.loop-message-preserved
loop-message-preserved g c =
    let h = c.loop-message.invariant in
    let m = g.M.Sequenced.spec in
    let from = subst (λ (xs : List (Early g.row.M-Msg.Denot)). AreFrom c.args.self.now.setup.n xs) c.in-Some.ensures.steps.0 h.from in
    let over = eqb-other c.loop-message.self.epoch c.args.self.now.epoch (λ e. c.if-self-epoch.false (ap (λ z. z.epoch) c.self-in-loop-message.view_is ∙ e ∙ sym (ap (λ z. z.epoch) c.self.view_is))) in
    record {
      owes = λ t k. owes-none m g.M.Sequenced.refines c.args.self.now c.loop-message.self c.loop-message.all c.loop-message.yielded c.in-Some.message t over (h.owes t k);
      later = h.later;
      from = from.1;
      lasts = h.lasts;
      whole = whole-next c.args.early.items c.loop-message.yielded c.in-Some.message _ _ h.whole c.in-Some.ensures.steps.0;
    }

pub returns-clause-turn : goal.returns-clause-turn
returns-clause-turn g c = λ t k.
    let h = c.loop-message.invariant in
    let left = c.loop-message.message-iterator.rest in
    let none : left.items ≡ [] = nil_from_length left.items (omega (arith, left.ok.0, c.in-None.ensures.steps.0)) in
    let all : c.loop-message.yielded ≡ c.args.early.items = sym (h.whole ∙ ap (λ xs. c.loop-message.yielded ++ xs) none ∙ append-nil c.loop-message.yielded) in
    owes-last g.M.Sequenced.spec g.M.Sequenced.refines c.args.self.now c.loop-message.self c.loop-message.all c.args.early.items c.loop-message.yielded all t (h.owes t k)

pub returns-clause-later : goal.returns-clause-later
returns-clause-later g c = c.loop-message.invariant.later
