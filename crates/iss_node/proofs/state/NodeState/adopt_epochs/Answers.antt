use Rattle.std.proofs.Common.{arith, rules, ◌≡◌, ◌∙◌, ◌++◌, [], List, ap, sym, subst}
use Rattle.std.proofs.lemmas.List.{append-nil, nil_from_length}
use Rattle.iss_node.proofs.Instances.ChecksRefine.{later-refl, later-trans}
use Rattle.iss_node.proofs.Snapshots.EpochsAreAdopted.{adopts-next}
use Rattle.iss_node.proofs.WaitingRequests.RequestRefines.{whole-next}
use Rattle.iss_node.specs.Internal.Rebuilding.{AreWhole, IsEmptied}
use Rattle.iss_rebuilt.specs.Reading.{adopts_epochs}
use Rattle.iss_request.specs.declared.requests.Value.{Value}
use Rattle.iss_request.specs.declared.setups.Setup.{Setup}
use Rattle.iss_rules.specs.Past.{Past}
use Rattle.iss_node.proofs.state.NodeState.adopt_epochs.Goals as goal

pub loop-values-init : goal.loop-values-init
loop-values-init g c =
    let whole : c.args.epochs ≡ c.into_iter-values-iterator.result.rest.items = search rules in
    record {
      adopted = λ past certs leaf h. h;
      later = later-refl c.args.self.now;
      left = subst (λ (xs : List (List Value)). AreWhole c.args.self.now.setup.epoch xs) whole c.requires;
      whole = whole;
    }

pub adopt_epoch-requires : goal.adopt_epoch-requires
adopt_epoch-requires g c =
    let h = c.loop-values.invariant in
    let left = subst (λ (xs : List (List Value)). AreWhole c.args.self.now.setup.epoch xs) c.in-Some.ensures.steps.0 h.left in
    left.0 ∙ ap (λ (s : Setup). s.epoch) (sym h.later.setup)

pub loop-values-preserved : goal.loop-values-preserved
loop-values-preserved g c =
    let h = c.loop-values.invariant in
    let left = subst (λ (xs : List (List Value)). AreWhole c.args.self.now.setup.epoch xs) c.in-Some.ensures.steps.0 h.left in
    record {
      adopted = λ past certs leaf k.
          subst (λ (p : Past g.row.M-Msg.Denot). IsEmptied g.M.Sequenced.spec g.M.Sequenced.refines c.adopt_epoch.new.self p certs leaf) (sym (adopts-next past c.loop-values.yielded c.in-Some.values))
          (c.in_ok-adopt_epoch.ensures.adopted (adopts_epochs past c.loop-values.yielded) certs leaf (h.adopted past certs leaf k));
      later = later-trans c.args.self.now c.loop-values.self c.adopt_epoch.new.self h.later c.adopt_epoch.ensures.later;
      left = left.1;
      whole = whole-next c.args.epochs c.loop-values.yielded c.in-Some.values _ _ h.whole c.in-Some.ensures.steps.0;
    }

pub returns-in_err-adopt_epoch-clause-later : goal.returns-in_err-adopt_epoch-clause-later
returns-in_err-adopt_epoch-clause-later g c = later-trans c.args.self.now c.loop-values.self c.adopt_epoch.new.self c.loop-values.invariant.later c.adopt_epoch.ensures.later

pub returns-clause-adopted : goal.returns-clause-adopted
returns-clause-adopted g c = λ past certs leaf k.
    let h = c.loop-values.invariant in
    let left = c.loop-values.values-iterator.rest in
    let none : left.items ≡ [] = nil_from_length left.items (omega (arith, left.ok.0, c.in-None.ensures.steps.0)) in
    let all : c.loop-values.yielded ≡ c.args.epochs = sym (h.whole ∙ ap (λ xs. c.loop-values.yielded ++ xs) none ∙ append-nil c.loop-values.yielded) in
    subst (λ (xs : List (List Value)). IsEmptied g.M.Sequenced.spec g.M.Sequenced.refines c.loop-values.self (adopts_epochs past xs) certs leaf) all (h.adopted past certs leaf k)

pub returns-clause-later : goal.returns-clause-later
returns-clause-later g c = c.loop-values.invariant.later
