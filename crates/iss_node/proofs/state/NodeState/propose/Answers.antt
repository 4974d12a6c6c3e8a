use Rattle.std.proofs.Common.{◌≡◌, ◌∙◌, ℕ, ap, sym, subst, true, false}
use Rattle.std.specs.Prelude.{is_some}
use Rattle.iss_node.proofs.Instances.ChecksRefine.{later-trans, leads-is, leaves-is}
use Rattle.iss_node.proofs.Instances.ProposalChecks.{no-keys, no-leader, no-slot, proposed-so}
use Rattle.iss_node.specs.Internal.Shape.{IsNodeState}
use Rattle.iss_node.specs.State.{StateView, led}
use Rattle.iss_node.specs.Internal.Ready.{HasLeaves}
use Rattle.iss_node.proofs.state.NodeState.propose.Goals as goal
use Rattle.iss_model.proofs.Casts.{some-there}

pub returns-in_default-clause-answer : goal.returns-in_default-clause-answer
returns-in_default-clause-answer g c = λ past tied.
    let m = g.M.Sequenced.spec in
    let v = c.args.self.now in
    let shape : IsNodeState m v = subst (λ (z : StateView g.row.M.Denot g.row.M-Msg.Denot). IsNodeState m z) c.self.view_is c.self.invariant in
    let some : true ≡ is_some (led v.segments v.me.0) = sym c.if-not-leads.false ∙ c.leads.ensures.leads ∙ ap (λ z. is_some (led v.segments z.me.0)) c.self.view_is in
    let own = some-there (led v.segments v.me.0) (sym some) in
    no-slot m g.M.Sequenced.refines v shape past tied (leads-is m g.M.Sequenced.refines v past tied v.me.0 true some)
    (sym (c.next_slot.ensures past own.0 tied own.1) ∙ c.in_default.is)

pub returns-then-not-has_leaves-clause-answer : goal.returns-then-not-has_leaves-clause-answer
returns-then-not-has_leaves-clause-answer g c = λ past tied.
    let m = g.M.Sequenced.spec in
    let v = c.args.self.now in
    let shape : IsNodeState m v = subst (λ (z : StateView g.row.M.Denot g.row.M-Msg.Denot). IsNodeState m z) c.self.view_is c.self.invariant in
    let some : true ≡ is_some (led v.segments v.me.0) = sym c.if-not-leads.false ∙ c.leads.ensures.leads ∙ ap (λ z. is_some (led v.segments z.me.0)) c.self.view_is in
    let own = some-there (led v.segments v.me.0) (sym some) in
    no-keys m g.M.Sequenced.refines v shape past tied (leads-is m g.M.Sequenced.refines v past tied v.me.0 true some)
    c.in-Some.slot (sym (c.next_slot.ensures past own.0 tied own.1) ∙ c.in-Some.is)
    (leaves-is m g.M.Sequenced.refines v past tied v.me.0 own.0 own.1 _ (sym c.if-not-has_leaves.true ∙ c.has_leaves.ensures.is own.0 (ap (λ z. led v.segments z.me.0) c.self.view_is ∙ own.1) tied.keys))

pub returns-clause-answer : goal.returns-clause-answer
returns-clause-answer g c = λ past tied.
    let m = g.M.Sequenced.spec in
    let v = c.args.self.now in
    let shape : IsNodeState m v = subst (λ (z : StateView g.row.M.Denot g.row.M-Msg.Denot). IsNodeState m z) c.self.view_is c.self.invariant in
    let some : true ≡ is_some (led v.segments v.me.0) = sym c.if-not-leads.false ∙ c.leads.ensures.leads ∙ ap (λ z. is_some (led v.segments z.me.0)) c.self.view_is in
    let own = some-there (led v.segments v.me.0) (sym some) in
    proposed-so m g.M.Sequenced.refines v shape past tied (leads-is m g.M.Sequenced.refines v past tied v.me.0 true some)
    c.in-Some.slot (sym (c.next_slot.ensures past own.0 tied own.1) ∙ c.in-Some.is)
    (leaves-is m g.M.Sequenced.refines v past tied v.me.0 own.0 own.1 _ (sym c.if-not-has_leaves.false ∙ c.has_leaves.ensures.is own.0 (ap (λ z. led v.segments z.me.0) c.self.view_is ∙ own.1) tied.keys))
    c.cast.new.self c.advance_epochs.new.self c.in_ok-outcome.outcome c.in_ok-advance_epochs.field-0 c.in_ok-outcome.ensures.later (c.in_ok-outcome.ensures.taken past tied) c.in_ok-advance_epochs.ensures.turn

pub cast-requires : goal.cast-requires
cast-requires g c =
    subst (λ (k : ℕ). HasLeaves g.M.Sequenced.spec c.args.self.now k) (ap (λ z. z.me.0) c.self.view_is) (c.has_leaves.ensures.enough c.if-not-has_leaves.false)

pub advance_epochs-requires : goal.advance_epochs-requires
advance_epochs-requires g c =
    let turned = c.in_ok-outcome.ensures.taken c.requires.0 c.requires.1 in
    record { refined = (_, turned.refined.tied); leaf = λ full. c.in_ok-outcome.ensures.leaf }

pub returns-then-not-leads-clause-answer : goal.returns-then-not-leads-clause-answer
returns-then-not-leads-clause-answer g c = λ past tied.
    let m = g.M.Sequenced.spec in
    let v = c.args.self.now in
    let shape : IsNodeState m v = subst (λ (z : StateView g.row.M.Denot g.row.M-Msg.Denot). IsNodeState m z) c.self.view_is c.self.invariant in
    let none : false ≡ is_some (led v.segments v.me.0) = sym c.if-not-leads.true ∙ c.leads.ensures.leads ∙ ap (λ z. is_some (led v.segments z.me.0)) c.self.view_is in
    no-leader m g.M.Sequenced.refines v shape past tied (leads-is m g.M.Sequenced.refines v past tied v.me.0 false none)

pub returns-in_err-advance_epochs-clause-later : goal.returns-in_err-advance_epochs-clause-later
returns-in_err-advance_epochs-clause-later g c = later-trans c.args.self.now c.cast.new.self c.advance_epochs.new.self c.in_ok-outcome.ensures.later c.advance_epochs.ensures.later

pub returns-clause-later : goal.returns-clause-later
returns-clause-later g c = later-trans c.args.self.now c.cast.new.self c.advance_epochs.new.self c.in_ok-outcome.ensures.later c.advance_epochs.ensures.later
