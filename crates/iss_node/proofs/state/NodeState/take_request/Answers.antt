use Rattle.std.proofs.Common.{◌≡◌, ◌++◌, ◌∷◌, [], true, false, refl, sym, ap, subst}
use Rattle.iss_rules.specs.Concrete.{rules_of}
use Rattle.iss_model.specs.Node.{unchanged}
use Rattle.iss_rules.specs.Past.{before_own, log_of}
use Rattle.iss_node.proofs.Instances.ChecksRefine.{same-parts}
use Rattle.iss_node.proofs.Steps.EntriesCompose.{nothing-entered}
use Rattle.iss_node.proofs.Steps.OutcomesCompose.{nothing-made, nothing-sent}
use Rattle.iss_node.proofs.WaitingRequests.RequestRefines.{inside-found, known-is, known-waits, logged-all, request-is, waits-parts}
use Rattle.iss_node.specs.Internal.Shape.{IsNodeState}
use Rattle.iss_node.specs.State.{StateView, core_of}
use Rattle.iss_request.specs.Log.{log_ids}
use Rattle.iss_node.proofs.state.NodeState.take_request.Goals as goal

pub returns-then-not-is_signed-clause-answer : goal.returns-then-not-is_signed-clause-answer
returns-then-not-is_signed-clause-answer g c = λ past tied.
    let m = g.M.Sequenced.spec in
    let v = c.args.self.now in
    let q = c.args.request in
    let shape : IsNodeState m v = subst (λ (z : StateView g.row.M.Denot g.row.M-Msg.Denot). IsNodeState m z) c.self.view_is c.self.invariant in
    let bf = before_own (rules_of v.setup) m v.me.0 past in
    let all = log_ids (log_of (rules_of v.setup) m v.me.0 past) in
    let logged = logged-all m g.M.Sequenced.refines v shape past tied in
    let signed : (rules_of v.setup).signed q ≡ false = sym c.if-not-is_signed.ensures in
    record { step_is = request-is m g.M.Sequenced.refines v shape past tied q false _ _ signed refl refl; refined = same-parts m g.M.Sequenced.refines v past tied }

pub returns-then-knows-clause-answer : goal.returns-then-knows-clause-answer
returns-then-knows-clause-answer g c = λ past tied.
    let m = g.M.Sequenced.spec in
    let v = c.args.self.now in
    let q = c.args.request in
    let shape : IsNodeState m v = subst (λ (z : StateView g.row.M.Denot g.row.M-Msg.Denot). IsNodeState m z) c.self.view_is c.self.invariant in
    let bf = before_own (rules_of v.setup) m v.me.0 past in
    let all = log_ids (log_of (rules_of v.setup) m v.me.0 past) in
    let logged = logged-all m g.M.Sequenced.refines v shape past tied in
    let signed : (rules_of v.setup).signed q ≡ true = sym c.if-not-is_signed.ensures in
    let known = known-is m g.M.Sequenced.refines v shape past tied q.id true (c.if-knows.ensures all logged) in
    record { step_is = request-is m g.M.Sequenced.refines v shape past tied q true true _ signed known refl; refined = same-parts m g.M.Sequenced.refines v past tied }

pub returns-then-not-is_inside-clause-answer : goal.returns-then-not-is_inside-clause-answer
returns-then-not-is_inside-clause-answer g c = λ past tied.
    let m = g.M.Sequenced.spec in
    let v = c.args.self.now in
    let q = c.args.request in
    let shape : IsNodeState m v = subst (λ (z : StateView g.row.M.Denot g.row.M-Msg.Denot). IsNodeState m z) c.self.view_is c.self.invariant in
    let bf = before_own (rules_of v.setup) m v.me.0 past in
    let all = log_ids (log_of (rules_of v.setup) m v.me.0 past) in
    let logged = logged-all m g.M.Sequenced.refines v shape past tied in
    let signed : (rules_of v.setup).signed q ≡ true = sym c.if-not-is_signed.ensures in
    let known = known-is m g.M.Sequenced.refines v shape past tied q.id false (c.if-knows.ensures all logged) in
    let inside = inside-found m g.M.Sequenced.refines v shape past tied q.id false c.self.inside.windows (ap (λ (z : StateView g.row.M.Denot g.row.M-Msg.Denot). z.windows) c.self.view_is) c.if-not-is_inside.ensures in
    record { step_is = request-is m g.M.Sequenced.refines v shape past tied q true false false signed known inside; refined = same-parts m g.M.Sequenced.refines v past tied }

pub returns-clause-answer : goal.returns-clause-answer
returns-clause-answer g c = λ past tied.
    let m = g.M.Sequenced.spec in
    let v = c.args.self.now in
    let q = c.args.request in
    let shape : IsNodeState m v = subst (λ (z : StateView g.row.M.Denot g.row.M-Msg.Denot). IsNodeState m z) c.self.view_is c.self.invariant in
    let bf = before_own (rules_of v.setup) m v.me.0 past in
    let all = log_ids (log_of (rules_of v.setup) m v.me.0 past) in
    let logged = logged-all m g.M.Sequenced.refines v shape past tied in
    let signed : (rules_of v.setup).signed q ≡ true = sym c.if-not-is_signed.ensures in
    let found = c.if-knows.ensures all logged in
    let known = known-is m g.M.Sequenced.refines v shape past tied q.id false found in
    let inside = inside-found m g.M.Sequenced.refines v shape past tied q.id true c.self.inside.windows (ap (λ (z : StateView g.row.M.Denot g.row.M-Msg.Denot). z.windows) c.self.view_is) c.if-not-is_inside.ensures in
    record {
      turn = unchanged (record (core_of v past) { waiting = v.waiting ++ q ∷ [] });
      step_is = request-is m g.M.Sequenced.refines v shape past tied q true false true signed known inside;
      turned = record {
        refined = waits-parts m g.M.Sequenced.refines v shape past tied q c.wait.new.self (c.in_ok-wait.ensures.ok (known-waits _ _ (sym found))) signed known inside;
        made = nothing-made (record (core_of v past) { waiting = v.waiting ++ q ∷ [] }) c.nothing.result c.nothing.ensures;
        entered = nothing-entered c.nothing.result c.nothing.ensures;
        addressed = nothing-sent c.wait.new.self.setup.n c.nothing.result c.nothing.ensures;
      };
    }
