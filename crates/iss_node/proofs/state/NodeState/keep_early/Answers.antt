use Rattle.std.proofs.Common.{◌∙◌, ◌++◌, ◌∷◌, [], ◌<◌, ◌≤◌, length, sym, ap, subst, arith}
use Rattle.iss_model.specs.Node.{unchanged}
use Rattle.iss_node.proofs.Instances.ChecksRefine.{same-parts}
use Rattle.iss_node.proofs.Steps.EntriesCompose.{nothing-entered}
use Rattle.iss_node.proofs.Steps.OutcomesCompose.{nothing-made, nothing-sent}
use Rattle.iss_node.proofs.Steps.QueriesAgree.{early-full, early-kept, early-parts, with-early}
use Rattle.iss_node.specs.Internal.Shape.{IsNodeState}
use Rattle.iss_node.specs.State.{RefinesBareCore, StateView, core_of, seen_early, seen_one}
use Rattle.iss_node.proofs.state.NodeState.keep_early.Goals as goal

pub returns-then-len-ge-EARLY_MOST-clause-answer : goal.returns-then-len-ge-EARLY_MOST-clause-answer
returns-then-len-ge-EARLY_MOST-clause-answer g c = λ past tied.
    let v = c.args.self.now in
    let kept = ap (λ (z : StateView g.row.M.Denot g.row.M-Msg.Denot). length z.early) c.self.view_is in
    record {
      step_is = early-full v past c.args.message (let le : 256 ≤ length v.early = omega (arith, c.if-len-ge-EARLY_MOST.true, c.len.ensures, kept) in le);
      refined = same-parts g.M.Sequenced.spec g.M.Sequenced.refines v past tied;
    }

pub invariant_of-self-2 : goal.invariant_of-self-2
invariant_of-self-2 g c = with-early g.M.Sequenced.spec _ c.args.message c.push.new.self.items c.self.invariant (rw (← c.self.view_is) at c.requires) c.in_ok-push.ensures.items

pub returns-clause-answer : goal.returns-clause-answer
returns-clause-answer g c = λ past tied.
    let m = g.M.Sequenced.spec in
    let v = c.args.self.now in
    let shape : IsNodeState m v = subst (λ (z : StateView g.row.M.Denot g.row.M-Msg.Denot). IsNodeState m z) c.self.view_is c.self.invariant in
    let kept = ap (λ (z : StateView g.row.M.Denot g.row.M-Msg.Denot). length z.early) c.self.view_is in
    let put : StateView g.row.M.Denot g.row.M-Msg.Denot → StateView g.row.M.Denot g.row.M-Msg.Denot = λ z. record z { early = c.push.new.self.items } in
    let is = ap put c.self.view_is in
    let grown = c.in_ok-push.ensures.items ∙ ap (λ (z : StateView g.row.M.Denot g.row.M-Msg.Denot). z.early ++ c.args.message ∷ []) c.self.view_is in
    record {
      turn = unchanged (record (core_of v past) { early = seen_early v.early ++ seen_one c.args.message ∷ [] });
      step_is = early-kept v past c.args.message (let lt : length v.early < 256 = omega (arith, c.if-len-ge-EARLY_MOST.false, c.len.ensures, kept) in lt);
      turned = record {
        refined = subst (λ (z : StateView g.row.M.Denot g.row.M-Msg.Denot). RefinesBareCore m g.M.Sequenced.refines z (record (core_of v past) { early = seen_early v.early ++ seen_one c.args.message ∷ [] })) (sym is)
            (early-parts m g.M.Sequenced.refines v shape past tied c.args.message c.push.new.self.items grown);
        made = nothing-made (record (core_of v past) { early = seen_early v.early ++ seen_one c.args.message ∷ [] }) c.nothing.result c.nothing.ensures;
        entered = nothing-entered c.nothing.result c.nothing.ensures;
        addressed = nothing-sent c.self.inside.setup.n c.nothing.result c.nothing.ensures;
      };
    }
