use Rattle.std.proofs.Common.{arith, ◌≡◌, ◌∙◌, ℕ, ◌+◌, List, [], ap, subst}
use Rattle.iss_node.specs.Internal.Epochs.{HasOpened}
use Rattle.iss_node.specs.State.{StateView}
use Rattle.iss_node.specs.declared.answers.Early.{Early}
use Rattle.iss_node.proofs.state.NodeState.next_epoch.Goals as goal

pub returns-clause-next : goal.returns-clause-next
returns-clause-next g c =
    let refines = g.M.Sequenced.refines in
    let v = c.args.self.now in
    let first = ap (λ z. z.plan.start) c.self.view_is in
    let size = ap (λ z. z.setup.epoch) c.self.view_is in
    let number = ap (λ z. z.epoch) c.self.view_is in
    let next : c.in_ok-epoch.epoch ≡ v.epoch + 1 = omega (arith, c.in_ok-epoch.ensures.sum, number) in
    let start : c.first.result.0 + c.self.inside.setup.epoch ≡ v.plan.start + v.setup.epoch = omega (arith, c.first.ensures, first, size) in
    let none : c.replace.new.dest.items ≡ [] = ap (λ z. z.items) c.replace.ensures.after ∙ c.new.ensures.items in
    let emptied : List (Early g.row.M-Msg.Denot) → StateView g.row.M.Denot g.row.M-Msg.Denot = λ xs. record c.open.new.self { early = xs } in
    let kept : StateView g.row.M.Denot g.row.M-Msg.Denot → StateView g.row.M.Denot g.row.M-Msg.Denot = λ z. record z { early = c.replace.new.dest.items } in
    record {
      over = c.close.new.self;
      begun = c.open.new.self;
      closed = c.in_ok-close.ensures.closed;
      rest = c.in_ok-close.ensures.rest;
      opened =
          subst (λ (k : ℕ). HasOpened refines c.close.new.self c.open.new.self k (v.plan.start + v.setup.epoch)) next
          (subst (λ (k : ℕ). HasOpened refines c.close.new.self c.open.new.self c.in_ok-epoch.epoch k) start c.in_ok-open.ensures.opened);
      fits = omega (arith, c.in_ok-_end.ensures.sum, start, size);
      new_is = ap kept c.self-2.view_is ∙ ap emptied none;
      kept = ap (λ z. z.items) c.replace.ensures.value ∙ ap (λ z. z.early) c.self-2.view_is ∙ ap (λ z. z.early) c.in_ok-open.ensures.opened.rest ∙ ap (λ z. z.early) c.in_ok-close.ensures.rest;
    }
