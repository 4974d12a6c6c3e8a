use Rattle.std.proofs.Common.{◌≡◌, ◌+◌, true, sym, subst, refl}
use Rattle.iss_node.proofs.Steps.SavedAfter.{moved-up}
use Rattle.iss_node.specs.Internal.Marks.{HoldsTheSame}
use Rattle.iss_node.specs.Saved.{SavedState, stray}
use Rattle.iss_node.proofs.saved.Saved.step.Goals as goal

pub returns-clause-same : goal.returns-clause-same
returns-clause-same c =
    let before : SavedState = record { from = c.self.inside.from.0; low = c.self.inside.low; strays = c.self.inside.strays.keys } in
    let now : SavedState = record { from = c.self.inside.from.0; low = c.self.inside.low + 1; strays = c.remove.new.self.keys } in
    let held = subst (λ (s : SavedState). stray s s.low ≡ true) (sym c.self.view_is) c.requires.held in
    subst (λ (old : SavedState). HoldsTheSame old now) c.self.view_is (record {
      from = refl;
      held = λ e. moved-up c.self.inside.low e (stray before) _ held (c.remove.ensures.updates.0 e);
    })
