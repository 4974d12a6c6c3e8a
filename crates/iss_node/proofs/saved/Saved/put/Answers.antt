use Rattle.std.proofs.Common.{suc, nat_le, refl, subst}
use Rattle.iss_node.proofs.Steps.SavedAfter.{put-below}
use Rattle.iss_node.specs.Internal.Marks.{HasPut}
use Rattle.iss_node.specs.Saved.{SavedState}
use Rattle.iss_node.proofs.saved.Saved.put.Goals as goal

pub returns : goal.returns
returns c =
    let now : SavedState = record { from = c.self.inside.from.0; low = c.self.inside.low; strays = c.insert.new.self.keys } in
    subst (λ (old : SavedState). HasPut old c.args.epoch.0 now) c.self.view_is (record {
      from = refl;
      held = λ e. put-below (nat_le (suc e) c.self.inside.low) c.args.epoch.0 e _ _ (c.in_ok-insert.ensures.updates.0 e);
    })
