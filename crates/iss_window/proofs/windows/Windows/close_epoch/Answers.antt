use Rattle.std.proofs.Common.{subst, sym}
use Rattle.iss_window.specs.Kept.{Kept, RefinesNoted}
use Rattle.iss_window.proofs.KeptLemmas.{closed}
use Rattle.iss_window.proofs.windows.Windows.close_epoch.Goals as goal

pub returns-clause-closed : goal.returns-clause-closed
returns-clause-closed c = λ n st.
    let kept : Kept = record { width = c.self.inside.width; lows = c.self.inside.lows.items; bits = c.self.inside.bits.items; strays = c.self.inside.strays.keys } in
    let new : Kept = record { width = c.self.inside.width; lows = c.raise_all.new.lows.items; bits = c.raise_all.new.bits.items; strays = c.raise_all.new.strays.keys } in
    closed kept new n (subst (λ (k : Kept). RefinesNoted k n) (sym c.self.view_is) st) c.raise_all.ensures.same c.raise_all.ensures.raised
