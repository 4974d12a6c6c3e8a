use Rattle.std.proofs.Common.{subst}
use Rattle.iss_window.specs.Kept.{Kept}
use Rattle.iss_window.proofs.HistoryLemmas.{NoStrays, no-strays}
use Rattle.iss_window.proofs.laws.windows_used_in_order_have_no_strays.Goals as goal

pub returns : goal.returns
returns c = λ ms.
    let w = c.windows.inside in
    let kept : Kept = record { width = w.width; lows = w.lows.items; bits = w.bits.items; strays = w.strays.keys } in
    subst (λ (k : Kept). NoStrays k ms) c.windows.view_is (no-strays kept ms c.windows.invariant)
