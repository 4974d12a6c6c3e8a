use Rattle.std.proofs.Common.{◌≡◌, ◌∙◌, ◌+◌, ◌<◌, ◌≤◌, arith, length, rules, slice_index, subst, sym}
use Rattle.std.proofs.lemmas.Grind.{common_steps}
use Rattle.iss_request.specs.Log.{has_id}
use Rattle.iss_window.specs.Kept.{Kept, RefinesNoted}
use Rattle.iss_window.proofs.SpanLemmas.{held-stray}
use Rattle.iss_window.proofs.TableLemmas.{found-has_id}
use Rattle.iss_window.proofs.windows.Windows.ordered.Goals as goal

pub returns : goal.returns
returns c = λ n st.
    let id = c.args.id in
    let lows = c.self.inside.lows.items in
    let bits = c.self.inside.bits.items in
    let strays = c.self.inside.strays.keys in
    let client : id.client < 256 = search rules in
    let in_lows : id.client < length lows = omega (arith, client, c.self.invariant.size) in
    let low : c.index-low.result.now ≡ slice_index lows id.client = grind (arith, common_steps, in_lows) in
    let far : slice_index lows id.client + 64 ≤ id.number = omega (arith, low, c.if-number-low-2.false) in
    let kept : Kept = record { width = c.self.inside.width; lows = lows; bits = bits; strays = strays } in
    let here : RefinesNoted kept n = subst (λ (k : Kept). RefinesNoted k n) (sym c.self.view_is) st in
    c.contains.ensures ∙ found-has_id id strays ∙ sym (held-stray (slice_index lows id.client) (slice_index bits id.client) id.number (has_id id strays) far) ∙ here.noted id
