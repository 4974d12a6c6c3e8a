use Rattle.std.proofs.Common.{◌≡◌, ◌∙◌, ◌+◌, ◌-◌, ◌<◌, ◌≤◌, ◌^◌, ◌||◌, arith, ap, eqb, length, refl, rules, slice_index, slice_set, subst, sym, true}
use Rattle.std.proofs.lemmas.Grind.{common_steps}
use Rattle.iss_window.specs.Kept.{Kept, RefinesNoted, is_set}
use Rattle.iss_window.proofs.KeptLemmas.{noted-more}
use Rattle.iss_window.proofs.TableLemmas.{bits-more, bits-table, has-changed, has-more, strays-more, strays-table}
use Rattle.iss_window.proofs.windows.Windows.note.Goals as goal

pub invariant_of-self : goal.invariant_of-self
invariant_of-self c =
    let id = c.args.id in
    let lows = c.self.inside.lows.items in
    let bits = c.self.inside.bits.items in
    let client : id.client < 256 = search rules in
    let small : id.number < 2 ^ 32 = search rules in
    let in_lows : id.client < length lows = omega (arith, client, c.self.invariant.size) in
    let in_bits : id.client < length bits = omega (arith, client, c.self.invariant.bits_size) in
    let low : c.index-low.result.now ≡ slice_index lows id.client = grind (arith, common_steps, in_lows) in
    let old : c.index-bits.result.now ≡ slice_index bits id.client = grind (arith, common_steps, in_bits) in
    let le : slice_index lows id.client ≤ id.number = omega (arith, low, c.if-number-low.false) in
    bits-table lows bits c.self.inside.strays.keys id c.with_bit.result in_bits c.self.invariant small le
    (λ i. c.with_bit.ensures i ∙ ap (λ l. eqb i (id.number - l) || is_set c.index-bits.result.now i) low
    ∙ ap (λ b. eqb i (id.number - slice_index lows id.client) || is_set b i) old)

pub returns-then-number-low-2-clause-ok : goal.returns-then-number-low-2-clause-ok
returns-then-number-low-2-clause-ok c = λ n st.
    let id = c.args.id in
    let lows = c.self.inside.lows.items in
    let bits = c.self.inside.bits.items in
    let strays = c.self.inside.strays.keys in
    let client : id.client < 256 = search rules in
    let in_lows : id.client < length lows = omega (arith, client, c.self.invariant.size) in
    let in_bits : id.client < length bits = omega (arith, client, c.self.invariant.bits_size) in
    let low : c.index-low.result.now ≡ slice_index lows id.client = grind (arith, common_steps, in_lows) in
    let old : c.index-bits.result.now ≡ slice_index bits id.client = grind (arith, common_steps, in_bits) in
    let le : slice_index lows id.client ≤ id.number = omega (arith, low, c.if-number-low.false) in
    let lt : id.number < slice_index lows id.client + 64 = omega (arith, low, c.if-number-low-2.true) in
    let kept : Kept = record { width = c.self.inside.width; lows = lows; bits = bits; strays = strays } in
    let new : Kept = record { width = c.self.inside.width; lows = lows; bits = slice_set bits id.client c.with_bit.result; strays = strays } in
    noted-more kept new n id (subst (λ (k : Kept). RefinesNoted k n) (sym c.self.view_is) st) refl
    (bits-more lows bits strays id c.with_bit.result in_bits le lt
    (λ i. c.with_bit.ensures i ∙ ap (λ l. eqb i (id.number - l) || is_set c.index-bits.result.now i) low
    ∙ ap (λ b. eqb i (id.number - slice_index lows id.client) || is_set b i) old))

pub invariant_of-self-2 : goal.invariant_of-self-2
invariant_of-self-2 c =
    let id = c.args.id in
    let lows = c.self.inside.lows.items in
    let client : id.client < 256 = search rules in
    let small : id.number < 2 ^ 32 = search rules in
    let in_lows : id.client < length lows = omega (arith, client, c.self.invariant.size) in
    let low : c.index-low.result.now ≡ slice_index lows id.client = grind (arith, common_steps, in_lows) in
    let far : slice_index lows id.client + 64 ≤ id.number = omega (arith, low, c.if-number-low-2.false) in
    strays-table lows c.self.inside.bits.items c.self.inside.strays.keys c.insert.new.self.keys id
    (λ x. has-more c.self.inside.strays.keys c.insert.new.self.keys id x (has-changed c.self.inside.strays.keys c.insert.new.self.keys id x true (c.in_ok-insert.ensures.updates.0 x)))
    c.self.invariant client small far

pub returns-clause-ok : goal.returns-clause-ok
returns-clause-ok c = λ n st.
    let id = c.args.id in
    let lows = c.self.inside.lows.items in
    let bits = c.self.inside.bits.items in
    let strays = c.self.inside.strays.keys in
    let client : id.client < 256 = search rules in
    let in_lows : id.client < length lows = omega (arith, client, c.self.invariant.size) in
    let low : c.index-low.result.now ≡ slice_index lows id.client = grind (arith, common_steps, in_lows) in
    let far : slice_index lows id.client + 64 ≤ id.number = omega (arith, low, c.if-number-low-2.false) in
    let kept : Kept = record { width = c.self.inside.width; lows = lows; bits = bits; strays = strays } in
    let new : Kept = record { width = c.self.inside.width; lows = lows; bits = bits; strays = c.insert.new.self.keys } in
    noted-more kept new n id (subst (λ (k : Kept). RefinesNoted k n) (sym c.self.view_is) st) refl
    (strays-more lows bits strays c.insert.new.self.keys id
    (λ x. has-more strays c.insert.new.self.keys id x (has-changed strays c.insert.new.self.keys id x true (c.in_ok-insert.ensures.updates.0 x))) far)
