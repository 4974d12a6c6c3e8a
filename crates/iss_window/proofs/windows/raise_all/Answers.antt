use Rattle.std.proofs.Common.{◌≡◌, ◌<◌, ◌∙◌, ⊎_elim, arith, length, slice_index}
use Rattle.std.proofs.lemmas.Grind.{common_steps}
use Rattle.iss_base.proofs.Lists.{same_or_not}
use Rattle.iss_window.proofs.TableLemmas.{first-here, first-same, spans-same, spans-table}
use Rattle.iss_window.proofs.windows.raise_all.Goals as goal

pub loop-client-preserved : goal.loop-client-preserved
loop-client-preserved c =
    let i = c.loop-client.client in
    let lows = c.loop-client.lows.items in
    let bits = c.loop-client.bits.items in
    let before = c.loop-client.strays.keys in
    let after = c.raise-raised.new.strays.keys in
    let t = c.raise-raised.result in
    let small : i < 256 = omega (arith, c.loop-client-test.true) in
    let within : i < length lows = omega (arith, c.loop-client.invariant.table.size, small) in
    let in_bits : i < length bits = omega (arith, c.loop-client.invariant.table.bits_size, small) in
    let size : length bits ≡ length lows = omega (arith, c.loop-client.invariant.table.size, c.loop-client.invariant.table.bits_size) in
    let low : c.index-low.result.now ≡ slice_index lows i = grind (arith, common_steps, within) in
    let old : c.index-marks.result.now ≡ slice_index bits i = grind (arith, common_steps, in_bits) in
    record {
      table = spans-table lows bits i c.index-low.result.now c.index-marks.result.now t before after within size low old c.raise-raised.ensures.moved c.loop-client.invariant.table small;
      same = λ id. spans-same lows bits i c.index-low.result.now c.index-marks.result.now t before after within size low old c.raise-raised.ensures.moved id ∙ c.loop-client.invariant.same id;
      raised = λ k lt. ⊎_elim
          (λ (e : k ≡ i). first-here lows bits i c.index-low.result.now c.index-marks.result.now t before after within size low old c.raise-raised.ensures.moved k e c.raise-raised.ensures.first)
          (λ ne. first-same lows bits i c.index-low.result.now c.index-marks.result.now t before after within size low old c.raise-raised.ensures.moved k ne (c.loop-client.invariant.raised k (omega (arith, lt, ne))))
          (same_or_not k i);
    }
