use Rattle.std.proofs.Common.{◌≡◌, ◌∙◌, ◌+◌, ◌<◌, ◌^◌, ◌||◌, ◌/◌, arith, eqb, false, refl, rules, sym, ap}
use Rattle.iss_base.proofs.Lists.{eqb-other}
use Rattle.iss_window.specs.Kept.{is_set}
use Rattle.iss_window.proofs.SpanLemmas.{bit-next, no-bit-behind, step-moves}
use Rattle.iss_window.proofs.spans.step.Goals as goal

pub returns-then-stray-clause-moved : goal.returns-then-stray-clause-moved
returns-then-stray-clause-moved c =
    let s = c.args.span in
    step-moves c.args.client (s.low + 64) c.args.strays.now.keys c.take-stray.new.strays.keys c.take-stray.ensures.left s.low s.bits c.with_bit.result c.take-stray.result
    refl c.take-stray.ensures.there c.requires.fits c.requires.first
    (λ i lt.
    let other : eqb i 63 ≡ false = eqb-other i 63 (λ e. omega (arith, e, lt)) in
    c.with_bit.ensures i ∙ ap (λ b. b || is_set (s.bits / 2) i) other ∙ bit-next s.bits i)
    (c.with_bit.ensures 63 ∙ sym c.if-stray.true)

pub returns-else-stray-clause-moved : goal.returns-else-stray-clause-moved
returns-else-stray-clause-moved c =
    let s = c.args.span in
    let small : s.bits < 2 ^ 64 = search rules in
    step-moves c.args.client (s.low + 64) c.args.strays.now.keys c.take-stray.new.strays.keys c.take-stray.ensures.left s.low s.bits (s.bits / 2) c.take-stray.result
    refl c.take-stray.ensures.there c.requires.fits c.requires.first
    (λ i lt. bit-next s.bits i)
    (bit-next s.bits 63 ∙ no-bit-behind s.bits small ∙ sym c.if-stray.false)
