use Rattle.std.proofs.Common.{◌∙◌, ◌++◌, ◌∷◌, List, ℕ, ap, arith, refl, set, take}
use Rattle.std.proofs.lemmas.List.{length-set}
use Rattle.std.proofs.lemmas.Result.{err_from_is_err_and}
use Rattle.iss_schedule.specs.declared.errors.LineFault.TheVariants.{Cut}
use Rattle.iss_schedule.specs.Headers.{next_field}
use Rattle.iss_schedule.proofs.BadLines.PrefixesAreRead.{amiss, one_more, read_amiss}
use Rattle.iss_schedule.proofs.HeaderTable.ValuesDetermineSetup.{few_so_far}
use Rattle.iss_schedule.proofs.header.read_header.Goals as goal

pub returns-in_err-value-clause-bad : goal.returns-in_err-value-clause-bad
returns-in_err-value-clause-bad c =
    let p = err_from_is_err_and c.from_residual-in_err-value.result c.from_residual-in_err-value.ensures.1 in
    rw (p.1, p.2)
    (read_amiss c.args.lines.now.rest c.loop-place.values c.loop-place.place c.loop-place.lines.rest
    c.loop-place.invariant.size
    (omega arith) c.loop-place.invariant.some c.loop-place.invariant.text c.next.new.self.read
    (omega (arith, c.next.ensures.read, c.loop-place.invariant.read)) c.in_err-value.field-0.0
    (amiss (next_field (take c.loop-place.place c.loop-place.values)) (take c.loop-place.place c.loop-place.values)
    c.in_ok-line.line.now c.loop-place.lines c.next.new.self c.in_err-value.field-0.0 c.in_ok-line.ensures.ok c.in_err-value.ensures))

pub loop-place-preserved : goal.loop-place-preserved
loop-place-preserved c =
    let reads = c.in_ok-value.ensures in
    let text = c.in_ok-line.ensures.ok.text ∙ ap (λ (l : List ℕ). l ++ 10 ∷ c.next.new.self.rest) reads.0 in
    let more = one_more c.args.lines.now.rest c.loop-place.values
    (set c.loop-place.values c.loop-place.place c.in_ok-value.value) c.loop-place.place c.in_ok-value.value
    c.loop-place.lines.rest c.next.new.self.rest
    c.loop-place.invariant.size
    (omega arith) c.loop-place.invariant.some c.loop-place.invariant.text text reads.1 refl in
    record {
      size = length-set c.loop-place.values c.loop-place.place c.in_ok-value.value ∙ c.loop-place.invariant.size;
      text = more.0;
      some = more.1;
      read = omega (arith, c.next.ensures.read, c.loop-place.invariant.read);
    }

pub value_of-requires-clause-faults : goal.value_of-requires-clause-faults
value_of-requires-clause-faults c = few_so_far _ _ c.loop-place.invariant.some

pub returns-in_err-line-clause-bad : goal.returns-in_err-line-clause-bad
returns-in_err-line-clause-bad c =
    let p = err_from_is_err_and c.from_residual.result c.from_residual.ensures.1 in
    rw (p.1, p.2)
    (rw c.in_err-line.ensures.cut
    (read_amiss c.args.lines.now.rest c.loop-place.values c.loop-place.place c.loop-place.lines.rest
    c.loop-place.invariant.size
    (omega arith) c.loop-place.invariant.some c.loop-place.invariant.text c.next.new.self.read
    (omega (arith, c.next.ensures.read, c.loop-place.invariant.read)) Cut c.in_err-line.ensures.unended))
