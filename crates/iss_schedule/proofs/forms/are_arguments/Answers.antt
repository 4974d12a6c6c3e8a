use Rattle.std.proofs.Common.{arith, rules, true, false, ◌≡◌}
use Rattle.std.proofs.lemmas.Bool.{false≢true, iff_false}
use Rattle.iss_schedule.proofs.Encoding.ArgumentsAreRead.{too_few, next_argument}
use Rattle.iss_schedule.proofs.forms.are_arguments.Goals as goal

pub returns-in_default : goal.returns-in_default
returns-in_default c = (
  (λ t. absurd (false≢true t)),
  (λ h. absurd (too_few c.args.numbers c.loop.counter c.args.bytes c.loop.words (omega arith) c.in_default.ensures.none
      (c.loop.invariant.0 h))),
)

pub returns-then-not-is_number : goal.returns-then-not-is_number
returns-then-not-is_number c =
    let next = next_argument c.args.numbers c.loop.counter c.args.bytes c.loop.words c.next.new.self c.in-Some.word.now
    (omega arith) c.in-Some.ensures.some in (
      (λ t. absurd (false≢true t)),
      (λ h. absurd (iff_false c.is_number.ensures (let no : c.is_number.result ≡ false = search rules in
          no) (next.0 (c.loop.invariant.0 h)).0)),
    )

pub loop-preserved : goal.loop-preserved
loop-preserved c =
    let next = next_argument c.args.numbers c.loop.counter c.args.bytes c.loop.words c.next.new.self c.in-Some.word.now
    (omega arith) c.in-Some.ensures.some in (
      (λ h. (next.0 (c.loop.invariant.0 h)).1),
      (λ h. c.loop.invariant.1 (next.1
          (c.is_number.ensures.0 (let yes : c.is_number.result ≡ true = search rules in yes), h))),
    )
