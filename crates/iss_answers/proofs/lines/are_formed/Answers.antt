use Rattle.std.proofs.lemmas.Result.{IfOk-weaker}
use Rattle.iss_answers.proofs.LineLemmas.{all-formed}
use Rattle.iss_answers.proofs.lines.are_formed.Goals as goal

pub returns : goal.returns
returns c =
    IfOk-weaker c.are_last_formed.result _ _
    (λ b test.
    all-formed c.args.words.now c.next.new.self c.next-2.new.self c.next-3.new.self c.in-Some.by.now c.in-Some-next.epoch.now c.in-Some-next-2.q.now b c.in-Some.ensures.some c.in-Some-next.ensures.some c.in-Some-next-2.ensures.some
    (c.is_number.ensures.0 c.if-not-is_number.false) (c.is_number-else-not-is_number.ensures.0 c.if-not-is_number-2.false) (c.is_number-else-not-is_number-2.ensures.0 c.if-not-is_number-3.false) test)
    c.are_last_formed.ensures
