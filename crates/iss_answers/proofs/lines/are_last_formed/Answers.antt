use Rattle.std.proofs.lemmas.Result.{IfOk-weaker}
use Rattle.iss_answers.proofs.LineLemmas.{last-formed}
use Rattle.iss_answers.proofs.lines.are_last_formed.Goals as goal

pub returns : goal.returns
returns c =
    IfOk-weaker c.is_hex-2.result _ _
    (λ b test.
    last-formed c.args.words.now c.next.new.self c.next-2.new.self c.next-3.new.self c.in-Some.id.now c.in-Some-next.answer.now c.in-Some-next-2.sig.now b c.in-Some.ensures.some c.in-Some-next.ensures.some c.in-Some-next-2.ensures.some
    (c.is_done.ensures.0 c.if-not-is_done.false) (c.is_id.ensures.0 c.if-not-is_id.false) (c.in_ok-is_hex.ensures.0 c.if-not-branch.false) test)
    c.is_hex-2.ensures
