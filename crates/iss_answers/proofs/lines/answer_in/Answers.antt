use Rattle.std.proofs.Common.{◌<◌, ◌∙◌, ap, arith, length, sym}
use Rattle.iss_schedule.specs.Words.{word_of}
use Rattle.iss_answers.proofs.LineLemmas.{answer-not}
use Rattle.iss_answers.proofs.lines.answer_in.Goals as goal

pub returns-else-len-le65535-clause-none : goal.returns-else-len-le65535-clause-none
returns-else-len-le65535-clause-none c =
    let word = rw c.in-Some-2.is at c.in_ok-bytes.ensures.some in
    let over : 65535 < length c.bytes_from-answer.result = omega (arith, c.if-len-le65535.false, c.len.ensures) in
    answer-not c.args.words.now c.next.new.self c.in-Some.word.now c.bytes_from-answer.result c.in-Some.ensures.some (word ∙ ap word_of (sym c.bytes_from-answer.ensures.same)) c.bytes_from-answer.ensures.bytes over
