use Rattle.std.proofs.Common.{◌<◌, ◌^◌, rules}
use Rattle.iss_answers.proofs.LineLemmas.{number-not}
use Rattle.iss_answers.proofs.lines.number_in.Goals as goal

pub returns-else-number-most-clause-none : goal.returns-else-number-most-clause-none
returns-else-number-most-clause-none c =
    let fits : c.in_ok-number.number < 2 ^ 64 = search rules in
    let over : c.args.most < c.in_ok-number.number = search rules in
    number-not c.args.words.now c.next.new.self c.in_ok-word.word.now c.in_ok-number.number c.args.most c.in_ok-word.ensures.some c.in_ok-number.ensures.some fits over
