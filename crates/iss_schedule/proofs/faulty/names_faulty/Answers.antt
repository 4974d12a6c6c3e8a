use Rattle.std.proofs.Common.{rules, sym, ◌∙◌}
use Rattle.std.proofs.lemmas.Bool.{iff_false}
use Rattle.iss_schedule.proofs.Encoding.ArgumentsAreRead.{faulty_words}
use Rattle.iss_schedule.proofs.faulty.names_faulty.Goals as goal

pub returns : goal.returns
returns c =
    let named = c.is_same.ensures.0 (search rules) in
    faulty_words c.args.line.now c.in-Some.word.now c.next.new.self c.are_numbers.result (sym c.of-words.ensures
    ∙ c.in-Some.ensures.some) named
    (iff_false c.is_done.ensures c.if-is_done.false) c.are_numbers.ensures
