use Rattle.std.proofs.Common.{◌∙◌, sym}
use Rattle.iss_schedule.proofs.Encoding.NoSeparatorInWords.{line_reads, no_name}
use Rattle.iss_schedule.proofs.events.event_of.Goals as goal

pub returns-in_default-name_of : goal.returns-in_default-name_of
returns-in_default-name_of c =
    no_name c.args.setup.now c.args.line.now c.in-Some.word.now c.next.new.self c.requires.good (sym c.of-words.ensures
    ∙ c.in-Some.ensures.some) c.in_default-name_of.ensures.none

pub returns : goal.returns
returns c =
    line_reads c.args.setup.now c.args.line.now c.in-Some.word.now c.in-Some-name_of.name c.next.new.self
    c.event_in.result c.requires.good (sym c.of-words.ensures
    ∙ c.in-Some.ensures.some) c.in-Some-name_of.ensures.some c.event_in.ensures
