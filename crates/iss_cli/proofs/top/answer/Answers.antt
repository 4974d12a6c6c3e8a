use Rattle.std.proofs.Common.{map, string_bytes}
use Rattle.iss_cli.proofs.TopLemmas.{answer_refused}
use Rattle.iss_cli.proofs.top.answer.Goals as goal

pub returns-in_ok-refuse_words-in-Err-Refused-clause-ok : goal.returns-in_ok-refuse_words-in-Err-Refused-clause-ok
returns-in_ok-refuse_words-in-Err-Refused-clause-ok g c =
    answer_refused (map string_bytes c.args.words.now) (g.I.Source.left c.args.input.now) (g.I.Source.left c.args.input.now) _ _ c.in_ok-refuse_words-in-Err-Refused.field-0
    c.read_words.result c.in-Err-Refused.field-0 c.in-Err-Refused.is c.in-Err-Refused.field-0-is c.read_words.ensures.refused c.in_ok-refuse_words-in-Err-Refused.ensures
