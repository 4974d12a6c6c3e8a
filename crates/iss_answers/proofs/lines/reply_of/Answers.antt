use Rattle.std.proofs.Common.{List, ℕ, subst}
use Rattle.std.specs.Prelude.{IfOk}
use Rattle.iss_schedule.specs.Reads.{Reads}
use Rattle.iss_answers.specs.Lines.{IsInRange, reply_words}
use Rattle.iss_answers.proofs.LineLemmas.{line-reads}
use Rattle.iss_answers.proofs.lines.reply_of.Goals as goal

pub returns : goal.returns
returns c =
    line-reads c.args.line.now c.in-Some.rest.now c.reply_in.result c.in-Some.ensures.some
    (subst (λ (ws : List (List ℕ)). IfOk c.reply_in.result (Reads reply_words IsInRange ws)) c.of-words.ensures c.reply_in.ensures)
