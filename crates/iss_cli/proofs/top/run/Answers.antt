use Rattle.std.proofs.Common.{map, string_bytes}
use Rattle.iss_cli.proofs.TopLemmas.{ends, links_said, source_said}
use Rattle.iss_cli.proofs.top.run.Goals as goal

pub returns-in-Ok-clause-printed : goal.returns-in-Ok-clause-printed
returns-in-Ok-clause-printed g c =
    ends (map string_bytes c.args.words.now) (g.I.Source.left c.args.input.now) (g.I.Source.left c.answer.new.input) _ _ (g.O.Sink.held c.args.out.now)
    (g.O.Sink.held c.print.new.out) c.in-Ok.answer c.print.result c.in-Ok.ensures.ok c.print.ensures.printed

pub returns-in-Err-clause-source : goal.returns-in-Err-clause-source
returns-in-Err-clause-source g c = rw c.status_without.ensures (source_said _ _ c.in-Err.error c.in-Err.ensures.source)

pub returns-in-Err-clause-links : goal.returns-in-Err-clause-links
returns-in-Err-clause-links g c = rw c.status_without.ensures (links_said _ _ c.in-Err.error c.in-Err.ensures.links)
