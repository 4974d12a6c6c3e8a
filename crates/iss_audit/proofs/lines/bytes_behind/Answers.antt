use Rattle.iss_audit.proofs.LineLemmas.{reads-behind}
use Rattle.iss_audit.proofs.lines.bytes_behind.Goals as goal

pub returns : goal.returns
returns c = reads-behind c.args.name.now c.args.line.now c.in-Some.word.now c.bytes_in.result c.in-Some.ensures.some c.bytes_in.ensures
