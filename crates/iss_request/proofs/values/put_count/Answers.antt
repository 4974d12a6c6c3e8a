use Rattle.std.proofs.Common.{ap, ◌∙◌}
use Rattle.iss_request.specs.Formats.{is_second}
use Rattle.iss_request.proofs.FormatLemmas.{first_count, second_count}
use Rattle.iss_request.proofs.values.put_count.Goals as goal

pub returns-then-is_second : goal.returns-then-is_second
returns-then-is_second c =
    rw (second_count c.args.out.now.version c.args.count (c.if-is_second.ensures ∙ ap is_second c.version.ensures))
    c.put_u16.ensures.ok

pub returns-else-is_second : goal.returns-else-is_second
returns-else-is_second c =
    rw (first_count c.args.out.now.version c.args.count (c.if-is_second.ensures ∙ ap is_second c.version.ensures))
    c.put_u8.ensures.ok
