use Rattle.std.proofs.Common.{ap, ◌∙◌, arith}
use Rattle.iss_request.specs.Formats.{requests_most}
use Rattle.iss_request.proofs.FormatLemmas.{batch_unspelled, batch_spelled, both_written}
use Rattle.iss_request.proofs.values.write_batch.Goals as goal

pub returns-then-len-requests_most : goal.returns-then-len-requests_most
returns-then-len-requests_most c =
    rw (batch_unspelled c.args.out.now.version c.args.batch.now
    (omega (arith, c.requests_most.ensures ∙ ap requests_most c.version.ensures))) c.put_bytes.ensures.ok

pub returns : goal.returns
returns c =
    rw (batch_spelled c.args.out.now.version c.args.batch.now
    (omega (arith, c.requests_most.ensures ∙ ap requests_most c.version.ensures)))
    (both_written _ _ _ _ _ _ (rw c.len-2.ensures at c.in_ok-put_count.ensures)
    (rw c.as_slice.ensures at c.write_requests.ensures))
