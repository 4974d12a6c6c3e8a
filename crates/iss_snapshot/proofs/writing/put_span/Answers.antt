use Rattle.iss_request.proofs.FormatLemmas.{both_written}
use Rattle.iss_snapshot.proofs.writing.put_span.Goals as goal

pub returns : goal.returns
returns c = both_written _ _ _ _ _ _ c.in_ok-put_u64.ensures.ok c.put_u64-2.ensures.ok
