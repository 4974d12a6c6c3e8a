use Rattle.iss_request.proofs.FormatLemmas.{both_written}
use Rattle.iss_snapshot.proofs.writing.put_head.Goals as goal

pub returns : goal.returns
returns c = both_written _ _ _ _ _ _ c.in_ok-put_u8.ensures.ok c.put_span.ensures
