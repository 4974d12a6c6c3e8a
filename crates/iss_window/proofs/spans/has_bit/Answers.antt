use Rattle.iss_window.proofs.SpanLemmas.{bit-tested}
use Rattle.iss_window.proofs.spans.has_bit.Goals as goal

pub returns : goal.returns
returns c = bit-tested c.args.bits c.args.place
