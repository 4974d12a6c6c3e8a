use Rattle.iss_window.proofs.SpanLemmas.{bit-set}
use Rattle.iss_window.proofs.spans.with_bit.Goals as goal

pub returns : goal.returns
returns c = λ i. bit-set c.args.bits c.args.place i c.requires
