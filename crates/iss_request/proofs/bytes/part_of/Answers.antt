use Rattle.iss_request.proofs.Parts.{cut_off}
use Rattle.iss_request.proofs.bytes.part_of.Goals as goal

pub returns : goal.returns
returns c = cut_off c.args.all.now c.args.from c.args.to c.min-to.result c.min.result c.min-to.ensures c.min.ensures
