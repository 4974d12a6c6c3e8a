use Rattle.iss_request.proofs.FormatLemmas.{nil_spelled}
use Rattle.iss_request.proofs.values.write_value.Goals as goal

pub returns-in-Nil : goal.returns-in-Nil
returns-in-Nil c = rw (nil_spelled c.args.out.now.version c.args.value.now c.in-Nil.is) c.put_u8.ensures.ok
