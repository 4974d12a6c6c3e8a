use Rattle.std.proofs.Common.{sym, refl}
use Rattle.iss_node.proofs.Wire.DecodingRefines.{bad-whole}
use Rattle.iss_node.proofs.parcels.read_message.Goals as goal

pub returns-in-Err-BadField : goal.returns-in-Err-BadField
returns-in-Err-BadField g c = sym (bad-whole g.M.Sequenced.spec.parse c.over_bytes-fields.result c.args.version c.args.bytes.now _ c.over_bytes-fields.ensures (rw c.in-Err-BadField.field-0-is at c.in-Err-BadField.ensures.bad c.in-Err-BadField.field-0-0 refl))
