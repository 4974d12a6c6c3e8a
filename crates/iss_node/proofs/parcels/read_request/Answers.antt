use Rattle.std.proofs.Common.{sym, refl}
use Rattle.iss_node.proofs.Wire.DecodingRefines.{bad-whole}
use Rattle.iss_request.specs.Formats.{parse_request}
use Rattle.iss_node.proofs.parcels.read_request.Goals as goal

pub returns-in-Err-BadField : goal.returns-in-Err-BadField
returns-in-Err-BadField c = sym (bad-whole (λ _. parse_request) c.over_bytes-fields.result c.args.version c.args.bytes.now _ c.over_bytes-fields.ensures (rw c.in-Err-BadField.field-0-is at c.in-Err-BadField.ensures.bad c.in-Err-BadField.field-0-0 refl))
