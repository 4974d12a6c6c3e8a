use Rattle.iss_request.proofs.Readings.{named, byte_read, byte_unread}
use Rattle.iss_request.specs.Parsing.{byte}
use Rattle.iss_request.proofs.fields.Fields.read_u8.Goals as goal

pub returns-in-Some-clause-ok : goal.returns-in-Some-clause-ok
returns-in-Some-clause-ok c = byte_read _ _ _ c.in-Some.ensures.some c.in-Some.ensures.moved

pub returns-in-None-clause-bad : goal.returns-in-None-clause-bad
returns-in-None-clause-bad c at e =
    named byte c.args.self.now _ _ at (byte_unread c.args.self.now c.in-None.ensures.none) c.bad_field-missing.ensures e
