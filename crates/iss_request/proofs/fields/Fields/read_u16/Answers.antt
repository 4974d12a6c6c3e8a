use Rattle.std.proofs.Common.{◌^◌, arith}
use Rattle.std.specs.Int.{w16}
use Rattle.iss_request.proofs.ParserLemmas.{wide16}
use Rattle.iss_request.proofs.Readings.{named, number_read, number_unread}
use Rattle.iss_request.specs.Parsing.{number}
use Rattle.iss_request.proofs.fields.Fields.read_u16.Goals as goal

pub returns-in-Some-clause-ok : goal.returns-in-Some-clause-ok
returns-in-Some-clause-ok c =
    number_read w16 (2 ^ 16) wide16 _ _ _ (omega arith) c.in-Some.ensures.some c.in-Some.ensures.moved

pub returns-in-None-clause-bad : goal.returns-in-None-clause-bad
returns-in-None-clause-bad c at e =
    named (number w16) c.args.self.now _ _ at
    (number_unread w16 c.args.self.now c.in-None.ensures.none) c.bad_field-missing.ensures e
