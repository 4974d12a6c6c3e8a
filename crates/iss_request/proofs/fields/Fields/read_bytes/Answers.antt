use Rattle.iss_request.proofs.Readings.{named, block_read, block_unread}
use Rattle.iss_request.specs.Parsing.{block}
use Rattle.iss_request.proofs.fields.Fields.read_bytes.Goals as goal

pub returns-in-Some-clause-ok : goal.returns-in-Some-clause-ok
returns-in-Some-clause-ok c =
    block_read c.args.count _ _ _ c.in-Some.ensures.some c.in-Some.ensures.long c.in-Some.ensures.moved

pub returns-in-None-clause-bad : goal.returns-in-None-clause-bad
returns-in-None-clause-bad c at e =
    named (block c.args.count) c.args.self.now _ _ at
    (block_unread c.args.count c.args.self.now c.in-None.ensures.none) c.bad_field-missing.ensures e
