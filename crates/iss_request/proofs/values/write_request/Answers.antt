use Rattle.iss_request.proofs.FormatLemmas.{request_spelled, request_unspelled}
use Rattle.iss_request.proofs.values.write_request.Goals as goal

pub returns-then-is_spellable : goal.returns-then-is_spellable
returns-then-is_spellable c = rw (request_spelled c.args.request.now c.if-is_spellable.ensures) c.put_request.ensures

pub returns-else-is_spellable : goal.returns-else-is_spellable
returns-else-is_spellable c = rw (request_unspelled c.args.request.now c.if-is_spellable.ensures) c.put_bytes.ensures.ok
