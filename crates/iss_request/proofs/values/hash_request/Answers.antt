use Rattle.iss_request.proofs.FormatLemmas.{request_spelled, request_unspelled}
use Rattle.iss_request.proofs.values.hash_request.Goals as goal

pub returns-then-is_spellable : goal.returns-then-is_spellable
returns-then-is_spellable c m h =
    rw (request_spelled c.args.request.now c.if-is_spellable.ensures) (c.hash_parts.ensures m h)

pub returns-else-is_spellable : goal.returns-else-is_spellable
returns-else-is_spellable c m h =
    rw (request_unspelled c.args.request.now c.if-is_spellable.ensures) (c.update.ensures m h)
