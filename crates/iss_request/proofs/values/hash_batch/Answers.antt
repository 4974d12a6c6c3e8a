use Rattle.std.proofs.Common.{ℕ, List, arith, subst, append_assoc, length}
use Rattle.std.specs.List.{flat_map}
use Rattle.sha2.specs.Hashers.{Holds256}
use Rattle.iss_request.specs.Formats.{spell_request, spell_count}
use Rattle.iss_request.proofs.FormatLemmas.{batch_unspelled, batch_spelled}
use Rattle.iss_request.proofs.values.hash_batch.Goals as goal

pub returns-then-len-requests_most : goal.returns-then-len-requests_most
returns-then-len-requests_most c m h =
    rw (batch_unspelled c.args.version c.args.batch.now (omega arith)) (c.update.ensures m h)

pub returns : goal.returns
returns c m h =
    let b = c.args.batch.now in
    let fed = c.hash_requests.ensures _ (c.hash_count.ensures m h) in
    rw (batch_spelled c.args.version b (omega arith))
    (subst (λ (x : List ℕ). Holds256 c.hash_requests.new.hasher x)
    (rw (c.as_slice.ensures, c.len-2.ensures)
    (append_assoc m (spell_count c.args.version (length b)) (flat_map spell_request b))) fed)
