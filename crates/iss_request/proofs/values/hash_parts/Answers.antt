use Rattle.std.proofs.Common.{ℕ, List, subst}
use Rattle.sha2.specs.Hashers.{Holds256}
use Rattle.iss_request.proofs.FormatLemmas.{five_parts}
use Rattle.iss_request.proofs.values.hash_parts.Goals as goal

pub returns : goal.returns
returns c m h =
    let r = c.args.request.now in
    let fed = c.update-5.ensures _
    (c.update-4.ensures _ (c.update-3.ensures _ (c.update-2.ensures _ (c.update.ensures m h)))) in
    subst (λ (x : List ℕ). Holds256 c.update-5.new.self x)
    (rw (c.to_be_bytes.ensures, c.to_be_bytes-2.ensures, c.as_slice.ensures, c.as_slice-2.ensures, c.len.ensures)
    (five_parts m r.id.client _ _ r.payload r.sig)) fed
