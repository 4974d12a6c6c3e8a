use Rattle.std.proofs.Common.{◌∙◌, ◌++◌, ◌∷◌, List, ℕ, ap, ap₂, get_or, length}
use Rattle.iss_segment.proofs.Signed.{statement-put}
use Rattle.iss_segment.proofs.signatures.put_statement.Goals as goal

pub returns : goal.returns
returns c =
    let payload = c.args.payload.now in
    statement-put c.copy_from_slice.new.self _ c.copy_from_slice-2.new.self payload _ (ap (λ (z : List ℕ). length z) c.copy_from_slice.ensures.after) c.copy_from_slice-2.ensures.after
    ∙ ap (λ (z : List ℕ). z ++ payload) c.copy_from_slice.ensures.after
    ∙ ap₂ (λ (a b : List ℕ). 48 ∷ c.args.id.client ∷ get_or a 0 0 ∷ get_or a 1 0 ∷ get_or a 2 0 ∷ get_or a 3 0 ∷ get_or b 0 0 ∷ get_or b 1 0 ∷ payload) c.to_be_bytes.ensures c.to_be_bytes-2.ensures
