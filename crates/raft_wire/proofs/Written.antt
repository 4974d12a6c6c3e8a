-- The fields that the code writes in sequence are the encodings.
use Rattle.std.proofs.Common.{◌≡◌, ℕ, List, [], ◌∷◌, append_assoc}
use Rattle.std.specs.Int.{to_be_bytes, w16, w32}
use Rattle.iss_request.specs.Fields.{Written, and_bytes}
use Rattle.raft_wire.specs.Messages.{append_row}

pub append-written : (term previous previous_term commit count : ℕ) (entries : ℕ → List ℕ) (a b c d e f g h : Written) →
    b ≡ and_bytes a (1 ∷ []) → c ≡ and_bytes b (to_be_bytes w16 term) → d ≡ and_bytes c (to_be_bytes w32 previous) → e ≡ and_bytes d (to_be_bytes w16 previous_term) →
    f ≡ and_bytes e (to_be_bytes w32 commit) → g ≡ and_bytes f (to_be_bytes w32 count) → h ≡ and_bytes g (entries g.version) →
    h ≡ and_bytes a (append_row term previous previous_term commit count (entries a.version))
append-written term previous previous_term commit count entries a b c d e f g h hb hc hd he hf hg hh = rw (hh, hg, hf, he, hd, hc, hb) (simp append_assoc)
