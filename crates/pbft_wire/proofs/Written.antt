-- The written fields, concatenated, are the encoding of the message.
use Rattle.std.proofs.Common.{◌≡◌, ℕ, List, [], ◌∷◌, ◌++◌, append_assoc}
use Rattle.std.specs.Int.{to_be_bytes, w16, w64}
use Rattle.iss_request.specs.Fields.{Written, and_bytes}
use Rattle.iss_request.specs.Formats.{spell_value}
use Rattle.iss_request.specs.declared.requests.Value.{Value}
use Rattle.pbft_wire.specs.Messages.{at_bytes}

pub at-written : (kind v s : ℕ) (digest sig : List ℕ) (a b c d e f : Written) → b ≡ and_bytes a (kind ∷ []) →
    c ≡ and_bytes b (to_be_bytes w16 v) → d ≡ and_bytes c (to_be_bytes w64 s) → e ≡ and_bytes d digest →
    f ≡ and_bytes e sig → f ≡ and_bytes a (kind ∷ at_bytes v s (digest ++ sig))
at-written kind v s digest sig a b c d e f hb hc hd he hf = rw (hf, he, hd, hc, hb) (simp append_assoc)

pub pre_prepare-written : (v s : ℕ) (x : Value) (sig : List ℕ) (a b c d e f : Written) → b ≡ and_bytes a (1 ∷ []) →
    c ≡ and_bytes b (to_be_bytes w16 v) → d ≡ and_bytes c (to_be_bytes w64 s) →
    e ≡ and_bytes d (spell_value d.version x) → f ≡ and_bytes e sig →
    f ≡ and_bytes a (1 ∷ at_bytes v s (spell_value a.version x ++ sig))
pre_prepare-written v s x sig a b c d e f hb hc hd he hf = rw (hf, he, hd, hc, hb) (simp append_assoc)
