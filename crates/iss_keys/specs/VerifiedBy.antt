-- Whether a signature is true, as a test that computes. A lemma ties it to the definition in words.
use Rattle.std.specs.Prelude.{ℕ, ◌^◌, ◌==◌, ◌&&◌, Bool, false, List, Option, Some, None, length, slice_get, slice_index, nat_lt}
use Rattle.std.specs.Str.{bytes_eq}
use Rattle.iss_base.specs.Heights.{signature_length}
use Rattle.iss_keys.specs.Signatures.{leaf_number, root_from}
use Rattle.iss_keys.specs.KeyStates.{PublicKeyView}

-- whether sig is a signature of statement s under this public key, if there is one: it decides `Verifies`
unfoldable pub is_true_under : Option PublicKeyView → List ℕ → List ℕ → Bool
is_true_under None s sig = false
is_true_under (Some key) s sig =
    (length sig == signature_length key.height)
    && ((slice_index sig 0 == key.height)
    && (nat_lt (leaf_number sig) (2 ^ key.height)
    && bytes_eq (root_from s sig key.height) key.root))

-- whether sig is a signature of statement s by the key with number i: it decides `VerifiesBy`
unfoldable pub is_verified_by : List PublicKeyView → ℕ → List ℕ → List ℕ → Bool
is_verified_by keys i s sig = is_true_under (slice_get keys i) s sig
