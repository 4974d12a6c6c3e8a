-- The public keys of all nodes and clients. Their secrets follow from their numbers alone, for demonstration: anyone
-- can compute them. A signature under a number without a key is false.
use Rattle.std.specs.Prelude.{◌≡◌, ℕ, List, [], ◌∷◌, IsSomeAnd, Some, slice_get}
use Rattle.sha2.specs.Sha256.{sha256}
use Rattle.iss_keys.specs.Pieces.{listed}
use Rattle.iss_keys.specs.Signatures.{Verifies}
use Rattle.iss_keys.specs.KeyStates.{KeyState, PublicKeyView, public_key}

-- the secret of node i
abbrev pub node_secret : ℕ → List ℕ
node_secret i = sha256 (0x20 ∷ i ∷ [])

-- the secret of client c
abbrev pub client_secret : ℕ → List ℕ
client_secret c = sha256 (0x21 ∷ c ∷ [])

-- a directory as contracts see it: the public keys of the nodes and of the clients, by number
pub record DirectoryView : Type 0 where
  pub nodes : List PublicKeyView
  pub clients : List PublicKeyView

-- the public keys of the first n secrets, each a function of its number
abbrev pub public_keys_of : (ℕ → List ℕ) → ℕ → ℕ → List PublicKeyView
public_keys_of secret_of h n = listed (λ i. public_key (secret_of i) h) n

-- the directory of `n` nodes and `clients` clients, all with keys of height h
-- rule: Signatures: All keys are a function of the numbers of nodes and clients and the keys' height
abbrev pub directory_of : ℕ → ℕ → ℕ → DirectoryView
directory_of n clients h = record {
  nodes = public_keys_of node_secret h n;
  clients = public_keys_of client_secret h clients;
}

-- sig is a signature of statement s by the key with number i; a number without a key has no signatures
abbrev pub VerifiesBy : List PublicKeyView → ℕ → List ℕ → List ℕ → Type 0
VerifiesBy keys i s sig = IsSomeAnd (slice_get keys i) (λ key. Verifies key.root key.height s sig)

-- key i of the list has the secret of number i and height h
abbrev pub HasKeys : (ℕ → List ℕ) → ℕ → List KeyState → Type 0
HasKeys secret_of h keys = (i : ℕ) (key : KeyState) → slice_get keys i ≡ Some key → (key.secret ≡ secret_of i)
    × (key.height ≡ h)

-- the key of node me, of this height
pub record AreKeysOf (me height : ℕ) (k : KeyState) : Type 0 where
  pub own : k.secret ≡ node_secret me
  pub tall : k.height ≡ height
