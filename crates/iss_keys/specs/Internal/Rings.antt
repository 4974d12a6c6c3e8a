-- The keys whose secrets follow from numbers, and their trees, each computed at its first use.
use Rattle.std.specs.Prelude.{◌≡◌, ℕ, List, [], ◌∷◌, length}
use Rattle.sha2.specs.Sha256.{sha256}
use Rattle.iss_base.specs.Heights.{IsHeight}
use Rattle.iss_keys.specs.Pieces.{listed}
use Rattle.iss_keys.specs.Levels.{KeySeed}
use Rattle.iss_keys.specs.KeyStates.{PublicKeyView}
use Rattle.iss_keys.specs.Directories.{public_keys_of}

-- The keys with the secrets of the numbers below `count`, all of one height. `kind` says whether they are nodes
-- or clients.
pub record OwnRing : Type 0 where
  pub kind : ℕ
  pub count : ℕ
  pub height : ℕ

-- the public keys
abbrev pub keys_of_ring : OwnRing → List PublicKeyView
keys_of_ring r = public_keys_of (λ i. sha256 (r.kind ∷ i ∷ [])) r.height r.count

-- the secret of number i, and the height
abbrev pub ring_seed : ℕ → ℕ → ℕ → KeySeed
ring_seed kind h i = record { secret = sha256 (kind ∷ i ∷ []); height = h }

-- these are the trees of the keys of the numbers from 0 on
pub record IsRing (kind h : ℕ) (trees : List KeySeed) : Type 0 where
  pub high : IsHeight h
  pub trees_are : trees ≡ listed (ring_seed kind h) (length trees)
