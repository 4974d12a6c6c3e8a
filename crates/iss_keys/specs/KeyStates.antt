-- What contracts see of a key: its secret, its height, and how many leaves are used, which are those below that
-- number. Of a public key they see root and height.
use Rattle.std.specs.Prelude.{ℕ, ◌-◌, ◌^◌, ◌≤◌, List}
use Rattle.iss_base.specs.Heights.{IsHeight}
use Rattle.iss_keys.specs.Levels.{root_of}

-- a secret, a height, and how many of the 2 ^ height leaves are used: those below `used`
pub record KeyState : Type 0 where
  pub secret : List ℕ
  pub height : ℕ
  pub used : ℕ

-- how many leaves are left
-- rule: Signatures: A key signs with its least unused leaf
abbrev pub left_of : KeyState → ℕ
left_of k = 2 ^ k.height - k.used

-- the ranges of the height and of the count of used leaves
pub record IsKey (h used : ℕ) : Type 0 where
  pub height : IsHeight h
  pub within : used ≤ 2 ^ h

-- the public key: the root of the only or the top tree, and the key's height
pub record PublicKeyView : Type 0 where
  pub root : List ℕ
  pub height : ℕ

-- the public key of a secret
abbrev pub public_key : List ℕ → ℕ → PublicKeyView
public_key secret h = record { root = root_of secret h; height = h }

-- the public key of a key
abbrev pub public_of : KeyState → PublicKeyView
public_of k = public_key k.secret k.height
