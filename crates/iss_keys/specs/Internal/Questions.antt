-- A question to a directory that remembers answers: whether a signature is one of a statement under a key.
use Rattle.std.specs.Prelude.{ℕ, List}
use Rattle.iss_keys.specs.KeyStates.{PublicKeyView}

-- the question whether `sig` is a signature of `statement` under this key
-- rule: Signatures: A remembered answer is found by all bytes of what was asked, never by a part
pub record Question : Type 0 where
  pub key : PublicKeyView
  pub statement : List ℕ
  pub signature : List ℕ
