-- The one digest of the protocol, SHA-256. Chains and trees begin at the empty string, whose digest is taken to be 32
-- zero bytes; no step hashes an empty string.
use Rattle.std.specs.Prelude.{ℕ, List, [], ◌∷◌, replicate}
use Rattle.sha2.specs.Sha256.{sha256}

abbrev pub digest : List ℕ → List ℕ
digest [] = replicate 32 0
digest (b ∷ bs) = sha256 (b ∷ bs)
