-- How a row of signers is spelled: for each a node (1 byte) and its signature, the nodes strictly ascending.
use Rattle.std.specs.Prelude.{◌≡◌, ◌≤◌, ℕ, suc, nat_le, ◌&&◌, Bool, true, List, [], ◌∷◌}
use Rattle.iss_request.specs.Formats.{is_signature, parse_signature}
use Rattle.iss_request.specs.Parsing.{Parser, ◌>>=◌, byte, done, such_that}
use Rattle.iss_sb.specs.declared.signers.Signed.{Signed}
use Rattle.iss_sb.specs.Ascending.{all_ascend, ascending}

abbrev pub signer_of : Signed → ℕ
signer_of x = x.by.0

-- a signer not below `from`, with a well-formed signature
abbrev pub is_signer : ℕ → Signed → Bool
is_signer from x = nat_le from x.by.0 && is_signature x.sig

-- the same of strictly ascending signers
abbrev pub are_signers : ℕ → List Signed → Bool
are_signers from xs = all_ascend is_signer signer_of from xs

-- the same as a relation
abbrev pub AreSigners : ℕ → List Signed → Type 0
AreSigners from [] = Unit {0}
AreSigners from (x ∷ xs) = (from ≤ x.by.0) × (is_signature x.sig ≡ true) × AreSigners (suc x.by.0) xs

abbrev pub spell_signed : Signed → List ℕ
spell_signed x = x.by.0 ∷ x.sig

unfoldable pub parse_signed : ℕ → Parser Signed
parse_signed from = do
  by ← such_that (λ n. nat_le from n) byte
  sig ← parse_signature
  done (record { by = record { 0 = by }; sig = sig })

-- n signers, strictly ascending
-- rule: Signers: The signers of a certificate are strictly ascending, and an error names the first other
abbrev pub parse_signers : ℕ → ℕ → Parser (List Signed)
parse_signers n from = ascending parse_signed signer_of n from
