-- How a certificate is encoded in the body of a packet whose head names the epoch. The signers are strictly ascending,
-- and at least one of a quorum's signers is correct.
--
--   certificate   chain (32 bytes), number of requests (8), count (1), and that many signers
use Rattle.std.specs.Prelude.{◌≡◌, ℕ, ◌<◌, ◌^◌, nat_lt, ◌==◌, ◌&&◌, Bool, List, ◌∷◌, ◌++◌, length, if◌then◌else◌, replicate}
use Rattle.std.specs.Int.{to_be_bytes, w64}
use Rattle.std.specs.List.{flat_map}
use Rattle.iss_request.specs.Parsing.{Parser, ◌>>=◌, block, byte, done, number, such_that}
use Rattle.iss_sb.specs.Signers.{AreSigners, are_signers, parse_signers, spell_signed}
use Rattle.iss_checkpoint.specs.declared.votes.Cert.{Cert}

-- whether the certificate has an encoding
abbrev pub cert_fits : Cert → Bool
cert_fits c = (length c.chain == 32) &&
    (nat_lt c.requests (2 ^ 64) && (nat_lt (length c.signers) 256 && are_signers 0 c.signers))

-- the encoding
abbrev pub cert_row : Cert → List ℕ
cert_row c = c.chain ++ (to_be_bytes w64 c.requests ++ (length c.signers ∷ flat_map spell_signed c.signers))

-- A certificate without an encoding is written as these bytes, whose signature has height 1: they decode to no
-- certificate.
abbrev pub no_cert : List ℕ
no_cert = replicate 43 1

-- what is written for a certificate
abbrev pub spell_cert : Cert → List ℕ
spell_cert c = if cert_fits c then cert_row c else no_cert

-- ---- the table as a relation between the certificates of an epoch and bytes

-- rule: Checkpoints: A certificate has one encoding: chain, count, signers with their signatures
pub record IsSpelledCert (e : ℕ) (c : Cert) (bytes : List ℕ) : Type 0 where
  pub epoch : c.epoch.0 ≡ e
  pub chain_fits : length c.chain ≡ 32
  pub count_fits : c.requests < 2 ^ 64
  pub signers_fit : length c.signers < 256
  pub signers : AreSigners 0 c.signers
  pub row : bytes ≡ cert_row c

-- ---- decoding

-- decodes a certificate of epoch e
unfoldable pub parse_cert : ℕ → Parser Cert
parse_cert e = do
  chain ← block 32
  requests ← number w64
  count ← such_that (λ n. nat_lt n 256) byte
  signers ← parse_signers count 0
  done (record { epoch = record { 0 = e }; chain = chain; requests = requests; signers = signers })
