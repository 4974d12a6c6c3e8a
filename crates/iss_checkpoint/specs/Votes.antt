-- Votes on the log at the end of an epoch (the checkpoints of ISS), and certificates. A vote signs the digest of the
-- log and the number of its requests. A certificate is exactly a quorum of true signatures of one such statement, by
-- strictly ascending nodes.
use Rattle.std.specs.Prelude.{◌≡◌, ℕ, suc, ◌<◌, ◌≤◌, nat_lt, nat_le, ◌==◌, ◌&&◌, Bool, true, List, [], ◌∷◌, ◌++◌, length}
use Rattle.iss_base.specs.Lists.{In}
use Rattle.iss_keys.specs.Directories.{DirectoryView, VerifiesBy}
use Rattle.iss_keys.specs.KeyStates.{PublicKeyView}
use Rattle.iss_keys.specs.VerifiedBy.{is_verified_by}
use Rattle.iss_request.specs.declared.setups.Setup.{Setup}
use Rattle.iss_sb.specs.Evidence.{is_correct}
use Rattle.iss_sb.specs.Statements.{eight_bytes, head_of}
use Rattle.iss_checkpoint.specs.declared.votes.Cert.{Cert}
use Rattle.iss_sb.specs.declared.signers.Signed.{Signed}
use Rattle.iss_checkpoint.specs.declared.votes.Vote.{Vote}

-- Whose votes count: the cluster by its tag, its number of nodes, its quorum, and the nodes' public keys.
pub record Voters : Type 0 where
  pub tag : List ℕ
  pub n : ℕ
  pub quorum : ℕ
  pub keys : List PublicKeyView

abbrev pub voters_in : List ℕ → ℕ → ℕ → DirectoryView → Voters
voters_in tag n quorum d = record { tag = tag; n = n; quorum = quorum; keys = d.nodes }

-- the voters of a set-up
abbrev pub voters_of : Setup → DirectoryView → Voters
voters_of s d = voters_in s.tag s.n s.quorum d

-- What a checkpoint vote signs: the epoch, the chain digest of the log at its end, and the number of requests in that
-- log. It names leader 255 and module 0, which do not exist, so it equals no statement of an instance.
-- rule: Checkpoints: A vote signs the cluster, the epoch, the log's chain and its request count
abbrev pub vote_statement : List ℕ → ℕ → List ℕ → ℕ → List ℕ
vote_statement tag e chain number = head_of tag e 255 0 ++ (0 ∷ (chain ++ eight_bytes number))

-- what this vote signs
abbrev pub statement_of : Voters → Vote → List ℕ
statement_of w v = vote_statement w.tag v.epoch.0 v.chain v.requests

-- what each signer of this certificate signed
abbrev pub cert_statement : Voters → Cert → List ℕ
cert_statement w c = vote_statement w.tag c.epoch.0 c.chain c.requests

-- whether node `by` of the cluster validly signed the statement
abbrev pub is_signed : Voters → List ℕ → ℕ → List ℕ → Bool
is_signed w statement by sig = nat_lt by w.n && is_verified_by w.keys by statement sig

-- whether signers are strictly ascending from the first allowed number on, each signature valid
abbrev pub are_signed : Voters → List ℕ → ℕ → List Signed → Bool
are_signed w statement from [] = true
are_signed w statement from (x ∷ xs) =
    nat_le from x.by.0 && (is_signed w statement x.by.0 x.sig && are_signed w statement (suc x.by.0) xs)

-- a certificate is valid: exactly a quorum of signers, strictly ascending, each signature valid
-- rule: Checkpoints: A certificate has exactly a quorum of strictly ascending signers who all signed it
abbrev pub is_cert : Voters → Cert → Bool
is_cert w c = (length c.signers == w.quorum) && are_signed w (cert_statement w c) 0 c.signers

-- ---- the same as a relation

-- the signature is valid, and its signer exists
abbrev pub HasSigned : Voters → List ℕ → ℕ → List ℕ → Type 0
HasSigned w statement by sig = (by < w.n) × VerifiesBy w.keys by statement sig

-- the same of strictly ascending signers
abbrev pub HaveSigned : Voters → List ℕ → ℕ → List Signed → Type 0
HaveSigned w statement from [] = Unit {0}
HaveSigned w statement from (x ∷ xs) = (from ≤ x.by.0) × HasSigned w statement x.by.0 x.sig
    × HaveSigned w statement (suc x.by.0) xs

-- a certificate is valid
pub record IsCert (w : Voters) (c : Cert) : Type 0 where
  pub quorum : length c.signers ≡ w.quorum
  pub signed : HaveSigned w (cert_statement w c) 0 c.signers

-- a correct node is among the signers, and signed what the certificate states
-- rule: Checkpoints: A certificate has a correct signer
pub record HasCorrectSigner (s : Setup) (d : DirectoryView) (c : Cert) : Type 0 where
  pub signer : Signed
  pub among : In signer c.signers
  pub correct : is_correct s signer.by.0 ≡ true
  pub signed : VerifiesBy d.nodes signer.by.0 (cert_statement (voters_of s d) c) signer.sig
