-- What a certificate says: a quorum signed it, among them a correct node, whose log at the end of the epoch has this
-- chain and number of requests. And what adoption says: each adopted value was delivered by a correct node in its
-- slot's instance.
use Rattle.std.specs.Prelude.{◌≡◌, ℕ, suc, ◌+◌, ◌<◌, true, List, length, Some}
use Rattle.iss_base.specs.Lists.{In}
use Rattle.iss_checkpoint.specs.declared.votes.Cert.{Cert}
use Rattle.iss_sb.specs.declared.signers.Signed.{Signed}
use Rattle.iss_request.specs.declared.requests.Value.{Value}
use Rattle.iss_request.specs.declared.setups.Setup.{Setup}
use Rattle.iss_sb.specs.Evidence.{Module, is_correct}
use Rattle.iss_composition.specs.Cluster.{Backed, IsBooked}
use Rattle.iss_rules.specs.Concrete.{rules_of}
use Rattle.iss_rules.specs.Votes.{is_true_cert}
use Rattle.iss_rules.specs.Past.{Past, adopted_at, before, epoch_at, start_of}
use Rattle.iss_rules.specs.Rules.{Rules}
use Rattle.iss_model.specs.Run.{Held}
use Rattle.iss_model.specs.Runs.{pasts_of}

-- node k has ended epoch e, and its log at the end of e is complete, has this chain digest, and holds `many` requests
pub record IsLogAt {Msg : Type 0} (R : Rules) (M : Module Msg) (k e : ℕ) (c : Past Msg) (said : List ℕ)
    (many : ℕ) : Type 0 where
  pub over : e < c.epoch
  pub whole : start_of R (before R M k c (suc e)) (suc e) ≡ length (before R M k c (suc e))
  pub chain : said ≡ (R.end (before R M k c (suc e))).chain
  pub number : many ≡ (R.end (before R M k c (suc e))).requests

-- the certificate has a quorum of valid signatures, and one signer is correct and had the certified log
pub record IsOfLog {Msg : Type 0} (s : Setup) (R : Rules) (M : Module Msg) (pasts : ℕ → Past Msg)
    (c : Cert) : Type 0 where
  pub true_cert : is_true_cert R c ≡ true
  pub signer : Signed
  pub among : In signer c.signers
  pub correct : is_correct s signer.by.0 ≡ true
  pub log : IsLogAt R M signer.by.0 c.epoch.0 (pasts signer.by.0) c.chain c.requests

-- the certificate has a quorum of valid signatures, and its correct signers did sign: they are in the book
pub record IsTrueCert {Msg : Type 0} (s : Setup) (h : Held Msg) (c : Cert) : Type 0 where
  pub valid : is_true_cert (rules_of s) c ≡ true
  pub booked : (x : Signed) → In x c.signers → is_correct s x.by.0 ≡ true →
      IsBooked h.signed x.by.0 ((rules_of s).voted c.epoch.0 c.chain c.requests)

-- a correct node delivered v at index k of epoch e, after a prefix of its own log
pub record WasDelivered {Msg : Type 0} (s : Setup) (R : Rules) (M : Module Msg) (pasts : ℕ → Past Msg) (e k : ℕ)
    (v : Value) : Type 0 where
  pub older : List Value
  pub epoch : epoch_at R older ≡ e
  pub place : length older ≡ start_of R older e + k
  pub is : Backed s R M pasts older v

-- Checkpoints and state transfer, in any state of a run. A correct node's vote in the book is of its own log. So each
-- true certificate is of the log of a correct signer, and all that a correct node keeps are true. What a correct node
-- adopted was delivered by a correct node.
-- rule: Checkpoints: A certificate that a correct node keeps certifies the log of a correct signer
-- rule: Transfer: A value that a correct node adopted was delivered in that slot by a correct node
pub record AreCertified {Msg : Type 0} (s : Setup) (M : Module Msg) (h : Held Msg) : Type 0 where
  pub of_votes : (k e : ℕ) → is_correct s k ≡ true → (chain : List ℕ) (many : ℕ) →
      IsBooked h.signed k ((rules_of s).voted e chain many) → IsLogAt (rules_of s) M k e (pasts_of h.net k) chain many
  pub of_logs : (c : Cert) → IsTrueCert s h c → IsOfLog s (rules_of s) M (pasts_of h.net) c
  pub kept : (i : ℕ) → is_correct s i ≡ true → (c : Cert) → In c (h.net.cores i).certs → IsTrueCert s h c
  pub delivered : (i : ℕ) → is_correct s i ≡ true → (e k : ℕ) (v : Value) →
      adopted_at (pasts_of h.net i).adopted e k ≡ Some v →
      WasDelivered s (rules_of s) M (pasts_of h.net) e k v
