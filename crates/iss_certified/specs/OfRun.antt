-- What a certified log says of a run under the same header to who trusts enough of the nodes: at the end of each epoch
-- it is a prefix of the log of one of them, unless two different strings of the two logs have one digest.
use Rattle.std.specs.Prelude.{◌≡◌, ◌⊎◌, ℕ, suc, ◌+◌, ◌*◌, ◌<◌, true, List, [], ◌++◌, length, take}
use Rattle.iss_audit.specs.Exports.{log_of}
use Rattle.iss_audit.specs.declared.exports.CertifiedEpoch.{CertifiedEpoch}
use Rattle.iss_base.specs.Lists.{In}
use Rattle.iss_base.specs.Quorum.{all_below, distinct, mem}
use Rattle.iss_checkpoint.specs.Votes.{vote_statement}
use Rattle.iss_log.specs.Chains.{strings_from}
use Rattle.iss_model.specs.Run.{Held}
use Rattle.iss_model.specs.Runs.{IsPrefix}
use Rattle.iss_request.specs.Digest.{digest}
use Rattle.iss_request.specs.declared.requests.Value.{Value}
use Rattle.iss_request.specs.declared.setups.Setup.{Setup}
use Rattle.iss_sb.specs.Evidence.{Module, is_correct}
use Rattle.iss_sb.specs.declared.signers.Signed.{Signed}
use Rattle.iss_theorems.specs.Headline.{shown}

-- two different strings of these have one digest
pub record HaveCollision (strings : List (List ℕ)) : Type 0 where
  pub first : List ℕ
  pub second : List ℕ
  pub one : In first strings
  pub other : In second strings
  pub same : digest first ≡ digest second
  pub different : first ≡ second → ⊥

-- all that is hashed for a log
abbrev pub hashed_for : Setup → List Value → List (List ℕ)
hashed_for s log = strings_from s.version (digest []) log

-- Enough nodes to trust: different ones, and more than those outside a quorum. These are f + 1 nodes, and two under the
-- relay.
pub record AreEnough (s : Setup) (trusted : List ℕ) : Type 0 where
  pub below : all_below s.n trusted ≡ true
  pub different : distinct trusted ≡ true
  pub many : s.n < s.quorum + length trusted

-- They are correct, and did sign what verifies under their keys in these certificates: it is in the book of what
-- correct nodes signed.
pub record AreTrusted {Msg : Type 0} (s : Setup) (h : Held Msg) (trusted : List ℕ) (epochs : List CertifiedEpoch)
    : Type 0 where
  pub correct : (k : ℕ) → mem k trusted ≡ true → is_correct s k ≡ true
  pub signed : (x : CertifiedEpoch) → In x epochs → (y : Signed) → In y x.cert.signers →
      mem y.by.0 trusted ≡ true → In (record {
        by = y.by.0;
        statement = vote_statement s.tag x.cert.epoch.0 x.cert.chain x.cert.requests;
      }) h.signed

-- one of the trusted nodes signed the epoch after these, and its log continues the log up to this epoch's end
pub record IsOfRun {Msg : Type 0} (s : Setup) (M : Module Msg) (h : Held Msg) (trusted : List ℕ)
    (before : List CertifiedEpoch) (x : CertifiedEpoch) : Type 0 where
  pub signer : Signed
  pub among : In signer x.cert.signers
  pub trusts : mem signer.by.0 trusted ≡ true
  pub log : IsPrefix (log_of before ++ x.values) (shown s M h signer.by.0)
      ⊎ HaveCollision (hashed_for s (log_of before ++ x.values)
      ++ hashed_for s (take (suc (length before) * s.epoch) (shown s M h signer.by.0)))
