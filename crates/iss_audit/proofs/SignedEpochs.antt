-- What a certified log says of its signers, and why it has no epoch that is not certified.
use Rattle.std.proofs.Common.{◌≡◌, true, false, ℕ, List, [], ◌∷◌, ◌++◌, length, append_assoc, append-nil, sym, ap, ◌∙◌, subst}
use Rattle.iss_keys.specs.Directories.{DirectoryView, VerifiesBy}
use Rattle.iss_log.specs.Chains.{end_of}
use Rattle.iss_log.specs.declared.chains.End.{End}
use Rattle.iss_request.specs.Setup.{IsGoodSetup}
use Rattle.iss_request.specs.declared.setups.Setup.{Setup}
use Rattle.iss_checkpoint.specs.Votes.{HaveSigned, Voters, vote_statement, voters_of}
use Rattle.iss_checkpoint.specs.declared.votes.Cert.{Cert}
use Rattle.iss_checkpoint.proofs.SignedLemmas.{cert-means, correct-signer}
use Rattle.iss_audit.specs.Exports.{EachEpoch, IsCertified, IsCertifiedText, IsSignedByQuorum, keys_of, log_of, stated_in}
use Rattle.iss_audit.specs.Refusals.{IsBadEpoch, IsEpochFault}
use Rattle.iss_audit.specs.declared.errors.EpochFault.{EpochFault}
use Rattle.iss_audit.specs.declared.errors.EpochFault.TheVariants.{BadCert, WrongChain}
use Rattle.iss_audit.specs.declared.exports.CertifiedEpoch.{CertifiedEpoch}
use Rattle.iss_audit.specs.declared.exports.Export.{Export}
use Rattle.iss_audit.proofs.EpochLemmas.{each-weaker}
use Rattle.iss_audit.proofs.OneExport.{one-export}

statement-is : (tag : List ℕ) (e : ℕ) (c : Cert) (end : End) → c.epoch.0 ≡ e → stated_in c ≡ end → vote_statement tag c.epoch.0 c.chain c.requests ≡ vote_statement tag e end.chain end.requests
statement-is tag e c end number stated =
    ap (λ (k : ℕ). vote_statement tag k c.chain c.requests) number ∙ ap (λ (x : End). vote_statement tag e x.chain x.requests) stated

quorum-signed : (s : Setup) (d : DirectoryView) → IsGoodSetup s → (before : List CertifiedEpoch) (x : CertifiedEpoch) → IsCertified s (voters_of s d) before x → IsSignedByQuorum s d before x
quorum-signed s d good before x is =
    let all = (cert-means (voters_of s d) x.cert).0 is.valid in
    let one = correct-signer s d x.cert good is.valid in
    let end = end_of s.version (log_of before ++ x.values) in
    let same = statement-is s.tag (length before) x.cert end is.epoch is.stated in
    record {
      quorum = all.quorum;
      signed = subst (λ (z : List ℕ). HaveSigned (voters_of s d) z 0 x.cert.signers) same all.signed;
      signer = one.signer;
      among = one.among;
      correct = one.correct;
      said = subst (λ (z : List ℕ). VerifiesBy d.nodes one.signer.by.0 z one.signer.sig) same one.signed;
    }

pub each-signed : (bytes : List ℕ) (x : Export) → IsCertifiedText bytes x → EachEpoch (IsSignedByQuorum x.setup (keys_of x.setup)) [] x.epochs
each-signed bytes x is =
    each-weaker (IsCertified x.setup (voters_of x.setup (keys_of x.setup))) (IsSignedByQuorum x.setup (keys_of x.setup)) (quorum-signed x.setup (keys_of x.setup) is.export.setup.good) [] x.epochs is.certified

each-split : (P : List CertifiedEpoch → CertifiedEpoch → Type 0) (start before : List CertifiedEpoch) (x : CertifiedEpoch) (after : List CertifiedEpoch) → EachEpoch P start (before ++ x ∷ after) → P (start ++ before) x
each-split P start [] x after each = subst (λ (b : List CertifiedEpoch). P b x) (sym (append-nil start)) each.0
each-split P start (y ∷ before) x after each =
    subst (λ (b : List CertifiedEpoch). P b x) (append_assoc start (y ∷ []) before) (each-split P (start ++ y ∷ []) before x after each.1)

no-fault : (s : Setup) (w : Voters) (before : List CertifiedEpoch) (x : CertifiedEpoch) (why : EpochFault) → IsCertified s w before x → IsEpochFault s w before x why → ⊥
no-fault s w before x BadCert is h = let two : true ≡ false = sym is.valid ∙ h in cc
no-fault s w before x WrongChain is h = h.1 is.stated

pub never-both : (bytes : List ℕ) (x : Export) (e : ℕ) (why : EpochFault) → IsCertifiedText bytes x → IsBadEpoch bytes e why → ⊥
never-both bytes x e why is bad =
    let same = one-export bytes bad.content x bad.export is.export in
    let each : EachEpoch (IsCertified bad.content.setup (voters_of bad.content.setup (keys_of bad.content.setup))) [] bad.content.epochs =
    subst (λ (y : Export). EachEpoch (IsCertified y.setup (voters_of y.setup (keys_of y.setup))) [] y.epochs) (sym same) is.certified in
    let here = subst (λ (xs : List CertifiedEpoch). EachEpoch (IsCertified bad.content.setup (voters_of bad.content.setup (keys_of bad.content.setup))) [] xs) bad.first.all each in
    no-fault bad.content.setup (voters_of bad.content.setup (keys_of bad.content.setup)) bad.first.before bad.first.epoch why
    (each-split (IsCertified bad.content.setup (voters_of bad.content.setup (keys_of bad.content.setup))) [] bad.first.before bad.first.epoch bad.first.after here) bad.first.fault
