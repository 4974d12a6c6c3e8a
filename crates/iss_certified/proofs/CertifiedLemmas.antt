-- What a correct node exports is certified: its certificates are of correct logs, and correct logs are one.
use Rattle.std.proofs.Common.{◌≡◌, inl, inr, ◌⊎◌, ℕ, suc, ◌+◌, ◌*◌, ◌==◌, ◌<◌, ◌≤◌, Bool, true, false, if◌then◌else◌, List, [], ◌∷◌, ◌++◌, length, take, reverse, append_assoc, append-nil, length-append, Option, Some, true≢false, refl, sym, ap, ap₂, ◌∙◌, subst, arith}
use Rattle.std.specs.List.{AllByRecursion}
use Rattle.std.specs.Prelude.{nat_le}
use Rattle.std.proofs.lemmas.Bool.{leb-true}
use Rattle.std.proofs.lemmas.List.{length-reverse, reverse-append, take-append-le}
use Rattle.std.proofs.Math.Seq.{take-append_seam}
use Rattle.hex.specs.Hex.{IsBytes}
use Rattle.iss_base.specs.Heights.{IsHeight}
use Rattle.iss_base.specs.Lists.{In}
use Rattle.iss_base.proofs.Lists.{and-true, in_append, in_left, in_right, is-eq, oldest-part}
use Rattle.iss_audit.specs.Exports.{AreBytes, EachEpoch, IsCertOf, IsCertified, IsRangedCert, IsValue, IsWhole as IsWholeEpoch, keys_of, log_of}
use Rattle.iss_audit.specs.declared.exports.CertifiedEpoch.{CertifiedEpoch}
use Rattle.iss_checkpoint.specs.Certificates.{IsSpelledCert, cert_row, spell_cert}
use Rattle.iss_checkpoint.specs.Votes.{voters_of}
use Rattle.iss_checkpoint.specs.declared.votes.Cert.{Cert}
use Rattle.iss_checkpoint.proofs.CertGrammar.{cert-spelled, cert-table}
use Rattle.iss_composition.specs.Checkpoints.{is_good, scheme_of}
use Rattle.iss_composition.specs.Cluster.{AllSpelled}
use Rattle.iss_keys.proofs.DirectoryLemmas.{node-root, verified-by}
use Rattle.iss_log.specs.Chains.{chain_from, end_of, linked, value_link}
use Rattle.iss_log.specs.declared.chains.End.{End}
use Rattle.iss_audit.proofs.EpochLemmas.{log-push}
use Rattle.iss_certified.specs.Exported.{IsKept, IsRanged, certs_shown}
use Rattle.iss_model.specs.Node.{Core}
use Rattle.iss_model.specs.Run.{Held}
use Rattle.iss_model.specs.Runs.{IsPrefix, pasts_of}
use Rattle.iss_request.specs.Digest.{digest}
use Rattle.iss_request.specs.Fields.{IsBad, IsReadAgain, Parsed}
use Rattle.iss_request.specs.Formats.{parse_value, spell_value}
use Rattle.iss_request.specs.Setup.{IsGoodSetup, quorum_of_kind}
use Rattle.iss_request.specs.declared.requests.Value.{Value}
use Rattle.iss_request.specs.declared.setups.Kind.{Kind}
use Rattle.iss_request.specs.declared.setups.Kind.TheVariants.{Byzantine, Stopping}
use Rattle.iss_request.specs.declared.setups.Setup.{Setup}
use Rattle.iss_request.proofs.OneSpelling.{value_grammar}
use Rattle.iss_rules.specs.Concrete.{rules_of}
use Rattle.iss_rules.specs.Past.{before as past_before, log_of as past_log, start_of}
use Rattle.iss_rules.specs.Rules.{Rules}
use Rattle.iss_rules.specs.Votes.{are_true, cert_on, is_true_cert}
use Rattle.iss_rules.proofs.Checked.{before-same, cert-same}
use Rattle.iss_rules.proofs.Layouts.{sums}
use Rattle.iss_request.proofs.OneSpelling.{signature_shaped}
use Rattle.iss_sb.specs.Evidence.{Module, is_correct}
use Rattle.iss_sb.specs.Signers.{AreSigners}
use Rattle.iss_sb.specs.declared.signers.Signed.{Signed}
use Rattle.iss_theorems.specs.Certified.{AreCertified, IsLogAt}
use Rattle.iss_transfer.proofs.AdoptionLemmas.{digest-length}
use Rattle.iss_theorems.specs.OneLog.{AreOneLog, shown}

-- ---- prefixes

take-prefix : (n : ℕ) (a b : List Value) → IsPrefix a b → n ≤ length a → take n b ≡ take n a
take-prefix n a b p le = ap (λ (t : List Value). take n t) p.1 ∙ take-append-le n a p.0 le

both-prefix : (n : ℕ) (a b : List Value) → IsPrefix a b ⊎ IsPrefix b a → n ≤ length a → n ≤ length b → take n a ≡ take n b
both-prefix n a b (inl p) la lb = sym (take-prefix n a b p la)
both-prefix n a b (inr p) la lb = take-prefix n b a p lb

pub in-turned : (v : Value) (log : List Value) → In v (reverse log) → In v log
in-turned v [] h = h
in-turned v (u ∷ log) h = go (λ i. in-turned v log i) (in_append v (reverse log) (u ∷ []) (subst (λ (t : List Value). In v t) (reverse-append (u ∷ []) log) h))
  where
    go : (In v (reverse log) → In v log) → In v (reverse log) ⊎ In v (u ∷ []) → In v (u ∷ log)
    go ih (inl a) = inr (ih a)
    go ih (inr (inl same)) = inl same
    go ih (inr (inr none)) = absurd none

-- ---- encodings

pub good-bad : {A : Type 0} (p : Parsed A) → IsBad p → is_good p ≡ true → ⊥
good-bad p bad good = true≢false (sym good ∙ ap is_good bad.1)

-- a value whose encoding decodes to something decodes to itself
value-is : (version : ℕ) (v : Value) → IsBytes (spell_value version v) → is_good (parse_value version (spell_value version v)) ≡ true → IsValue version v
value-is version v fits good = go ((value_grammar version).whole v)
  where
    flat : spell_value version v ++ [] ≡ spell_value version v
    flat = append-nil (spell_value version v)

    go : IsReadAgain (spell_value version) (parse_value version) v ⊎ ((rest : List ℕ) → IsBad (parse_value version (spell_value version v ++ rest))) → IsValue version v
    go (inl again) = (fits, ap (parse_value version) (sym flat) ∙ again [])
    go (inr bad) = absurd (good-bad (parse_value version (spell_value version v)) (subst (λ (t : List ℕ). IsBad (parse_value version t)) flat (bad [])) good)

all-values : (version : ℕ) (vs : List Value) → ((v : Value) → In v vs → is_good (parse_value version (spell_value version v)) ≡ true) → AreBytes version vs → AllByRecursion (IsValue version) vs
all-values version [] good fits = tt
all-values version (v ∷ vs) good fits = (value-is version v fits.0 (good v (inl refl)), all-values version vs (λ u i. good u (inr i)) fits.1)

quorum-small : (b : Bool) (k : Kind) (f : ℕ) → f ≤ 3 → (if b then 2 else quorum_of_kind k f) < 256
quorum-small true k f low = omega arith
quorum-small false Byzantine f low = omega (arith, low)
quorum-small false Stopping f low = omega (arith, low)

chain-long : (version : ℕ) (start : List ℕ) (vs : List Value) → length start ≡ 32 → length (chain_from version start vs) ≡ 32
chain-long version start [] long = long
chain-long version start (v ∷ vs) long = chain-long version (linked version start v) vs (digest-length (value_link version start v))

-- true signers are ascending, each with the shape of a signature
true-signers : (s : Setup) → IsHeight s.keys → (statement : List ℕ) (from : ℕ) (xs : List Signed) → are_true (rules_of s) statement from xs ≡ true → AreSigners from xs
true-signers s high statement from [] h = tt
true-signers s high statement from (x ∷ xs) h =
    let a = and-true (nat_le from x.by.0) _ h in
    let b = and-true ((rules_of s).verifies x.by.0 statement x.sig) _ a.1 in
    let v = node-root s.n s.clients s.keys x.by.0 statement x.sig ((verified-by (keys_of s).nodes x.by.0 statement x.sig).0 b.0) in
    (leb-true from x.by.0 a.0, signature_shaped s.keys x.sig high v.exact v.height, true-signers s high statement (suc x.by.0) xs b.1)

-- a true certificate of a log has an encoding
cert-good : (s : Setup) → IsGoodSetup s → (e : ℕ) (c : Cert) → c.epoch.0 ≡ e → is_true_cert (rules_of s) c ≡ true → length c.chain ≡ 32 → IsRangedCert c → IsCertOf e c
cert-good s good e c epoch valid long ranged =
    let a = and-true (length c.signers == s.quorum) _ valid in
    let count = is-eq (length c.signers) s.quorum a.0 in
    let small = quorum-small (s.module == 1) s.kind s.f good.faults in
    let fits : IsSpelledCert e c (cert_row c) = record {
      epoch = epoch;
      chain_fits = long;
      count_fits = ranged.1;
      signers_fit = omega (arith, count, good.majority, small);
      signers = true-signers s good.keys_height ((rules_of s).voted c.epoch.0 c.chain c.requests) 0 c.signers a.1;
      row = refl;
    } in
    (ranged.0, (cert-table e c (spell_cert c)).1 (subst (IsSpelledCert e c) (cert-spelled e c (cert_row c) fits) fits))

module _ {Msg : Type 0} (s : Setup) (M : Module Msg) (h : Held Msg) (good : IsGoodSetup s) (one : AreOneLog s M h) (certified : AreCertified s M h) where
  abbrev log-at : ℕ → List Value
  log-at k = past_log (rules_of s) M k (pasts_of h.net k)

  -- the log of a node at the end of an epoch that a certificate describes
  pub record Ends (k e : ℕ) (said : List ℕ) (many : ℕ) : Type 0 where
    pub far : suc e * s.epoch ≤ length (shown s M h k)
    pub end : (let x : End = record { chain = said; requests = many } in x) ≡ end_of s.version (take (suc e * s.epoch) (shown s M h k))

  pub ends-at : (k e : ℕ) (said : List ℕ) (many : ℕ) → IsLogAt (rules_of s) M k e (pasts_of h.net k) said many → Ends k e said many
  ends-at k e said many is =
      let R : Rules = rules_of s in
      let log = log-at k in
      let cut = past_before R M k (pasts_of h.net k) (suc e) in
      let part = oldest-part (start_of R log (suc e)) log in
      let all = sums s log (suc e) in
      let whole = sym is.whole ∙ sums s cut (suc e) in
      let size = ap length part.1 ∙ length-append part.0 cut in
      let far : start_of R log (suc e) ≤ length log = omega (arith, all, whole, size) in
      let front = before-same s log (suc e) far in
      let said-end : (let x : End = record { chain = said; requests = many } in x) ≡ R.end cut =
      ap₂ (λ (c : List ℕ) (q : ℕ). (let x : End = record { chain = c; requests = q } in x)) is.chain is.number in
      record {
        far = omega (arith, far, all, length-reverse log);
        end = said-end ∙ ap (λ (t : List Value). end_of s.version t) (sym front);
      }

  -- the values of an epoch continue the log of node i, and the node keeps the certificate
  pub record Continues (i : ℕ) (before : List CertifiedEpoch) (x : CertifiedEpoch) (more : List Value) : Type 0 where
    pub all : shown s M h i ≡ log_of before ++ (x.values ++ more)
    pub size : length (log_of before) ≡ length before * s.epoch
    pub slots : length x.values ≡ s.epoch
    pub held : In x.cert (h.net.cores i).certs
    pub epoch : x.cert.epoch.0 ≡ length before

  pub epoch-certified : (i : ℕ) → is_correct s i ≡ true → (before : List CertifiedEpoch) (x : CertifiedEpoch) (more : List Value) → Continues i before x more →
      IsCertified s (voters_of s (keys_of s)) before x
  epoch-certified i ok before x more has =
      let e = length before in
      let n = suc e * s.epoch in
      let is = certified.of_logs x.cert (certified.kept i ok x.cert has.held) in
      let k = is.signer.by.0 in
      let end = ends-at k e x.cert.chain x.cert.requests (subst (λ (j : ℕ). IsLogAt (rules_of s) M k j (pasts_of h.net k) x.cert.chain x.cert.requests) has.epoch is.log) in
      let front = log_of before ++ x.values in
      let long : length front ≡ n = omega (arith, length-append (log_of before) x.values, has.size, has.slots) in
      let whole : shown s M h i ≡ front ++ more = has.all ∙ sym (append_assoc (log_of before) x.values more) in
      let far : n ≤ length (shown s M h i) = omega (arith, ap length whole, length-append front more, long) in
      let own : take n (shown s M h i) ≡ front = ap (λ (t : List Value). take n t) whole ∙ subst (λ (j : ℕ). take j (front ++ more) ≡ front) long (take-append_seam front more) in
      let same = both-prefix n (shown s M h i) (shown s M h k) (one.prefix i k ok is.correct) far end.far in
      record {
        epoch = has.epoch;
        valid = cert-same s x.cert ∙ is.true_cert;
        stated = end.end ∙ ap (λ (t : List Value). end_of s.version t) (sym same ∙ own);
      }

  pub epoch-whole : (i : ℕ) → is_correct s i ≡ true → AllSpelled (scheme_of s) (log-at i) → (before : List CertifiedEpoch) (x : CertifiedEpoch) (more : List Value) → Continues i before x more →
      AreBytes s.version x.values → IsRangedCert x.cert → IsWholeEpoch s before x
  epoch-whole i ok spelled before x more has bytes ranged =
      let is = certified.of_logs x.cert (certified.kept i ok x.cert has.held) in
      record {
        slots = has.slots;
        values = all-values s.version x.values
            (λ v among. spelled v (in-turned v (log-at i) (subst (λ (t : List Value). In v t) (sym has.all) (in_right v (log_of before) (x.values ++ more) (in_left v x.values more among))))) bytes;
        cert = cert-good s good (length before) x.cert has.epoch is.true_cert (ap length is.log.chain ∙ chain-long s.version (digest []) (reverse (past_before (rules_of s) M is.signer.by.0 (pasts_of h.net is.signer.by.0) (suc x.cert.epoch.0))) (digest-length [])) ranged;
      }

  -- each exported epoch
  pub all-certified : (i : ℕ) → is_correct s i ≡ true → AllSpelled (scheme_of s) (log-at i) → (kept : ℕ → Option Cert) → ((e : ℕ) (c : Cert) → kept e ≡ Some c → In c (h.net.cores i).certs × (c.epoch.0 ≡ e)) →
      (before xs : List CertifiedEpoch) (rest : List Value) → shown s M h i ≡ log_of before ++ (log_of xs ++ rest) → length (log_of before) ≡ length before * s.epoch → EachEpoch (IsKept s kept) before xs → EachEpoch (IsRanged s) before xs →
      EachEpoch (IsWholeEpoch s) before xs × EachEpoch (IsCertified s (voters_of s (keys_of s))) before xs
  all-certified i ok spelled kept found before [] rest all size each ranged = (tt, tt)
  all-certified i ok spelled kept found before (x ∷ xs) rest all size each ranged =
      let cert = found (length before) x.cert each.0.1 in
      let has : Continues i before x (log_of xs ++ rest) = record {
        all = all ∙ ap (λ (t : List Value). log_of before ++ t) (append_assoc x.values (log_of xs) rest);
        size = size;
        slots = each.0.0;
        held = cert.0;
        epoch = cert.1;
      } in
      let grown = log-push before x in
      let count : length (before ++ x ∷ []) ≡ suc (length before) = omega (arith, length-append before (x ∷ [])) in
      let long : length (log_of (before ++ x ∷ [])) ≡ suc (length before) * s.epoch =
      omega (arith, ap length grown, length-append (log_of before) x.values, size, each.0.0) in
      let next = all-certified i ok spelled kept found (before ++ x ∷ []) xs rest
      (has.all ∙ sym (append_assoc (log_of before) x.values (log_of xs ++ rest)) ∙ ap (λ (t : List Value). t ++ (log_of xs ++ rest)) (sym grown))
      (subst (λ (k : ℕ). length (log_of (before ++ x ∷ [])) ≡ k * s.epoch) (sym count) long) each.1 ranged.1 in
      ((epoch-whole i ok spelled before x (log_of xs ++ rest) has ranged.0.0 ranged.0.1, next.0), (epoch-certified i ok before x (log_of xs ++ rest) has, next.1))

-- a certificate that a core shows is one that it keeps
pub shown-kept : {Msg : Type 0} (k : Core Msg) (silent : Bool) (e : ℕ) (c : Cert) → certs_shown k silent e ≡ Some c → cert_on k.certs e ≡ Some c
shown-kept k false e c h = h
shown-kept k true e c h = absurd cc
