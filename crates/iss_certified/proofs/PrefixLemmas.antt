-- A certified log is a prefix of a correct node's log, unless two strings collide.
use Rattle.std.proofs.Common.{◌≡◌, inl, inr, ◌⊎◌, ℕ, suc, ◌+◌, ◌*◌, Bool, true, false, List, [], ◌∷◌, ◌++◌, length, take, drop, append-nil, length-append, true≢false, refl, sym, ap, ◌∙◌, subst, arith}
use Rattle.std.specs.List.{AllByRecursion}
use Rattle.std.proofs.lemmas.List.{length-take-le, take-append-drop}
use Rattle.iss_audit.specs.Exports.{EachEpoch, IsCertified, IsValue, IsWhole as IsWholeEpoch, keys_of, log_of}
use Rattle.iss_audit.specs.declared.exports.CertifiedEpoch.{CertifiedEpoch}
use Rattle.iss_audit.proofs.EpochLemmas.{log-push}
use Rattle.iss_base.specs.Lists.{In, same_bytes}
use Rattle.iss_base.specs.Quorum.{mem}
use Rattle.iss_base.proofs.Lists.{in_append, in_left, in_right, same_bytes-is, same_bytes-refl}
use Rattle.iss_checkpoint.specs.Votes.{voters_of}
use Rattle.iss_checkpoint.proofs.SignedLemmas.{signer-among}
use Rattle.iss_composition.specs.Checkpoints.{scheme_of}
use Rattle.iss_log.specs.Chains.{chain_of}
use Rattle.iss_log.specs.declared.chains.End.{End}
use Rattle.iss_model.specs.Run.{Held}
use Rattle.iss_model.specs.Runs.{IsPrefix, pasts_of}
use Rattle.iss_request.specs.Digest.{digest}
use Rattle.iss_request.specs.Fields.{Bad, Good, IsBad, IsReadAgain}
use Rattle.iss_request.specs.Formats.{parse_value, spell_value}
use Rattle.iss_request.specs.Setup.{IsGoodSetup}
use Rattle.iss_request.specs.declared.requests.Value.{Value}
use Rattle.iss_request.specs.declared.setups.Setup.{Setup}
use Rattle.iss_request.proofs.OneSpelling.{value_grammar}
use Rattle.iss_rules.specs.Concrete.{rules_of}
use Rattle.iss_sb.specs.Evidence.{Module, Separate, is_correct}
use Rattle.iss_theorems.specs.Certified.{AreCertified, IsLogAt}
use Rattle.iss_theorems.specs.OneLog.{AreOneLog, shown}
use Rattle.iss_transfer.proofs.AdoptionLemmas.{chains-same}
use Rattle.iss_certified.specs.OfRun.{AreEnough, AreTrusted, HaveCollision, IsOfRun, hashed_for}
use Rattle.iss_certified.proofs.CertifiedLemmas.{Ends, ends-at, good-bad}

-- ---- either no two strings collide, or two do

-- another string of these with the digest of x
record Other (x : List ℕ) (xs : List (List ℕ)) : Type 0 where
  pub string : List ℕ
  pub among : In string xs
  pub same : digest x ≡ digest string
  pub different : x ≡ string → ⊥

abbrev Alone : List ℕ → List (List ℕ) → Type 0
Alone x xs = (y : List ℕ) → In y xs → digest x ≡ digest y → x ≡ y

alone-or : (x : List ℕ) (xs : List (List ℕ)) → Alone x xs ⊎ Other x xs
alone-or x [] = inl (λ y none same. absurd none)
alone-or x (y ∷ ys) = go (alone-or x ys)
  where
    apart : (a b : List ℕ) → same_bytes a b ≡ false → a ≡ b → ⊥
    apart a b other same = true≢false (sym (same_bytes-refl a) ∙ ap (same_bytes a) same ∙ other)

    here : Alone x ys → (b : Bool) → same_bytes x y ≡ b → (d : Bool) → same_bytes (digest x) (digest y) ≡ d → Alone x (y ∷ ys) ⊎ Other x (y ∷ ys)
    here rest true e d f = inl (λ z i h. elim i [ inl q ↦ same_bytes-is x y e ∙ sym q | inr j ↦ rest z j h ])
    here rest false e true f = inr (record { string = y; among = inl refl; same = same_bytes-is (digest x) (digest y) f; different = apart x y e })
    here rest false e false f = inl (λ z i h. elim i [ inl q ↦ absurd (apart (digest x) (digest y) f (h ∙ ap digest q)) | inr j ↦ rest z j h ])

    go : Alone x ys ⊎ Other x ys → Alone x (y ∷ ys) ⊎ Other x (y ∷ ys)
    go (inl rest) = here rest (same_bytes x y) refl (same_bytes (digest x) (digest y)) refl
    go (inr o) = inr (record { string = o.string; among = inr o.among; same = o.same; different = o.different })

pub separate-or : (xs : List (List ℕ)) → Separate (λ x. In x xs) ⊎ HaveCollision xs
separate-or [] = inl (λ a b none other same. absurd none)
separate-or (x ∷ xs) = go (alone-or x xs) (separate-or xs)
  where
    go : Alone x xs ⊎ Other x xs → Separate (λ y. In y xs) ⊎ HaveCollision xs → Separate (λ y. In y (x ∷ xs)) ⊎ HaveCollision (x ∷ xs)
    go (inr o) rest = inr (record { first = x; second = o.string; one = inl refl; other = inr o.among; same = o.same; different = o.different })
    go (inl alone) (inr c) = inr (record { first = c.first; second = c.second; one = inr c.one; other = inr c.other; same = c.same; different = c.different })
    go (inl alone) (inl sep) = inl (λ a b i j h. elim i [
      | inl p ↦ elim j [ inl q ↦ p ∙ sym q | inr l ↦ p ∙ alone b l (ap digest (sym p) ∙ h) ]
      | inr k ↦ elim j [ inl q ↦ sym (alone a k (ap digest (sym q) ∙ sym h)) ∙ sym q | inr l ↦ sep a b k l h ]
    ])

-- ---- two logs with one chain

-- a value that decodes from its encoding does so whatever follows
value-read : (version : ℕ) (v : Value) → parse_value version (spell_value version v) ≡ Good v [] → IsReadAgain (spell_value version) (parse_value version) v
value-read version v e = go ((value_grammar version).whole v)
  where
    go : IsReadAgain (spell_value version) (parse_value version) v ⊎ ((rest : List ℕ) → IsBad (parse_value version (spell_value version v ++ rest))) → IsReadAgain (spell_value version) (parse_value version) v
    go (inl again) = again
    go (inr bad) =
        let at = bad [] in
        let two : Good v [] ≡ Bad at.0 = sym e ∙ ap (parse_value version) (sym (append-nil (spell_value version v))) ∙ at.1 in
        absurd cc

-- so does a value that has an encoding
pub spelled-read : (s : Setup) (v : Value) → (scheme_of s).spells v ≡ true → IsReadAgain (spell_value s.version) (parse_value s.version) v
spelled-read s v good = go ((value_grammar s.version).whole v)
  where
    go : IsReadAgain (spell_value s.version) (parse_value s.version) v ⊎ ((rest : List ℕ) → IsBad (parse_value s.version (spell_value s.version v ++ rest))) → IsReadAgain (spell_value s.version) (parse_value s.version) v
    go (inl again) = again
    go (inr bad) = absurd (good-bad (parse_value s.version (spell_value s.version v)) (subst (λ (t : List ℕ). IsBad (parse_value s.version t)) (append-nil (spell_value s.version v)) (bad [])) good)

values-read : (version : ℕ) (vs : List Value) → AllByRecursion (IsValue version) vs → (v : Value) → In v vs → parse_value version (spell_value version v) ≡ Good v []
values-read version [] all v none = absurd none
values-read version (u ∷ vs) all v (inl same) = subst (λ (w : Value). parse_value version (spell_value version w) ≡ Good w []) (sym same) all.0.1
values-read version (u ∷ vs) all v (inr i) = values-read version vs all.1 v i

-- all of them have encodings
abbrev pub AreRead : Setup → List Value → Type 0
AreRead s vs = (v : Value) → In v vs → IsReadAgain (spell_value s.version) (parse_value s.version) v

pub one-chain : (s : Setup) (a b : List Value) → length a ≡ length b → AreRead s a → AreRead s b → chain_of s.version a ≡ chain_of s.version b → (a ≡ b) ⊎ HaveCollision (hashed_for s a ++ hashed_for s b)
one-chain s a b long reada readb chains = go (separate-or all)
  where
    all : List (List ℕ)
    all = hashed_for s a ++ hashed_for s b

    go : Separate (λ x. In x all) ⊎ HaveCollision all → (a ≡ b) ⊎ HaveCollision all
    go (inr c) = inr c
    go (inl sep) = inl (chains-same s.version all sep (digest []) (digest []) refl refl a b long reada readb
        (λ t i. in_left t (hashed_for s a) (hashed_for s b) i) (λ t i. in_right t (hashed_for s a) (hashed_for s b) i) chains).values

module _ {Msg : Type 0} (s : Setup) (M : Module Msg) (h : Held Msg) (good : IsGoodSetup s) (one : AreOneLog s M h) (certified : AreCertified s M h) where
  -- a signer's vote is of its log, which has the chain of the certified log
  pub prefix-or : (k : ℕ) (before : List CertifiedEpoch) (x : CertifiedEpoch) → IsCertified s (voters_of s (keys_of s)) before x → IsLogAt (rules_of s) M k x.cert.epoch.0 (pasts_of h.net k) x.cert.chain x.cert.requests →
      length (log_of before ++ x.values) ≡ suc (length before) * s.epoch → AreRead s (log_of before ++ x.values) → AreRead s (shown s M h k) →
      IsPrefix (log_of before ++ x.values) (shown s M h k) ⊎ HaveCollision (hashed_for s (log_of before ++ x.values) ++ hashed_for s (take (suc (length before) * s.epoch) (shown s M h k)))
  prefix-or k before x has voted long theirs ours =
      go (one-chain s log front size theirs (λ v i. ours v (subst (λ (t : List Value). In v t) (take-append-drop n (shown s M h k)) (in_left v front (drop n (shown s M h k)) i))) chains)
    where
      n : ℕ
      n = suc (length before) * s.epoch

      log : List Value
      log = log_of before ++ x.values

      front : List Value
      front = take n (shown s M h k)

      end : Ends s M h good one certified k (length before) x.cert.chain x.cert.requests
      end = ends-at s M h good one certified k (length before) x.cert.chain x.cert.requests (subst (λ (j : ℕ). IsLogAt (rules_of s) M k j (pasts_of h.net k) x.cert.chain x.cert.requests) has.epoch voted)

      size : length log ≡ length front
      size = long ∙ sym (length-take-le n (shown s M h k) end.far)

      chains : chain_of s.version log ≡ chain_of s.version front
      chains = ap (λ (e : End). e.chain) (sym has.stated ∙ end.end)

      go : (log ≡ front) ⊎ HaveCollision (hashed_for s log ++ hashed_for s front) → IsPrefix log (shown s M h k) ⊎ HaveCollision (hashed_for s log ++ hashed_for s front)
      go (inl same) = inl (drop n (shown s M h k), sym (take-append-drop n (shown s M h k)) ∙ ap (λ (t : List Value). t ++ drop n (shown s M h k)) (sym same))
      go (inr c) = inr c

  -- each epoch of a certified log
  pub each-of-run : (trusted : List ℕ) → AreEnough s trusted → (all : List CertifiedEpoch) → AreTrusted s h trusted all →
      ((k : ℕ) → is_correct s k ≡ true → AreRead s (shown s M h k)) →
      (before xs : List CertifiedEpoch) → ((x : CertifiedEpoch) → In x xs → In x all) → AreRead s (log_of before) → length (log_of before) ≡ length before * s.epoch →
      EachEpoch (IsWholeEpoch s) before xs → EachEpoch (IsCertified s (voters_of s (keys_of s))) before xs → EachEpoch (IsOfRun s M h trusted) before xs
  each-of-run trusted enough all are read before [] part front size whole has = tt
  each-of-run trusted enough all are read before (x ∷ xs) part front size whole has =
      let one-of = signer-among s (keys_of s) x.cert trusted has.0.valid enough.below enough.different enough.many in
      let signer = one-of.2.signer in
      let trusts : mem signer.by.0 trusted ≡ true = subst (λ (k : ℕ). mem k trusted ≡ true) (sym one-of.2.is) one-of.1 in
      let right = are.correct signer.by.0 trusts in
      let voted = certified.of_votes signer.by.0 x.cert.epoch.0 right x.cert.chain x.cert.requests (are.signed x (part x (inl refl)) signer one-of.2.among trusts) in
      let theirs : AreRead s (log_of before ++ x.values) = λ v i. read-either v (in_append v (log_of before) x.values i) in
      let long : length (log_of before ++ x.values) ≡ suc (length before) * s.epoch = omega (arith, length-append (log_of before) x.values, size, whole.0.slots) in
      let grown = log-push before x in
      let count : length (before ++ x ∷ []) ≡ suc (length before) = omega (arith, length-append before (x ∷ [])) in (
        record {
          signer = signer;
          among = one-of.2.among;
          trusts = trusts;
          log = prefix-or signer.by.0 before x has.0 voted long theirs (read signer.by.0 right);
        },
        each-of-run trusted enough all are read (before ++ x ∷ []) xs (λ y i. part y (inr i)) (subst (AreRead s) (sym grown) theirs)
            (subst (λ (k : ℕ). length (log_of (before ++ x ∷ [])) ≡ k * s.epoch) (sym count) (ap length grown ∙ long)) whole.1 has.1,
      )
    where
      read-either : (v : Value) → In v (log_of before) ⊎ In v x.values → IsReadAgain (spell_value s.version) (parse_value s.version) v
      read-either v (inl i) = front v i
      read-either v (inr i) = value-read s.version v (values-read s.version x.values whole.0.values v i)
