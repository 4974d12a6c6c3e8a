-- Epochs one after the other, and the end of the log that they make.
use Rattle.std.proofs.Common.{◌≡◌, ℕ, zero, suc, ◌+◌, ◌<◌, List, [], ◌∷◌, ◌++◌, length, take, drop, append_assoc, append-nil, refl, sym, true, ap, ◌∙◌, subst, arith, get_or}
use Rattle.iss_log.specs.Chains.{end_from, end_of}
use Rattle.iss_log.specs.declared.chains.End.{End}
use Rattle.iss_log.proofs.ChainLemmas.{end-from}
use Rattle.iss_request.specs.declared.requests.Value.{Value}
use Rattle.iss_request.specs.declared.setups.Setup.{Setup}
use Rattle.iss_checkpoint.specs.Votes.{Voters, is_cert}
use Rattle.iss_audit.specs.Exports.{EachEpoch, IsCertified, log_of, stated_in}
use Rattle.iss_audit.specs.Refusals.{AreRefused, IsEpochRefused}
use Rattle.iss_audit.specs.declared.errors.AuditError.{AuditError}
use Rattle.iss_audit.specs.declared.errors.AuditError.TheVariants.{BadLine, BadEpoch, NoMemory}
use Rattle.iss_audit.specs.declared.exports.CertifiedEpoch.{CertifiedEpoch}

-- ---- each epoch, given those before it

pub each-push : (P : List CertifiedEpoch → CertifiedEpoch → Type 0) (before xs : List CertifiedEpoch) (x : CertifiedEpoch) → EachEpoch P before xs → P (before ++ xs) x → EachEpoch P before (xs ++ x ∷ [])
each-push P before [] x each is = (subst (λ (b : List CertifiedEpoch). P b x) (append-nil before) is, tt)
each-push P before (y ∷ xs) x each is =
    (each.0, each-push P (before ++ y ∷ []) xs x each.1 (subst (λ (b : List CertifiedEpoch). P b x) (sym (append_assoc before (y ∷ []) xs)) is))

pub each-at : (P : List CertifiedEpoch → CertifiedEpoch → Type 0) (before xs : List CertifiedEpoch) (i : ℕ) (x d : CertifiedEpoch) → EachEpoch P before xs → i < length xs → x ≡ get_or xs i d → P (before ++ take i xs) x
each-at P before [] i x d each lt is = absurd (omega (arith, lt))
each-at P before (y ∷ xs) zero x d each lt is =
    let same : x ≡ y = is in
    subst (λ (z : CertifiedEpoch). P (before ++ []) z) (sym same) (subst (λ (b : List CertifiedEpoch). P b y) (sym (append-nil before)) each.0)
each-at P before (y ∷ xs) (suc k) x d each lt is =
    let within : k < length xs = omega (arith, lt) in
    subst (λ (b : List CertifiedEpoch). P b x) (append_assoc before (y ∷ []) (take k xs)) (each-at P (before ++ y ∷ []) xs k x d each.1 within is)

pub each-weaker : (P Q : List CertifiedEpoch → CertifiedEpoch → Type 0) → ((b : List CertifiedEpoch) (x : CertifiedEpoch) → P b x → Q b x) → (before xs : List CertifiedEpoch) → EachEpoch P before xs → EachEpoch Q before xs
each-weaker P Q more before [] each = tt
each-weaker P Q more before (x ∷ xs) each = (more before x each.0, each-weaker P Q more (before ++ x ∷ []) xs each.1)

-- ---- the log of epochs

pub log-push : (xs : List CertifiedEpoch) (x : CertifiedEpoch) → log_of (xs ++ x ∷ []) ≡ log_of xs ++ x.values
log-push [] x = append-nil x.values
log-push (y ∷ xs) x = ap (λ (vs : List Value). y.values ++ vs) (log-push xs x) ∙ sym (append_assoc y.values (log_of xs) x.values)

-- ---- one epoch after another is checked

pub epoch-end : (version : ℕ) (before : List CertifiedEpoch) (start end : End) (read values : List Value) → end ≡ end_from version start read → read ≡ values → start ≡ end_of version (log_of before) → end ≡ end_of version (log_of before ++ values)
epoch-end version before start end read values is same from =
    is ∙ ap (λ (e : End). end_from version e read) from ∙ ap (λ (vs : List Value). end_from version (end_of version (log_of before)) vs) same ∙ end-from version (log_of before) values

pub length-take : (xs : List CertifiedEpoch) (i : ℕ) → i < length xs → length (take i xs) ≡ i
length-take [] i lt = absurd (omega (arith, lt))
length-take (x ∷ xs) zero lt = refl
length-take (x ∷ xs) (suc k) lt = let within : k < length xs = omega (arith, lt) in ap suc (length-take xs k within)

split-at : (xs : List CertifiedEpoch) (i : ℕ) (x d : CertifiedEpoch) → i < length xs → x ≡ get_or xs i d → xs ≡ take i xs ++ x ∷ drop (suc i) xs
split-at [] i x d lt is = absurd (omega (arith, lt))
split-at (y ∷ xs) zero x d lt is = ap (λ (z : CertifiedEpoch). z ∷ xs) (sym is)
split-at (y ∷ xs) (suc k) x d lt is = let within : k < length xs = omega (arith, lt) in ap (λ (zs : List CertifiedEpoch). y ∷ zs) (split-at xs k x d within is)

pub first-refused : (s : Setup) (w : Voters) (xs : List CertifiedEpoch) (i : ℕ) (x d : CertifiedEpoch) (e : AuditError) → i < length xs → x ≡ get_or xs i d → EachEpoch (IsCertified s w) [] (take i xs) → IsEpochRefused s w (take i xs) x e → AreRefused s w xs e
first-refused s w xs i x d (BadLine line why) lt is each h = h
first-refused s w xs i x d (BadEpoch epoch why) lt is each h = record {
  before = take i xs;
  epoch = x;
  after = drop (suc i) xs;
  all = split-at xs i x d lt is;
  number = h.0;
  certified = each;
  fault = h.1;
}
first-refused s w xs i x d NoMemory lt is each h = tt

pub next-certified : (s : Setup) (w : Voters) (xs later : List CertifiedEpoch) (i : ℕ) (x d : CertifiedEpoch) (end : End) → i < length xs → x ≡ get_or xs i d → later ≡ take i xs ++ x ∷ [] → EachEpoch (λ (b : List CertifiedEpoch) (y : CertifiedEpoch). y.cert.epoch.0 ≡ length b) [] xs → EachEpoch (IsCertified s w) [] (take i xs) → is_cert w x.cert ≡ true → stated_in x.cert ≡ end → end ≡ end_of s.version (log_of (take i xs) ++ x.values) → EachEpoch (IsCertified s w) [] later
next-certified s w xs later i x d end lt is more numbers each valid stated same =
    subst (EachEpoch (IsCertified s w) []) (sym more)
    (each-push (IsCertified s w) [] (take i xs) x each (record {
      epoch = each-at (λ (b : List CertifiedEpoch) (y : CertifiedEpoch). y.cert.epoch.0 ≡ length b) [] xs i x d numbers lt is;
      valid = valid;
      stated = stated ∙ same;
    }))

pub next-end-is : (version : ℕ) (xs later : List CertifiedEpoch) (i : ℕ) (x : CertifiedEpoch) (end : End) → later ≡ take i xs ++ x ∷ [] → end ≡ end_of version (log_of (take i xs) ++ x.values) → end ≡ end_of version (log_of later)
next-end-is version xs later i x end more same = same ∙ ap (end_of version) (sym (log-push (take i xs) x)) ∙ ap (λ (ys : List CertifiedEpoch). end_of version (log_of ys)) (sym more)
