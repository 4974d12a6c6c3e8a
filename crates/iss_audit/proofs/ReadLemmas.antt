-- Where the reader of an export is, line by line, and why it refuses one.
use Rattle.std.proofs.Common.{◌≡◌, inl, ℕ, ◌+◌, ◌<◌, ◌≤◌, List, [], ◌∷◌, ◌++◌, length, map, append_assoc, append-nil, length-append, refl, sym, ap, ◌∙◌, subst, arith}
use Rattle.std.specs.List.{AllByRecursion}
use Rattle.iss_request.specs.declared.requests.Value.{Value}
use Rattle.iss_request.specs.declared.setups.Setup.{Setup}
use Rattle.iss_checkpoint.specs.Certificates.{spell_cert}
use Rattle.iss_schedule.specs.Places.{GoesPast, Place}
use Rattle.iss_schedule.specs.Schedules.{most_events}
use Rattle.iss_schedule.specs.Words.{ended}
use Rattle.iss_schedule.specs.declared.errors.ReadError.{ReadError}
use Rattle.iss_schedule.specs.declared.errors.ReadError.TheVariants.{BadLine, NoMemory}
use Rattle.iss_schedule.proofs.BadLines.PrefixesAreRead.{past}
use Rattle.iss_texts.specs.Bodies.{last_line}
use Rattle.iss_texts.specs.Internal.Refusals.{IsNextRefused}
use Rattle.iss_texts.proofs.BodyLemmas.{next-bad}
use Rattle.iss_audit.specs.Exports.{EachEpoch, IsCertOf, IsValue, IsWhole, body_lines, cert_line, epoch_lines, log_of, slots_of, value_line}
use Rattle.iss_audit.specs.Refusals.{IsBegun, IsBodyRefused, IsFault, begun_lines}
use Rattle.iss_audit.specs.declared.exports.CertifiedEpoch.{CertifiedEpoch}
use Rattle.iss_checkpoint.proofs.CertGrammar.{cert-related}
use Rattle.iss_audit.proofs.EpochLemmas.{each-push, each-weaker}

-- Whole epochs and the first values of the next were read from these bytes.
pub record IsAt (s : Setup) (all : List ℕ) (before : List CertifiedEpoch) (values : List Value) (place : Place) : Type 0 where
  pub text : all ≡ ended (begun_lines s.version before values) ++ place.rest
  pub begun : IsBegun s before values
  pub read : place.read ≡ 11 + length (begun_lines s.version before values)
  pub few : length (begun_lines s.version before values) ≤ most_events

-- ---- lines

pub map-push : (version : ℕ) (vs : List Value) (v : Value) → map (value_line version) (vs ++ v ∷ []) ≡ map (value_line version) vs ++ value_line version v ∷ []
map-push version [] v = refl
map-push version (u ∷ vs) v = ap (λ (ls : List (List ℕ)). value_line version u ∷ ls) (map-push version vs v)

value-lines : (version : ℕ) (before : List CertifiedEpoch) (vs : List Value) (v : Value) → begun_lines version before (vs ++ v ∷ []) ≡ begun_lines version before vs ++ value_line version v ∷ []
value-lines version before vs v =
    ap (λ (ls : List (List ℕ)). epoch_lines version before ++ ls) (map-push version vs v)
    ∙ sym (append_assoc (epoch_lines version before) (map (value_line version) vs) (value_line version v ∷ []))

pub epochs-push : (version : ℕ) (before : List CertifiedEpoch) (x : CertifiedEpoch) → epoch_lines version (before ++ x ∷ []) ≡ begun_lines version before x.values ++ cert_line x.cert ∷ []
epochs-push version [] x = refl
epochs-push version (y ∷ before) x =
    ap (λ (ls : List (List ℕ)). map (value_line version) y.values ++ cert_line y.cert ∷ ls) (epochs-push version before x)
    ∙ ap (λ (ls : List (List ℕ)). map (value_line version) y.values ++ cert_line y.cert ∷ ls) (append_assoc (epoch_lines version before) (map (value_line version) x.values) (cert_line x.cert ∷ []))
    ∙ sym (append_assoc (map (value_line version) y.values) (cert_line y.cert ∷ epoch_lines version before) (map (value_line version) x.values ++ cert_line x.cert ∷ []))
    ∙ sym (append_assoc (map (value_line version) y.values ++ cert_line y.cert ∷ epoch_lines version before) (map (value_line version) x.values) (cert_line x.cert ∷ []))

cert-lines : (version : ℕ) (before : List CertifiedEpoch) (x : CertifiedEpoch) → begun_lines version (before ++ x ∷ []) [] ≡ begun_lines version before x.values ++ cert_line x.cert ∷ []
cert-lines version before x = append-nil (epoch_lines version (before ++ x ∷ [])) ∙ epochs-push version before x

one-more : (lines : List (List ℕ)) (line : List ℕ) → length (lines ++ line ∷ []) ≡ length lines + 1
one-more lines line = length-append lines (line ∷ [])

pub all-push : {A : Type 0} (P : A → Type 0) (xs : List A) (x : A) → AllByRecursion P xs → P x → AllByRecursion P (xs ++ x ∷ [])
all-push P [] x all is = (is, tt)
all-push P (y ∷ xs) x all is = (all.0, all-push P xs x all.1 is)

length-one : (vs : List Value) (v : Value) → length (vs ++ v ∷ []) ≡ length vs + 1
length-one vs v = length-append vs (v ∷ [])

-- ---- a line is read

pub at-value : (s : Setup) (all : List ℕ) (before : List CertifiedEpoch) (values new : List Value) (v : Value) (line : List ℕ) (old later : Place) → IsAt s all before values old → new ≡ values ++ v ∷ [] → length values < slots_of s (length before) (log_of before) → line ≡ value_line s.version v → IsValue s.version v → GoesPast line old later → later.read ≡ old.read + 1 → old.read < 11 + most_events → IsAt s all before new later
at-value s all before values new v line old later at more room is valid goes read few =
    let lines : begun_lines s.version before new ≡ begun_lines s.version before values ++ line ∷ [] = ap (begun_lines s.version before) more ∙ value-lines s.version before values v ∙ ap (λ (l : List ℕ). begun_lines s.version before values ++ l ∷ []) (sym is) in
    let count : length (begun_lines s.version before new) ≡ length (begun_lines s.version before values) + 1 = ap length lines ∙ one-more (begun_lines s.version before values) line in
    let long : length new ≡ length values + 1 = ap length more ∙ length-one values v in
    record {
      text = past all (begun_lines s.version before values) line old.rest later.rest at.text goes.text ∙ ap (λ (ls : List (List ℕ)). ended ls ++ later.rest) (sym lines);
      begun = record {
        whole = at.begun.whole;
        valid = subst (AllByRecursion (IsValue s.version)) (sym more) (all-push (IsValue s.version) values v at.begun.valid valid);
        few = omega (arith, long, room);
      };
      read = omega (arith, count, read, at.read);
      few = omega (arith, count, few, at.read);
    }

pub at-cert : (s : Setup) (all : List ℕ) (before next : List CertifiedEpoch) (values none : List Value) (x : CertifiedEpoch) (line : List ℕ) (old later : Place) → IsAt s all before values old → x.values ≡ values → next ≡ before ++ x ∷ [] → none ≡ [] → (length values < slots_of s (length before) (log_of before) → ⊥) → line ≡ cert_line x.cert → IsCertOf (length before) x.cert → GoesPast line old later → later.read ≡ old.read + 1 → old.read < 11 + most_events → IsAt s all next none later
at-cert s all before next values none x line old later at own more empty full is cert goes read few =
    let lines : begun_lines s.version next none ≡ begun_lines s.version before values ++ line ∷ [] =
    ap (λ (vs : List Value). begun_lines s.version next vs) empty ∙ ap (λ (xs : List CertifiedEpoch). begun_lines s.version xs []) more ∙ cert-lines s.version before x
    ∙ ap (λ (vs : List Value). begun_lines s.version before vs ++ cert_line x.cert ∷ []) own ∙ ap (λ (l : List ℕ). begun_lines s.version before values ++ l ∷ []) (sym is) in
    let count : length (begun_lines s.version next none) ≡ length (begun_lines s.version before values) + 1 = ap length lines ∙ one-more (begun_lines s.version before values) line in
    let short : length none ≡ 0 = ap length empty in
    let slots : length x.values ≡ slots_of s (length before) (log_of before) = ap length own ∙ omega (arith, full, at.begun.few) in
    record {
      text = past all (begun_lines s.version before values) line old.rest later.rest at.text goes.text ∙ ap (λ (ls : List (List ℕ)). ended ls ++ later.rest) (sym lines);
      begun = record {
        whole = subst (EachEpoch (IsWhole s) []) (sym more) (each-push (IsWhole s) [] before x at.begun.whole (record {
          slots = slots;
          values = subst (AllByRecursion (IsValue s.version)) (sym own) at.begun.valid;
          cert = cert;
        }));
        valid = subst (AllByRecursion (IsValue s.version)) (sym empty) tt;
        few = omega (arith, short);
      };
      read = omega (arith, count, read, at.read);
      few = omega (arith, count, few, at.read);
    }

-- the last line was read
pub record IsClosed (s : Setup) (all : List ℕ) (epochs : List CertifiedEpoch) (place : Place) : Type 0 where
  pub text : all ≡ ended (body_lines s.version epochs) ++ place.rest
  pub whole : EachEpoch (IsWhole s) [] epochs
  pub count : place.read ≡ 11 + length (body_lines s.version epochs)
  pub few : length (body_lines s.version epochs) ≤ most_events

pub at-end : (s : Setup) (all : List ℕ) (before : List CertifiedEpoch) (values : List Value) (line : List ℕ) (old later : Place) → IsAt s all before values old → values ≡ [] → line ≡ last_line → GoesPast line old later → later.read ≡ old.read + 1 → old.read < 11 + most_events → IsClosed s all before later
at-end s all before values line old later at empty is goes read few =
    let same : begun_lines s.version before values ≡ epoch_lines s.version before = ap (begun_lines s.version before) empty ∙ append-nil (epoch_lines s.version before) in
    let lines : body_lines s.version before ≡ begun_lines s.version before values ++ line ∷ [] =
    ap (λ (ls : List (List ℕ)). ls ++ last_line ∷ []) (sym same) ∙ ap (λ (l : List ℕ). begun_lines s.version before values ++ l ∷ []) (sym is) in
    let count : length (body_lines s.version before) ≡ length (begun_lines s.version before values) + 1 = ap length lines ∙ one-more (begun_lines s.version before values) line in
    record {
      text = past all (begun_lines s.version before values) line old.rest later.rest at.text goes.text ∙ ap (λ (ls : List (List ℕ)). ended ls ++ later.rest) (sym lines);
      whole = at.begun.whole;
      count = omega (arith, count, read, at.read);
      few = omega (arith, count, few, at.read);
    }

-- ---- refusals

pub no-next : (s : Setup) (all : List ℕ) (before : List CertifiedEpoch) (values : List Value) (place : Place) (e : ReadError) → IsAt s all before values place → IsNextRefused place e → IsBodyRefused s all e
no-next s all before values place (BadLine line why) at h = inl (record {
  before = before;
  values = values;
  rest = place.rest;
  text = at.text;
  begun = at.begun;
  number = omega (arith, h.0, at.read);
  bad = next-bad (length (begun_lines s.version before values)) (IsFault s before values) place.rest why (h.1 (length (begun_lines s.version before values)) at.read);
})
no-next s all before values place NoMemory at h = tt

-- the certificate of each whole epoch is of its number
pub numbered : (s : Setup) (xs read : List CertifiedEpoch) → EachEpoch (IsWhole s) [] xs → read ≡ xs → EachEpoch (λ (b : List CertifiedEpoch) (x : CertifiedEpoch). x.cert.epoch.0 ≡ length b) [] read
numbered s xs read each same =
    subst (EachEpoch (λ (b : List CertifiedEpoch) (x : CertifiedEpoch). x.cert.epoch.0 ≡ length b) []) (sym same)
    (each-weaker (IsWhole s) (λ (b : List CertifiedEpoch) (x : CertifiedEpoch). x.cert.epoch.0 ≡ length b)
    (λ b x whole. (cert-related (length b) (spell_cert x.cert) [] x.cert whole.cert.1).epoch) [] xs each)
