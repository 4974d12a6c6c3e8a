-- A text with a bad line is the text of no export.
use Rattle.std.proofs.Common.{◌≡◌, inl, inr, ◌⊎◌, ℕ, zero, suc, ◌+◌, ◌<◌, ◌≤◌, List, [], ◌∷◌, ◌++◌, codes, length, map, append_assoc, append-nil, length-append, refl, sym, ap, ap₂, ◌∙◌, subst, arith}
use Rattle.std.specs.List.{AllByRecursion}
use Rattle.iss_base.proofs.Lists.{ends-same}
use Rattle.iss_request.specs.declared.requests.Value.{Value}
use Rattle.iss_request.specs.declared.setups.Setup.{Setup}
use Rattle.iss_checkpoint.specs.Certificates.{parse_cert, spell_cert}
use Rattle.iss_checkpoint.specs.declared.votes.Cert.{Cert}
use Rattle.iss_schedule.specs.Schedules.{most_events}
use Rattle.iss_schedule.specs.Words.{ended}
use Rattle.iss_schedule.specs.declared.errors.LineFault.{LineFault}
use Rattle.iss_schedule.proofs.BadLines.LinesHaveTheirForm.{AreWhole, Left, Meets, Right, Same, meets, whole_append}
use Rattle.iss_texts.specs.Bodies.{last_line}
use Rattle.iss_texts.proofs.BodyLemmas.{NoneLast, first-is, good-behind, good-next, has-last, none-append, not-inner, rest-is}
use Rattle.iss_texts.proofs.HeaderLemmas.{first-whole, good-header, same-header}
use Rattle.iss_audit.specs.Exports.{EachEpoch, IsExport, IsValue, IsWhole, body_lines, cert_line, epoch_lines, log_of, slots_of, value_line}
use Rattle.iss_audit.specs.Refusals.{IsBadAfter, IsBadAfterHeader, IsBadInside, IsBadText, IsFault, MayFollow, begun_lines}
use Rattle.iss_audit.specs.declared.exports.CertifiedEpoch.{CertifiedEpoch}
use Rattle.iss_audit.specs.declared.exports.Export.{Export}
use Rattle.iss_audit.proofs.OneExport.{head-is, length-lines, same-thing, same-values, whole-body, whole-epochs, whole-values}

-- ---- no line of an epoch is the last line

none-values : (version : ℕ) (vs : List Value) → NoneLast (map (value_line version) vs)
none-values version [] = tt
none-values version (v ∷ vs) = ((λ e. omega (arith, head-is _ _ _ _ e)), none-values version vs)

none-epochs : (version : ℕ) (xs : List CertifiedEpoch) → NoneLast (epoch_lines version xs)
none-epochs version [] = tt
none-epochs version (x ∷ xs) = none-append (map (value_line version) x.values) (cert_line x.cert ∷ epoch_lines version xs) (none-values version x.values) ((λ e. omega (arith, head-is _ _ _ _ e)), none-epochs version xs)

none-begun : (version : ℕ) (before : List CertifiedEpoch) (values : List Value) (xs ys : List (List ℕ)) → begun_lines version before values ≡ xs ++ last_line ∷ ys → ⊥
none-begun version before values xs ys e =
    has-last xs ys (subst NoneLast e (none-append (epoch_lines version before) (map (value_line version) values) (none-epochs version before) (none-values version values)))

-- ---- what follows a prefix of an export may follow it

value-follows : (version : ℕ) (xs vs : List Value) (r : List (List ℕ)) (m : List ℕ) (ms : List (List ℕ)) → AllByRecursion (IsValue version) xs → length vs < length xs → map (value_line version) xs ++ r ≡ map (value_line version) vs ++ m ∷ ms → (v : Value) × (IsValue version v × (m ≡ value_line version v))
value-follows version [] vs r m ms h lt e = absurd (omega (arith, lt))
value-follows version (x ∷ xs) [] r m ms h lt e = (x, (h.0, sym (first-is _ _ _ _ e)))
value-follows version (x ∷ xs) (v ∷ vs) r m ms h lt e = let within : length vs < length xs = omega (arith, lt) in value-follows version xs vs r m ms h.1 within (rest-is _ _ _ _ e)

abbrev Choice : ℕ → ℕ → Type 0
Choice a b = (a < b) ⊎ (a ≡ b)

choose : (a b : ℕ) → a ≤ b → Choice a b
choose zero zero le = inr refl
choose zero (suc b) le = inl (omega arith)
choose (suc a) zero le = absurd (omega (arith, le))
choose (suc a) (suc b) le = let within : a ≤ b = omega (arith, le) in go (choose a b within)
  where
    go : Choice a b → Choice (suc a) (suc b)
    go (inl lt) = inl (omega (arith, lt))
    go (inr same) = inr (ap suc same)

inside : (s : Setup) (before : List CertifiedEpoch) (values : List Value) (x : CertifiedEpoch) (xs : List CertifiedEpoch) (m : List ℕ) (ms : List (List ℕ)) → IsWhole s before x → map (value_line s.version) x.values ++ cert_line x.cert ∷ body_lines s.version xs ≡ map (value_line s.version) values ++ m ∷ ms → Choice (length values) (length x.values) → MayFollow s before values m
inside s before values x xs m ms whole e (inl lt) =
    let found = value-follows s.version x.values values (cert_line x.cert ∷ body_lines s.version xs) m ms whole.values lt e in
    inr (inl (omega (arith, lt, whole.slots), found))
inside s before values x xs m ms whole e (inr same) =
    let long : length (map (value_line s.version) x.values) ≡ length (map (value_line s.version) values) = length-lines s.version x.values ∙ sym same ∙ sym (length-lines s.version values) in
    let cut = ends-same (map (value_line s.version) x.values) (map (value_line s.version) values) (cert_line x.cert ∷ body_lines s.version xs) (m ∷ ms) long e in
    inr (inr (same ∙ whole.slots, (x.cert, (whole.cert, sym (first-is _ _ _ _ cut.1)))))

epoch-parts : (version : ℕ) (x : CertifiedEpoch) (xs : List CertifiedEpoch) → body_lines version (x ∷ xs) ≡ map (value_line version) x.values ++ cert_line x.cert ∷ body_lines version xs
epoch-parts version x xs = append_assoc (map (value_line version) x.values) (cert_line x.cert ∷ epoch_lines version xs) (last_line ∷ [])

begun-parts : (version : ℕ) (b : CertifiedEpoch) (before : List CertifiedEpoch) (values : List Value) (r : List (List ℕ)) → begun_lines version (b ∷ before) values ++ r ≡ map (value_line version) b.values ++ cert_line b.cert ∷ (begun_lines version before values ++ r)
begun-parts version b before values r =
    ap (λ (ls : List (List ℕ)). ls ++ r) (append_assoc (map (value_line version) b.values) (cert_line b.cert ∷ epoch_lines version before) (map (value_line version) values))
    ∙ append_assoc (map (value_line version) b.values) (cert_line b.cert ∷ begun_lines version before values) r

follows : (s : Setup) (start before : List CertifiedEpoch) (values : List Value) (xs : List CertifiedEpoch) (m : List ℕ) (ms : List (List ℕ)) → EachEpoch (IsWhole s) start before → length values ≤ slots_of s (length (start ++ before)) (log_of (start ++ before)) → EachEpoch (IsWhole s) start xs → body_lines s.version xs ≡ begun_lines s.version before values ++ m ∷ ms → MayFollow s (start ++ before) values m
follows s start [] [] [] m ms h few k e = inl (refl, sym (first-is _ _ _ _ e))
follows s start [] (v ∷ vs) [] m ms h few k e = absurd (omega (arith, head-is _ _ _ _ (first-is _ _ _ _ e)))
follows s start [] values (x ∷ xs) m ms h few k e =
    subst (λ (b : List CertifiedEpoch). MayFollow s b values m) (sym (append-nil start))
    (inside s start values x xs m ms k.0 (sym (epoch-parts s.version x xs) ∙ e)
    (let low : length values ≤ slots_of s (length start) (log_of start) = subst (λ (b : List CertifiedEpoch). length values ≤ slots_of s (length b) (log_of b)) (append-nil start) few in
    choose (length values) (length x.values) (omega (arith, low, k.0.slots))))
follows s start (b ∷ before) values [] m ms h few k e = absurd (
    not-first s.version b.values b.cert (begun_lines s.version before values ++ m ∷ ms) (e ∙ begun-parts s.version b before values (m ∷ ms))
    )
  where
    not-first : (version : ℕ) (vs : List Value) (c : Cert) (r : List (List ℕ)) → last_line ∷ [] ≡ map (value_line version) vs ++ cert_line c ∷ r → ⊥
    not-first version [] c r q = omega (arith, head-is _ _ _ _ (first-is _ _ _ _ q))
    not-first version (v ∷ vs) c r q = omega (arith, head-is _ _ _ _ (first-is _ _ _ _ q))
follows s start (b ∷ before) values (x ∷ xs) m ms h few k e =
    let line = value_line s.version in
    let parts : map line x.values ++ cert_line x.cert ∷ body_lines s.version xs ≡ map line b.values ++ cert_line b.cert ∷ (begun_lines s.version before values ++ m ∷ ms) =
    sym (epoch-parts s.version x xs) ∙ e ∙ begun-parts s.version b before values (m ∷ ms) in
    let long : length (map line x.values) ≡ length (map line b.values) = length-lines s.version x.values ∙ k.0.slots ∙ sym h.0.slots ∙ sym (length-lines s.version b.values) in
    let cut = ends-same (map line x.values) (map line b.values) (cert_line x.cert ∷ body_lines s.version xs) (cert_line b.cert ∷ (begun_lines s.version before values ++ m ∷ ms)) long parts in
    let same-list = same-values s.version x.values b.values k.0.values h.0.values cut.0 in
    let same-cert = same-thing spell_cert (parse_cert (length start)) (codes "cert") x.cert b.cert k.0.cert h.0.cert (first-is _ _ _ _ cut.1) in
    let one : x ≡ b = ap₂ (λ (vs : List Value) (c : Cert). (let z : CertifiedEpoch = record { values = vs; cert = c } in z)) same-list same-cert in
    let assoc : (start ++ b ∷ []) ++ before ≡ start ++ b ∷ before = append_assoc start (b ∷ []) before in
    subst (λ (p : List CertifiedEpoch). MayFollow s p values m) assoc
    (follows s (start ++ b ∷ []) before values xs m ms h.1 (subst (λ (p : List CertifiedEpoch). length values ≤ slots_of s (length p) (log_of p)) (sym assoc) few)
    (subst (λ (z : CertifiedEpoch). EachEpoch (IsWhole s) (start ++ z ∷ []) xs) one k.1) (rest-is _ _ _ _ cut.1))

-- ---- no bad line after the header

bad-inside : (s : Setup) (xs : List CertifiedEpoch) (line : ℕ) (why : LineFault) → EachEpoch (IsWhole s) [] xs → length (body_lines s.version xs) ≤ most_events → IsBadInside s (ended (body_lines s.version xs)) line why → ⊥
bad-inside s xs line why each few bad =
    go (meets (begun_lines s.version bad.before bad.values) (body_lines s.version xs) bad.rest [] whole (whole-body s xs each) (sym bad.text ∙ sym (append-nil (ended (body_lines s.version xs)))))
  where
    whole : AreWhole (begun_lines s.version bad.before bad.values)
    whole = whole_append (epoch_lines s.version bad.before) (map (value_line s.version) bad.values) (whole-epochs s [] bad.before bad.begun.whole) (whole-values s.version bad.values bad.begun.valid)

    go : Meets (begun_lines s.version bad.before bad.values) (body_lines s.version xs) bad.rest [] → ⊥
    go (Same e f) = none-begun s.version bad.before bad.values (epoch_lines s.version xs) [] e
    go (Right m ms e f) = none-begun s.version bad.before bad.values (epoch_lines s.version xs) (m ∷ ms) (e ∙ append_assoc (epoch_lines s.version xs) (last_line ∷ []) (m ∷ ms))
    go (Left m ms e f) =
        good-next (length (begun_lines s.version bad.before bad.values)) (length (body_lines s.version xs)) (IsFault s bad.before bad.values) m (ended ms ++ []) bad.rest why few
        (omega (arith, ap length e, length-append (begun_lines s.version bad.before bad.values) (m ∷ ms)))
        (first-whole (begun_lines s.version bad.before bad.values) m ms (subst AreWhole e (whole-body s xs each)))
        (λ w h. h.1 (follows s [] bad.before bad.values xs m ms bad.begun.whole bad.begun.few each e))
        (f ∙ append_assoc m (10 ∷ ended ms) []) bad.bad

bad-after : (s : Setup) (xs : List CertifiedEpoch) (line : ℕ) (why : LineFault) → EachEpoch (IsWhole s) [] xs → IsBadAfter s (ended (body_lines s.version xs)) line why → ⊥
bad-after s xs line why each bad =
    go (meets (body_lines s.version bad.epochs) (body_lines s.version xs) bad.rest [] (whole-body s bad.epochs bad.whole) (whole-body s xs each) (sym bad.text ∙ sym (append-nil (ended (body_lines s.version xs)))))
  where
    go : Meets (body_lines s.version bad.epochs) (body_lines s.version xs) bad.rest [] → ⊥
    go (Same e f) = good-behind bad.rest why f bad.bad
    go (Left m ms e f) = not-inner (epoch_lines s.version xs) (epoch_lines s.version bad.epochs) m ms (none-epochs s.version xs) e
    go (Right m ms e f) = not-inner (epoch_lines s.version bad.epochs) (epoch_lines s.version xs) m ms (none-epochs s.version bad.epochs) e

bad-body : (bytes : List ℕ) (x : Export) (line : ℕ) (why : LineFault) → IsExport bytes x → IsBadAfterHeader bytes line why → ⊥
bad-body bytes x line why is bad = go bad.bad
  where
    same : (bad.setup ≡ x.setup) × (bad.body ≡ ended (body_lines x.setup.version x.epochs))
    same = same-header bad.setup x.setup bad.body (ended (body_lines x.setup.version x.epochs)) bad.known is.setup (sym bad.text ∙ is.text)

    go : IsBadInside bad.setup bad.body line why ⊎ IsBadAfter bad.setup bad.body line why → ⊥
    go (inl h) = bad-inside x.setup x.epochs line why is.epochs is.few (subst (λ (s : Setup). IsBadInside s (ended (body_lines x.setup.version x.epochs)) line why) same.0 (subst (λ (b : List ℕ). IsBadInside bad.setup b line why) same.1 h))
    go (inr h) = bad-after x.setup x.epochs line why is.epochs (subst (λ (s : Setup). IsBadAfter s (ended (body_lines x.setup.version x.epochs)) line why) same.0 (subst (λ (b : List ℕ). IsBadAfter bad.setup b line why) same.1 h))

pub no-export : (bytes : List ℕ) (line : ℕ) (why : LineFault) (x : Export) → IsBadText bytes line why → IsExport bytes x → ⊥
no-export bytes line why x (inl h) is = good-header bytes x.setup (ended (body_lines x.setup.version x.epochs)) line why is.setup is.text is.short h.0 h.1
no-export bytes line why x (inr h) is = bad-body bytes x line why is h
