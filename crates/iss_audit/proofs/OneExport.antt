-- A text is that of at most one export.
use Rattle.std.proofs.Common.{◌≡◌, ℕ, suc, List, [], ◌∷◌, ◌++◌, codes, length, map, take, drop, append_assoc, append-nil, refl, sym, ap, ap₂, ◌∙◌, subst, arith}
use Rattle.std.specs.List.{AllByRecursion}
use Rattle.iss_base.proofs.Lists.{ends-same}
use Rattle.iss_request.specs.Fields.{Parsed, Good}
use Rattle.iss_request.specs.Formats.{parse_value, spell_value}
use Rattle.iss_request.specs.declared.requests.Value.{Value}
use Rattle.iss_request.specs.declared.setups.Setup.{Setup}
use Rattle.iss_checkpoint.specs.Certificates.{parse_cert, spell_cert}
use Rattle.iss_checkpoint.specs.declared.votes.Cert.{Cert}
use Rattle.iss_schedule.specs.Schedules.{header_lines}
use Rattle.iss_schedule.specs.Words.{Lacks, ended, word_of}
use Rattle.iss_schedule.proofs.BadLines.LinesHaveTheirForm.{AreWhole, meets, whole_append, whole_header}
use Rattle.iss_schedule.proofs.OneScheduleAText.{same_lines}
use Rattle.iss_schedule.proofs.BadLines.PrefixesAreRead.{ended-append}
use Rattle.iss_schedule.proofs.Encoding.NoSeparatorInWords.{feed, lacks_append, lacks_by_test, lacks_word}
use Rattle.iss_schedule.proofs.HeaderTable.ValuesDetermineSetup.{same_setup}
use Rattle.hex.specs.Hex.{IsBytes}
use Rattle.iss_texts.specs.Bodies.{last_line}
use Rattle.iss_texts.proofs.BodyLemmas.{first-is, rest-is}
use Rattle.iss_audit.specs.Exports.{EachEpoch, IsExport, IsValue, IsWhole, body_lines, cert_line, epoch_lines, hex_line, value_line}
use Rattle.iss_audit.specs.declared.exports.CertifiedEpoch.{CertifiedEpoch}
use Rattle.iss_audit.specs.declared.exports.Export.{Export}
use Rattle.iss_audit.proofs.LineLemmas.{Encodes, same-bytes}

-- ---- no line feed in a line

whole-hex : (name bytes : List ℕ) → Lacks 10 name → IsBytes bytes → Lacks 10 (hex_line name bytes)
whole-hex name bytes whole fits = lacks_append 10 name (32 ∷ word_of bytes) whole ((λ e. omega (arith, e)), lacks_word 10 bytes feed fits)

pub whole-values : (version : ℕ) (vs : List Value) → AllByRecursion (IsValue version) vs → AreWhole (map (value_line version) vs)
whole-values version [] all = tt
whole-values version (v ∷ vs) all = (whole-hex (codes "value") (spell_value version v) (lacks_by_test 10 (codes "value") refl) all.0.0, whole-values version vs all.1)

pub whole-epochs : (s : Setup) (before xs : List CertifiedEpoch) → EachEpoch (IsWhole s) before xs → AreWhole (epoch_lines s.version xs)
whole-epochs s before [] each = tt
whole-epochs s before (x ∷ xs) each =
    whole_append (map (value_line s.version) x.values) (cert_line x.cert ∷ epoch_lines s.version xs) (whole-values s.version x.values each.0.values)
    (whole-hex (codes "cert") (spell_cert x.cert) (lacks_by_test 10 (codes "cert") refl) each.0.cert.0, whole-epochs s (before ++ x ∷ []) xs each.1)

pub export-lines : Export → List (List ℕ)
export-lines x = header_lines x.setup ++ body_lines x.setup.version x.epochs

pub whole-body : (s : Setup) (xs : List CertifiedEpoch) → EachEpoch (IsWhole s) [] xs → AreWhole (body_lines s.version xs)
whole-body s xs each = whole_append (epoch_lines s.version xs) (last_line ∷ []) (whole-epochs s [] xs each) (lacks_by_test 10 last_line refl, tt)

whole-export : (bytes : List ℕ) (x : Export) → IsExport bytes x → AreWhole (export-lines x)
unfolding export-lines
whole-export bytes x is =
    whole_append (header_lines x.setup) (body_lines x.setup.version x.epochs) (whole_header x.setup is.setup)
    (whole-body x.setup x.epochs is.epochs)

-- ---- equal lines

pub same-thing : {A : Type 0} (spell : A → List ℕ) (parse : List ℕ → Parsed A) (name : List ℕ) (a b : A) → Encodes spell parse a → Encodes spell parse b → hex_line name (spell a) ≡ hex_line name (spell b) → a ≡ b
same-thing spell parse name a b h k e =
    let same : spell a ≡ spell b = same-bytes name (spell a) (spell b) h.0 k.0 e in
    let good : Good a [] ≡ Good b [] = sym h.1 ∙ ap parse same ∙ k.1 in
    cc

pub same-values : (version : ℕ) (vs ws : List Value) → AllByRecursion (IsValue version) vs → AllByRecursion (IsValue version) ws → map (value_line version) vs ≡ map (value_line version) ws → vs ≡ ws
same-values version [] [] h k e = refl
same-values version [] (w ∷ ws) h k e = let two : [] ≡ value_line version w ∷ map (value_line version) ws = e in cc
same-values version (v ∷ vs) [] h k e = let two : value_line version v ∷ map (value_line version) vs ≡ [] = e in cc
same-values version (v ∷ vs) (w ∷ ws) h k e =
    let both : value_line version v ∷ map (value_line version) vs ≡ value_line version w ∷ map (value_line version) ws = e in
    let heads : value_line version v ≡ value_line version w = cc in
    let tails : map (value_line version) vs ≡ map (value_line version) ws = cc in
    ap₂ (λ (z : Value) (zs : List Value). z ∷ zs) (same-thing (spell_value version) (parse_value version) (codes "value") v w h.0 k.0 heads) (same-values version vs ws h.1 k.1 tails)

pub length-lines : (version : ℕ) (vs : List Value) → length (map (value_line version) vs) ≡ length vs
length-lines version [] = refl
length-lines version (v ∷ vs) = ap suc (length-lines version vs)

pub head-is : (a b : ℕ) (ls ks : List ℕ) → a ∷ ls ≡ b ∷ ks → a ≡ b
head-is a b ls ks e = cc

pub not-last : (version : ℕ) (values : List Value) (cert : Cert) (more : List (List ℕ)) → last_line ∷ [] ≡ (map (value_line version) values ++ cert_line cert ∷ more) ++ last_line ∷ [] → ⊥
not-last version [] cert more e = omega (arith, head-is _ _ _ _ (first-is last_line (cert_line cert) _ _ e))
not-last version (v ∷ vs) cert more e = omega (arith, head-is _ _ _ _ (first-is last_line (value_line version v) _ _ e))

pub same-epochs : (s : Setup) (before xs ys : List CertifiedEpoch) → EachEpoch (IsWhole s) before xs → EachEpoch (IsWhole s) before ys → body_lines s.version xs ≡ body_lines s.version ys → xs ≡ ys
same-epochs s before [] [] h k e = refl
same-epochs s before [] (y ∷ ys) h k e = absurd (not-last s.version y.values y.cert (epoch_lines s.version ys) e)
same-epochs s before (x ∷ xs) [] h k e = absurd (not-last s.version x.values x.cert (epoch_lines s.version xs) (sym e))
same-epochs s before (x ∷ xs) (y ∷ ys) h k e =
    let line = value_line s.version in
    let parts : map line x.values ++ (cert_line x.cert ∷ body_lines s.version xs) ≡ map line y.values ++ (cert_line y.cert ∷ body_lines s.version ys) =
    sym (append_assoc (map line x.values) (cert_line x.cert ∷ epoch_lines s.version xs) (last_line ∷ [])) ∙ e ∙ append_assoc (map line y.values) (cert_line y.cert ∷ epoch_lines s.version ys) (last_line ∷ []) in
    let long : length (map line x.values) ≡ length (map line y.values) = length-lines s.version x.values ∙ h.0.slots ∙ sym k.0.slots ∙ sym (length-lines s.version y.values) in
    let cut = ends-same (map line x.values) (map line y.values) (cert_line x.cert ∷ body_lines s.version xs) (cert_line y.cert ∷ body_lines s.version ys) long parts in
    let values = same-values s.version x.values y.values h.0.values k.0.values cut.0 in
    let certs = same-thing spell_cert (parse_cert (length before)) (codes "cert") x.cert y.cert h.0.cert k.0.cert (first-is _ _ _ _ cut.1) in
    let tails : body_lines s.version xs ≡ body_lines s.version ys = rest-is _ _ _ _ cut.1 in
    let one : x ≡ y = ap₂ (λ (vs : List Value) (c : Cert). (let z : CertifiedEpoch = record { values = vs; cert = c } in z)) values certs in
    ap₂ (λ (z : CertifiedEpoch) (zs : List CertifiedEpoch). z ∷ zs) one
    (same-epochs s (before ++ x ∷ []) xs ys h.1 (subst (λ (z : CertifiedEpoch). EachEpoch (IsWhole s) (before ++ z ∷ []) ys) (sym one) k.1) tails)

-- ---- equal texts

text-lines : (bytes : List ℕ) (x : Export) → IsExport bytes x → bytes ≡ ended (export-lines x) ++ []
unfolding export-lines
text-lines bytes x is = is.text ∙ sym (ended-append (header_lines x.setup) (body_lines x.setup.version x.epochs)) ∙ sym (append-nil (ended (header_lines x.setup ++ body_lines x.setup.version x.epochs)))

pub one-export : (bytes : List ℕ) (x y : Export) → IsExport bytes x → IsExport bytes y → x ≡ y
unfolding export-lines
one-export bytes x y h k =
    let lines : export-lines x ≡ export-lines y = same_lines (export-lines x) (export-lines y) (meets (export-lines x) (export-lines y) [] [] (whole-export bytes x h) (whole-export bytes y k) (sym (text-lines bytes x h) ∙ text-lines bytes y k)) in
    let header : header_lines x.setup ≡ header_lines y.setup = ap (λ (ls : List (List ℕ)). take 11 ls) lines in
    let body : body_lines x.setup.version x.epochs ≡ body_lines y.setup.version y.epochs = ap (λ (ls : List (List ℕ)). drop 11 ls) lines in
    let setup = same_setup x.setup y.setup h.setup k.setup header in
    let each : EachEpoch (IsWhole x.setup) [] y.epochs = subst (λ (s : Setup). EachEpoch (IsWhole s) [] y.epochs) (sym setup) k.epochs in
    let same : body_lines x.setup.version x.epochs ≡ body_lines x.setup.version y.epochs = body ∙ ap (λ (s : Setup). body_lines s.version y.epochs) (sym setup) in
    ap₂ (λ (s : Setup) (xs : List CertifiedEpoch). (let z : Export = record { setup = s; epochs = xs } in z)) setup (same-epochs x.setup [] x.epochs y.epochs h.epochs each same)
