-- The lines of a certified log, value by value and epoch by epoch.
use Rattle.std.proofs.Common.{◌≡◌, ◌∙◌, ℕ, ◌+◌, List, [], ◌∷◌, ◌++◌, length, reverse, append_assoc, length-append, sym, ap, ap₂, subst}
use Rattle.std.proofs.lemmas.List.{length-reverse, reverse-append}
use Rattle.iss_audit.specs.Exports.{log_of}
use Rattle.iss_audit.specs.declared.exports.CertifiedEpoch.{CertifiedEpoch}
use Rattle.iss_audit.proofs.EpochLemmas.{log-push}
use Rattle.iss_export.specs.Certified.{HasPrinted, certified_line, certified_text}
use Rattle.iss_export.specs.declared.printing.Place.{Place}
use Rattle.iss_log.proofs.LogLemmas.{requests-turned, requests_more}
use Rattle.iss_replay.specs.Text.{slot_line, slot_lines}
use Rattle.iss_request.specs.Log.{requests, size_of}
use Rattle.iss_request.specs.declared.requests.Value.{Value}

lines-more : (log : List Value) (v : Value) → slot_lines (reverse log) ++ slot_line (length log) (requests log) v ≡ slot_lines (reverse (log ++ v ∷ []))
lines-more log v =
    ap₂ (λ (n r : ℕ). slot_lines (reverse log) ++ slot_line n r v) (sym (length-reverse log)) (sym (requests-turned log))
    ∙ ap (λ (xs : List Value). slot_lines xs) (sym (reverse-append log (v ∷ [])))

-- one more value
pub printed-more : (log : List Value) (text old new : List ℕ) (place next : Place) (v : Value) → HasPrinted log text old place →
    new ≡ old ++ slot_line place.slot place.first v → next ≡ record { slot = place.slot + 1; first = place.first + size_of v } → HasPrinted (log ++ v ∷ []) text new next
printed-more log text old new place next v h more is =
    let at : slot_line place.slot place.first v ≡ slot_line (length log) (requests log) v = ap (λ (p : Place). slot_line p.slot p.first v) h.place in
    record {
      lines = more ∙ ap₂ (λ (a b : List ℕ). a ++ b) h.lines at ∙ append_assoc text (slot_lines (reverse log)) (slot_line (length log) (requests log) v)
          ∙ ap (λ (t : List ℕ). text ++ t) (lines-more log v);
      place = is ∙ ap (λ (p : Place). record { slot = p.slot + 1; first = p.first + size_of v }) h.place
          ∙ ap₂ (λ (n r : ℕ). record { slot = n; first = r }) (sym (length-append log (v ∷ []))) (sym (requests_more log v));
    }

-- the same of a log with another name
pub printed-same : (log other : List Value) (text now : List ℕ) (place : Place) → log ≡ other → HasPrinted log text now place → HasPrinted other text now place
printed-same log other text now place is h = subst (λ (l : List Value). HasPrinted l text now place) is h

-- the log of one more epoch
pub epoch-more : (before later : List CertifiedEpoch) (x : CertifiedEpoch) → later ≡ before ++ x ∷ [] → log_of before ++ x.values ≡ log_of later
epoch-more before later x is = sym (log-push before x) ∙ ap (λ (xs : List CertifiedEpoch). log_of xs) (sym is)

-- ---- the last line

words-next : (out front old new name digits : List ℕ) → old ≡ out ++ front → new ≡ (old ++ name) ++ digits → new ≡ out ++ ((front ++ name) ++ digits)
words-next out front old new name digits h is =
    is ∙ ap (λ (t : List ℕ). (t ++ name) ++ digits) h ∙ ap (λ (t : List ℕ). t ++ digits) (append_assoc out front name) ∙ append_assoc out (front ++ name) digits

pub words-written : (out n1 d1 n2 d2 n3 d3 last a b c all : List ℕ) → a ≡ (out ++ n1) ++ d1 → b ≡ (a ++ n2) ++ d2 → c ≡ (b ++ n3) ++ d3 → all ≡ c ++ last →
    all ≡ out ++ ((((((n1 ++ d1) ++ n2) ++ d2) ++ n3) ++ d3) ++ last)
words-written out n1 d1 n2 d2 n3 d3 last a b c all one two three is =
    let first = one ∙ append_assoc out n1 d1 in
    let second = words-next out (n1 ++ d1) a b n2 d2 first two in
    let third = words-next out (((n1 ++ d1) ++ n2) ++ d2) b c n3 d3 second three in
    is ∙ ap (λ (t : List ℕ). t ++ last) third ∙ append_assoc out (((((n1 ++ d1) ++ n2) ++ d2) ++ n3) ++ d3) last

-- the lines, and then the last one
pub text-is : (epochs : List CertifiedEpoch) (lines all : List ℕ) (end : Place) → HasPrinted (log_of epochs) [] lines end → all ≡ lines ++ certified_line (length epochs) end.slot end.first → all ≡ certified_text epochs
text-is epochs lines all end h is =
    is ∙ ap₂ (λ (a : List ℕ) (p : Place). a ++ certified_line (length epochs) p.slot p.first) h.lines h.place
