-- The epochs that a core exports are written one after another, and the text is whole.
use Rattle.std.proofs.Common.{◌≡◌, ◌∙◌, inl, inr, ℕ, ◌+◌, ◌<◌, ◌≤◌, Bool, true, false, List, [], ◌∷◌, ◌++◌, length, map, take, drop, reverse, Option, Some, None, append_assoc, append-nil, length-append, refl, sym, ap, subst}
use Rattle.std.proofs.lemmas.List.{length-take-le, reverse-reverse, take-append-drop}
use Rattle.iss_audit.specs.Exports.{AreBytes, IsCertifiedText, IsRangedCert, EachEpoch, cert_line, epoch_lines, lines_of, log_of, text_of, value_line}
use Rattle.iss_audit.specs.declared.exports.CertifiedEpoch.{CertifiedEpoch}
use Rattle.iss_audit.specs.declared.exports.Export.{Export}
use Rattle.iss_audit.proofs.EpochLemmas.{each-push, log-push}
use Rattle.iss_audit.proofs.ReadLemmas.{epochs-push}
use Rattle.iss_certified.specs.Exported.{AreCertifiedIfShort, AreExported, IsKept, IsRanged, certs_shown}
use Rattle.iss_checkpoint.specs.declared.votes.Cert.{Cert}
use Rattle.iss_disk.specs.declared.memory.MemoryDisk.{MemoryDisk}
use Rattle.iss_export.specs.Exporting.{HasExported, HasPut, IsExported, IsWritten, is_silent}
use Rattle.iss_keep.specs.State.{KeptRefinesCore, KeptState}
use Rattle.iss_model.specs.Courses.{Machines}
use Rattle.iss_model.specs.Node.{Core}
use Rattle.iss_model.specs.Run.{Held, node_of}
use Rattle.iss_model.proofs.Twins.{node-is}
use Rattle.iss_request.specs.declared.requests.Value.{Value}
use Rattle.iss_request.specs.declared.setups.Setup.{Setup}
use Rattle.iss_rules.specs.Concrete.{rules_of}
use Rattle.iss_rules.specs.Past.{log_of as past_log}
use Rattle.iss_schedule.specs.Schedules.{header_lines, most_bytes}
use Rattle.iss_schedule.specs.Words.{ended}
use Rattle.iss_schedule.specs.declared.schedules.Event.{Event}
use Rattle.iss_schedule.proofs.BadLines.PrefixesAreRead.{ended-append}
use Rattle.iss_sb.specs.Calls.{Relation}
use Rattle.iss_sb.specs.Evidence.{Module, is_correct}
use Rattle.iss_texts.specs.Bodies.{last_line}
use Rattle.iss_theorems.specs.Headline.{course_after, held_after, shown}
use Rattle.iss_theorems.specs.Readers.{reader_after}
use Rattle.iss_world.specs.Refines.{RefinesOrRetreated, RefinesOrShowsCore}

-- ---- one epoch after another

-- The lines of the first `number` exported epochs were written, and the rest of the log is to come.
pub record Puts (s : Setup) (kept : ℕ → Option Cert) (log : List Value) (old : List ℕ) (rest : List Value) (number : ℕ) (now : List ℕ) : Type 0 where
  pub epochs : List CertifiedEpoch
  pub each : EachEpoch (IsKept s kept) [] epochs
  pub ranged : EachEpoch (IsRanged s) [] epochs
  pub all : log ≡ log_of epochs ++ rest
  pub count : length epochs ≡ number
  pub text : now ≡ old ++ ended (epoch_lines s.version epochs)

pub puts-none : (s : Setup) (kept : ℕ → Option Cert) (log : List Value) (old : List ℕ) → Puts s kept log old log 0 old
puts-none s kept log old = record { epochs = []; each = tt; ranged = tt; all = refl; count = refl; text = sym (append-nil old) }

parts : {A : Type 0} (n : ℕ) (xs : List A) → take n xs ++ drop n xs ≡ xs
parts n xs = take-append-drop n xs

lines-push : (version : ℕ) (before : List CertifiedEpoch) (x : CertifiedEpoch) → epoch_lines version (before ++ x ∷ []) ≡ epoch_lines version before ++ lines_of version x.values x.cert
lines-push version before x = epochs-push version before x ∙ append_assoc (epoch_lines version before) (map (value_line version) x.values) (cert_line x.cert ∷ [])

pub puts-more : (s : Setup) (kept : ℕ → Option Cert) (log : List Value) (old : List ℕ) (rest : List Value) (number : ℕ) (now new : List ℕ) (cert : Cert) → Puts s kept log old rest number now → kept number ≡ Some cert →
    s.epoch ≤ length rest → new ≡ now ++ ended (lines_of s.version (take s.epoch rest) cert) → AreBytes s.version (take s.epoch rest) → IsRangedCert cert → Puts s kept log old (drop s.epoch rest) (number + 1) new
puts-more s kept log old rest number now new cert h found many more bytes range =
    let front = take s.epoch rest in
    let x : CertifiedEpoch = record { values = front; cert = cert } in
    let lines = lines_of s.version front cert in
    record {
      epochs = h.epochs ++ x ∷ [];
      each = each-push (IsKept s kept) [] h.epochs x h.each (length-take-le s.epoch rest many, subst (λ (k : ℕ). kept k ≡ Some cert) (sym h.count) found);
      ranged = each-push (IsRanged s) [] h.epochs x h.ranged (bytes, range);
      all = h.all ∙ ap (λ (vs : List Value). log_of h.epochs ++ vs) (sym (parts s.epoch rest)) ∙ sym (append_assoc (log_of h.epochs) front (drop s.epoch rest))
          ∙ ap (λ (vs : List Value). vs ++ drop s.epoch rest) (sym (log-push h.epochs x));
      count = length-append h.epochs (x ∷ []) ∙ ap (λ (k : ℕ). k + 1) h.count;
      text = more ∙ ap (λ (t : List ℕ). t ++ ended lines) h.text ∙ append_assoc old (ended (epoch_lines s.version h.epochs)) (ended lines)
          ∙ ap (λ (t : List ℕ). old ++ t) (sym (ended-append (epoch_lines s.version h.epochs) lines))
          ∙ ap (λ (ls : List (List ℕ)). old ++ ended ls) (sym (lines-push s.version h.epochs x));
    }

pub puts-short : (s : Setup) (kept : ℕ → Option Cert) (log : List Value) (old : List ℕ) (rest : List Value) (number : ℕ) (now : List ℕ) → Puts s kept log old rest number now → length rest < s.epoch → HasPut s kept log old now
puts-short s kept log old rest number now h short =
    record { epochs = h.epochs; exported = record { each = h.each; rest = rest; all = h.all; last = inr short }; ranged = h.ranged; text = h.text }

pub puts-uncertified : (s : Setup) (kept : ℕ → Option Cert) (log : List Value) (old : List ℕ) (rest : List Value) (number : ℕ) (now : List ℕ) → Puts s kept log old rest number now → kept number ≡ None → HasPut s kept log old now
puts-uncertified s kept log old rest number now h none =
    record {
      epochs = h.epochs;
      exported = record { each = h.each; rest = rest; all = h.all; last = inl (subst (λ (k : ℕ). kept k ≡ None) (sym h.count) none) };
      ranged = h.ranged;
      text = h.text;
    }

-- a silent core exports no epoch
pub put-none : {Msg : Type 0} (s : Setup) (c : Core Msg) (log : List Value) (old : List ℕ) → HasPut s (certs_shown c true) log old old
put-none s c log old =
    record { epochs = []; exported = record { each = tt; rest = log; all = refl; last = inl refl }; ranged = tt; text = sym (append-nil old) }

-- ---- silent cores

module _ {M Msg : Type 0} (m : Module Msg) (refines : Relation M Msg) (g : KeptState M Msg MemoryDisk) (c : Core Msg) where
  refines-then : (b : Bool) → RefinesOrShowsCore m refines g c b → g.stale ≡ false → KeptRefinesCore m refines g c
  refines-then false k fresh = k
  refines-then true k fresh = let no : true ≡ false = sym k.0 ∙ fresh in absurd (cc)

  -- a node that is not stale refines its core
  pub refines-core : (s : Setup) (me : ℕ) (d : _) → RefinesOrRetreated m refines s me g c d → g.stale ≡ false → KeptRefinesCore m refines g c
  refines-core s me d (inl k) fresh = refines-then d.failed k.there fresh
  refines-core s me d (inr k) fresh = let no : true ≡ false = sym k.stale ∙ fresh in absurd (cc)

-- ---- the text

-- the log of a node's first core, as it is shown
pub log-shown : {Msg : Type 0} (s : Setup) (m : Module Msg) (h : Held Msg) (i : ℕ) (entries : List Value) → i < s.n → past_log (rules_of s) m (node_of s i) (h.net.cores i).past ≡ reverse entries → entries ≡ shown s m h i
log-shown s m h i entries lt is =
    sym (reverse-reverse entries) ∙ ap (λ (l : List Value). reverse l) (sym is)
    ∙ ap (λ (k : ℕ). reverse (past_log (rules_of s) m k (h.net.cores i).past)) (node-is s i lt)

-- the header, the epochs and the last line are the whole text
pub text-whole : (s : Setup) (epochs : List CertifiedEpoch) (head body all : List ℕ) → head ≡ ended (header_lines s) → body ≡ head ++ ended (epoch_lines s.version epochs) → all ≡ body ++ last_line ++ 10 ∷ [] → all ≡ text_of (record { setup = s; epochs = epochs })
text-whole s epochs head body all h b a =
    let lines = epoch_lines s.version epochs in
    a ∙ append_assoc body last_line (10 ∷ []) ∙ ap (λ (t : List ℕ). t ++ ended (last_line ∷ [])) (b ∙ ap (λ (t : List ℕ). t ++ ended lines) h)
    ∙ append_assoc (ended (header_lines s)) (ended lines) (ended (last_line ∷ [])) ∙ ap (λ (t : List ℕ). ended (header_lines s) ++ t) (sym (ended-append lines (last_line ∷ [])))

pub written : {Msg : Type 0} (s : Setup) (M : Module Msg) (w : Machines Msg) (reader : Option ℕ) (i : ℕ) (head body all : List ℕ) → head ≡ ended (header_lines s) → HasExported s M w reader i head body → all ≡ body ++ last_line ++ 10 ∷ [] → IsWritten s M w reader i all
written s M w reader i head body all h put a =
    record { text = record { epochs = put.epochs; exported = put.exported; text = text-whole s put.epochs head body all h put.text a }; ranged = put.ranged }

-- ---- what is exported is certified

abbrev pub AreAllCertified : {Msg : Type 0} → Setup → Module Msg → List Event → ℕ → Type 0
AreAllCertified s M events i = (silent : Bool) → is_correct s i ≡ true → (epochs : List CertifiedEpoch) → AreExported s (shown s M (held_after s M events) i) (certs_shown ((held_after s M events).net.cores i) silent) epochs →
    EachEpoch (IsRanged s) [] epochs → AreCertifiedIfShort s epochs

pub exported : {Msg : Type 0} (s : Setup) (M : Module Msg) (events : List Event) (i : ℕ) (bytes : List ℕ) → AreAllCertified s M events i → IsWritten s M (course_after s M events).state (reader_after s M events) i bytes → IsExported s M events i bytes
exported s M events i bytes law w =
    let x : Export = record { setup = s; epochs = w.text.epochs } in
    record {
      text = w.text;
      certified = λ right. record {
        export = x;
        text = w.text.text;
        certified = λ short.
            subst (λ (b : List ℕ). IsCertifiedText b x) (sym w.text.text) (law (is_silent s M events i) right w.text.epochs w.text.exported w.ranged (subst (λ (b : List ℕ). length b ≤ most_bytes) w.text.text short));
      };
    }
