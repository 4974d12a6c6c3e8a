-- Lines that no schedule has.
use Rattle.std.proofs.Common.{◌≡◌, ◌≢◌, ℕ, zero, suc, ◌+◌, ◌-◌, ◌<◌, ◌≤◌, List, [], ◌∷◌, ◌++◌, length, take, map, Option, Some, None, refl, sym, ap, subst, ◌∙◌, arith, append_assoc, length-append, inl, inr}
use Rattle.iss_base.specs.Lists.{nth}
use Rattle.iss_base.proofs.Lists.{nth-beyond}
use Rattle.iss_request.specs.declared.setups.Setup.{Setup}
use Rattle.iss_request.specs.declared.setups.Kind.TheVariants.{Stopping}
use Rattle.iss_schedule.specs.declared.errors.LineFault.{LineFault}
use Rattle.iss_schedule.specs.declared.errors.LineFault.TheVariants.{Cut, Form, Faulty, Injected, Range, Size}
use Rattle.iss_schedule.specs.declared.errors.ReadError.{ReadError}
use Rattle.iss_schedule.specs.declared.errors.ReadError.TheVariants.{BadLine, NoMemory}
use Rattle.iss_schedule.specs.declared.schedules.Event.{Event}
use Rattle.iss_schedule.specs.declared.schedules.Schedule.{Schedule}
use Rattle.iss_schedule.specs.BadLines.{Begins, BeginsStopping, IsBadRest, IsRefused}
use Rattle.iss_schedule.specs.Events.{spell_event, IsInRange, AreInRange}
use Rattle.iss_schedule.specs.Forms.{HasForm, IsFormed, IsEventLine, LineForm, forms_of}
use Rattle.iss_schedule.specs.Headers.{header_fields}
use Rattle.iss_schedule.specs.Places.{IsEventBad, IsEventsBad, IsEventsRefused}
use Rattle.iss_schedule.specs.Schedules.{header_lines, schedule_lines, IsKnown, IsFine, most_events, most_bytes}
use Rattle.iss_schedule.specs.Words.{ended}
use Rattle.iss_schedule.proofs.BadLines.PrefixesAreRead.{ended-append, nth_behind}
use Rattle.iss_schedule.proofs.HeaderTable.ValuesDetermineSetup.{same_setup}

pub take_all : (xs : List (List ℕ)) → xs ≡ take (length xs) xs
take_all [] = refl
take_all (x ∷ xs) = ap (λ (t : List (List ℕ)). x ∷ t) (take_all xs)

-- the lines after the header are events
pub event_at : (s : Setup) (es : List Event) (k : ℕ) (line : List ℕ) → AreInRange s es →
    nth (map spell_event es) k ≡ Some line → (e : Event) × (IsInRange s e × (line ≡ spell_event e))
event_at s [] k line range e = let none : None ≡ Some line = e in cc
event_at s (x ∷ xs) zero line range e = (x, (range.0, (let some : Some (spell_event x) ≡ Some line = e in cc)))
event_at s (x ∷ xs) (suc k) line range e = event_at s xs k line range.1 e

pub nth_right : (xs ys : List (List ℕ)) (k : ℕ) → length xs ≤ k → nth (xs ++ ys) k ≡ nth ys (k - length xs)
nth_right [] ys k le = let same : k - 0 ≡ k = omega arith in ap (nth ys) (sym same)
nth_right (x ∷ xs) ys zero le = absurd (omega arith)
nth_right (x ∷ xs) ys (suc k) le = let same : suc k - length (x ∷ xs) ≡ k - length xs = omega arith in
    nth_right xs ys k (omega arith) ∙ ap (nth ys) (sym same)

-- a line after the header of a schedule in range
pub event_behind : (s : Schedule) (k : ℕ) (line : List ℕ) → IsFine s → 11 ≤ k → nth (schedule_lines s) k ≡ Some line →
    (e : Event) × (IsInRange s.setup e × (line ≡ spell_event e))
event_behind s k line fine le e =
    event_at s.setup s.events (k - 11) line fine.events
    (sym (nth_right (header_lines s.setup) (map spell_event s.events) k le) ∙ e)

-- set-ups with the same header lines are equal
same_header : (s : Setup) (t : Schedule) (more : List (List ℕ)) → IsKnown s → IsFine t →
    header_lines s ++ more ≡ take (length (header_lines s ++ more)) (schedule_lines t) → s ≡ t.setup
same_header s t more known fine e = same_setup s t.setup known fine.setup (ap (λ (ls : List (List ℕ)). take 11 ls) e)

-- ---- a refusal after the header

pub behind_form : (n : ℕ) (line : List ℕ) → 11 ≤ n → HasForm n line → IsEventLine line
behind_form n line le h = subst (λ (o : Option LineForm). IsFormed o line) (nth-beyond (forms_of header_fields) n le) h

pub form_behind : (n : ℕ) (line : List ℕ) → 11 ≤ n → IsEventLine line → HasForm n line
form_behind n line le h =
    subst (λ (o : Option LineForm). IsFormed o line) (sym (nth-beyond (forms_of header_fields) n le)) h

-- after a line that encodes no event in range, no schedule continues
no_event : (s : Setup) (lines : List (List ℕ)) (line : List ℕ) → IsKnown s →
    ((e : Event) → IsInRange s e → line ≢ spell_event e) → Begins ((header_lines s ++ lines) ++ line ∷ []) → ⊥
no_event s lines line known none begin =
    let front = header_lines s ++ lines in
    let long : 11 ≤ length front = omega (arith, length-append (header_lines s) lines) in
    let here = event_behind begin.schedule (length front) line begin.fine long
    (nth_behind front line (schedule_lines begin.schedule) begin.front) in
    let all = append_assoc (header_lines s) lines (line ∷ []) in
    let alike = subst (λ (ls : List (List ℕ)). ls ≡ take (length ls) (schedule_lines begin.schedule)) all begin.front in
    none here.0 (subst (λ (t : Setup). IsInRange t here.0)
    (sym (same_header s begin.schedule (lines ++ line ∷ []) known begin.fine alike)) here.1.0) here.1.1

stopping_front : (s : Setup) (lines : List (List ℕ)) → IsKnown s → BeginsStopping (header_lines s ++ lines) →
    s.kind ≡ Stopping
stopping_front s lines known b =
    let t = b.begins.schedule in
    subst (λ (u : Setup). u.kind ≡ Stopping) (sym (same_header s t lines known b.begins.fine b.begins.front)) b.stops

bad_event : (s : Setup) (lines : List (List ℕ)) (rest : List ℕ) (why : LineFault) → IsKnown s →
    (s.kind ≡ Stopping → BeginsStopping (header_lines s ++ lines)) → length lines < most_events → rest ≢ [] →
    IsEventBad s rest why → IsBadRest (header_lines s ++ lines) rest why
bad_event s lines rest Cut known stops few some bad = let n = length-append (header_lines s) lines in
    (omega arith, bad, inr some)
bad_event s lines rest Form known stops few some bad =
    let n = length-append (header_lines s) lines in (
      omega arith,
      (
        bad.0,
        (
          bad.1.0,
          (λ has. bad.1.1 (behind_form (length (header_lines s ++ lines)) bad.0 (omega arith) has)),
        ),
      ),
    )
bad_event s lines rest Faulty known stops few some bad = absurd bad.1.1
bad_event s lines rest Injected known stops few some bad =
    let n = length-append (header_lines s) lines in
    (omega arith, (bad.0, (bad.1.0, (omega arith, bad.1.1.0, stops bad.1.1.1))))
bad_event s lines rest Range known stops few some bad =
    let n = length-append (header_lines s) lines in (
      omega arith,
      (
        bad.0,
        (
          bad.1.0,
          (
            form_behind (length (header_lines s ++ lines)) bad.0 (omega arith) bad.1.1.0,
            (λ last. omega (arith, n, last)),
            (λ injected. bad.1.1.1 (injected.1, stopping_front s lines known injected.2)),
            no_event s lines bad.0 known bad.1.2,
          ),
        ),
      ),
    )
bad_event s lines rest Size known stops few some bad = absurd bad.1.1

pub length_spelled : (es : List Event) → length (map spell_event es) ≡ length es
length_spelled [] = refl
length_spelled (e ∷ es) = ap suc (length_spelled es)

begin_events : (s : Setup) (es : List Event) → IsKnown s → AreInRange s es → length es ≤ most_events →
    Begins (header_lines s ++ map spell_event es)
begin_events s es known range few = record {
  schedule = record { setup = s; events = es };
  fine = record { setup = known; events = range; few = few };
  front = take_all (header_lines s ++ map spell_event es);
}

bad_rest : (s : Setup) (text : List ℕ) (line : ℕ) (why : LineFault) → IsKnown s → (b : IsEventsBad s text line why) →
    IsBadRest (header_lines s ++ map spell_event b.events) b.rest why
unfolding begin_events
bad_rest s text line why known b =
    let count = length_spelled b.events in
    let all = length-append (header_lines s) (map spell_event b.events) in
    elim b.bad [
      | inl full ↦
          let at : length (header_lines s ++ map spell_event b.events) ≡ 11 + most_events = omega (arith, full.1) in
          subst (λ (w : LineFault). IsBadRest (header_lines s ++ map spell_event b.events) b.rest w) (sym full.0)
          (at, b.some)
      | inr next ↦ bad_event s (map spell_event b.events) b.rest why known
          (λ stops. record { begins = begin_events s b.events known b.range b.few; stops = stops })
          (omega (arith, next.0)) b.some next.1
    ]

-- what is refused after the header of a text is refused for the text
pub refused_behind : (s : Setup) (bytes rest : List ℕ) (e : ReadError) → IsKnown s →
    bytes ≡ ended (header_lines s) ++ rest → length bytes ≤ most_bytes → IsEventsRefused s rest e → IsRefused bytes e
refused_behind s bytes rest (BadLine line why) known text short b = inr (
  short,
  record {
    front = header_lines s ++ map spell_event b.events;
    rest = b.rest;
    text = text ∙ ap (λ (t : List ℕ). ended (header_lines s) ++ t) b.front
        ∙ sym (append_assoc (ended (header_lines s)) (ended (map spell_event b.events)) b.rest)
        ∙ ap (λ (t : List ℕ). t ++ b.rest) (sym (ended-append (header_lines s) (map spell_event b.events)));
    number = let count = length_spelled b.events in
        let all = length-append (header_lines s) (map spell_event b.events) in omega (arith, b.number);
    good = begin_events s b.events known b.range b.few;
    bad = bad_rest s rest line why known b;
  },
)
refused_behind s bytes rest NoMemory known text short b = tt
