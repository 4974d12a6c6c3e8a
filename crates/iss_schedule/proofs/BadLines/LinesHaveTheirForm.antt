-- The lines of a schedule in range: none contains a line feed, and each has the form of its place.
use Rattle.std.proofs.Common.{◌≡◌, ◌≢◌, ℕ, zero, suc, ◌^◌, ◌<◌, ◌≤◌, List, [], ◌∷◌, ◌++◌, length, take, map, get_or, Option, Some, decimal, refl, sym, ap, subst, ◌∙◌, arith, append_assoc, length-append, inl, inr}
use Rattle.std.proofs.Math.Pow.{pow_mono}
use Rattle.std.proofs.lemmas.Bool.Decides.{leb_tells}
use Rattle.iss_base.specs.Lists.{nth}
use Rattle.iss_base.proofs.Lists.{some-injective}
use Rattle.iss_request.specs.Setup.{IsGoodSetup}
use Rattle.iss_request.specs.declared.setups.Setup.{Setup}
use Rattle.iss_request.specs.declared.setups.Kind.TheVariants.{Byzantine}
use Rattle.iss_schedule.specs.declared.names.Name.TheVariants as name
use Rattle.iss_schedule.specs.declared.schedules.Event.{Event}
use Rattle.iss_schedule.specs.declared.schedules.Event.TheVariants.{Request as Event_request, Propose, Timeout as Event_timeout, Ask, Deliver, Lose, Pump, Calm, Hold, Free, Drop as Event_drop, Restart, Crash, Bytes}
use Rattle.iss_schedule.specs.declared.schedules.Schedule.{Schedule}
use Rattle.iss_schedule.specs.Cores.{cores_of}
use Rattle.iss_schedule.specs.Events.{event_words, spell_event, IsInRange, AreInRange}
use Rattle.iss_schedule.specs.Forms.{HasForm, IsEventLine, IsFaultyFormed, IsFormed, IsInjection, LineForm}
use Rattle.iss_schedule.specs.Headers.{HeaderField, AreValues, faulty_line, header_fields, lines_of, values_of}
use Rattle.iss_schedule.specs.Names.{text_of_name}
use Rattle.iss_schedule.specs.Schedules.{header_lines, schedule_lines, IsFine, IsKnown}
use Rattle.iss_schedule.specs.Words.{IsNumber, Lacks, ended}
use Rattle.iss_schedule.proofs.Encoding.NoSeparatorInWords.{feed, lacks_line, event_lacks, event_spelled}
use Rattle.iss_schedule.proofs.Encoding.SplitsAreUnique.{cut_same}
use Rattle.iss_schedule.proofs.HeaderTable.LineDeterminesFaultyNodes.{faulty_formed, faulty_whole}
use Rattle.iss_schedule.proofs.HeaderTable.FieldsDetermineValues.{AreSound, IsAt, value_at, value_formed, value_whole}
use Rattle.iss_schedule.proofs.BadLines.PrefixesAreRead.{form_at}
use Rattle.iss_schedule.proofs.Encoding.DecimalIsInjective.{decimal_is_number}
use Rattle.iss_schedule.proofs.BadLines.RefusedLines.{event_behind, form_behind}
use Rattle.iss_schedule.proofs.HeaderTable.ValuesDetermineSetup.{fields_sound, same_setup, small_faulty, values_in_range}
use Rattle.iss_schedule.proofs.CoreCount.{cores_fit}

-- ---- no line feed

abbrev pub AreWhole : List (List ℕ) → Type 0
AreWhole [] = Unit {0}
AreWhole (line ∷ lines) = Lacks 10 line × AreWhole lines

pub whole_append : (xs ys : List (List ℕ)) → AreWhole xs → AreWhole ys → AreWhole (xs ++ ys)
whole_append [] ys h k = k
whole_append (x ∷ xs) ys h k = (h.0, whole_append xs ys h.1 k)

pub whole_take : (n : ℕ) (xs : List (List ℕ)) → AreWhole xs → AreWhole (take n xs)
whole_take zero xs h = tt
whole_take (suc n) [] h = tt
whole_take (suc n) (x ∷ xs) h = (h.0, whole_take n xs h.1)

whole_values : (fs : List HeaderField) → AreSound fs → (above vs : List ℕ) → AreValues fs above vs →
    AreWhole (lines_of fs vs)
whole_values [] sound above vs ok = tt
whole_values (f ∷ fs) sound above [] ok = absurd ok
whole_values (f ∷ fs) sound above (v ∷ vs) ok =
    (value_whole f sound.0 above v ok.0, whole_values fs sound.1 (above ++ v ∷ []) vs ok.1)

pub whole_header : (s : Setup) → IsKnown s → AreWhole (header_lines s)
whole_header s known =
    whole_append (lines_of header_fields (values_of s)) (faulty_line s.faulty ∷ [])
    (whole_values header_fields fields_sound [] (values_of s) (values_in_range s known))
    (faulty_whole s.faulty (small_faulty s known.good), tt)

whole_events : (s : Setup) (es : List Event) → IsGoodSetup s → AreInRange s es → AreWhole (map spell_event es)
whole_events s [] good range = tt
whole_events s (e ∷ es) good range =
    (lacks_line (event_words e) (event_lacks 10 s e feed good range.0), whole_events s es good range.1)

pub whole_lines : (s : Schedule) → IsFine s → AreWhole (schedule_lines s)
whole_lines s fine = whole_append (header_lines s.setup) (map spell_event s.events) (whole_header s.setup fine.setup)
    (whole_events s.setup s.events fine.setup.good fine.events)

-- ---- texts with a common prefix

empty_front : (f : List ℕ) (fs : List (List ℕ)) (rest : List ℕ) → ended (f ∷ fs) ++ rest ≢ []
empty_front f fs rest e =
    omega (arith, ap length e, length-append (f ++ 10 ∷ ended fs) rest, length-append f (10 ∷ ended fs))

-- what two texts that are equal say of their lines: the lines of one continue those of the other
pub data Meets (xs ys : List (List ℕ)) (r t : List ℕ) : Type 0 where
  Same : xs ≡ ys → r ≡ t → Meets xs ys r t
  Left : (m : List ℕ) (ms : List (List ℕ)) → ys ≡ xs ++ m ∷ ms → r ≡ ended (m ∷ ms) ++ t → Meets xs ys r t
  Right : (m : List ℕ) (ms : List (List ℕ)) → xs ≡ ys ++ m ∷ ms → t ≡ ended (m ∷ ms) ++ r → Meets xs ys r t

meets_more : (x y : List ℕ) (xs ys : List (List ℕ)) (r t : List ℕ) → x ≡ y → Meets xs ys r t →
    Meets (x ∷ xs) (y ∷ ys) r t
meets_more x y xs ys r t e (Same a b) = Same (cc (e, a)) b
meets_more x y xs ys r t e (Left m ms a b) =
    Left m ms (ap (λ (l : List (List ℕ)). y ∷ l) a ∙ ap (λ (w : List ℕ). w ∷ xs ++ m ∷ ms) (sym e)) b
meets_more x y xs ys r t e (Right m ms a b) =
    Right m ms (ap (λ (l : List (List ℕ)). x ∷ l) a ∙ ap (λ (w : List ℕ). w ∷ ys ++ m ∷ ms) e) b

pub meets : (xs ys : List (List ℕ)) (r t : List ℕ) → AreWhole xs → AreWhole ys → ended xs ++ r ≡ ended ys ++ t →
    Meets xs ys r t
meets [] [] r t h k e = Same refl e
meets [] (y ∷ ys) r t h k e = Left y ys refl e
meets (x ∷ xs) [] r t h k e = Right x xs refl (sym e)
meets (x ∷ xs) (y ∷ ys) r t h k e =
    let cut = cut_same 10 x y (ended xs ++ r) (ended ys ++ t) h.0 k.0 (sym (append_assoc x (10 ∷ ended xs) r) ∙ e
    ∙ append_assoc y (10 ∷ ended ys) t) in
    meets_more x y xs ys r t cut.0 (meets xs ys r t h.1 k.1 cut.1)

-- ---- forms

core_number : (s : Setup) (core : ℕ) → IsGoodSetup s → core < cores_of s → IsNumber (decimal core)
core_number s core good ok = decimal_is_number core (omega (arith, cores_fit s good, ok))

-- an event in range is encoded with the arguments that its name needs
pub event_line : (s : Setup) (line : List ℕ) (e : Event) → IsGoodSetup s → IsInRange s e → line ≡ spell_event e →
    IsEventLine line
event_line s line (Event_request core client number payload) good ok is =
    let leaves : 2 ^ s.keys ≤ 2 ^ 20 = pow_mono good.keys_height.1 in
    record {
      name = name.Request;
      arguments = _;
      words = event_spelled s line (Event_request core client number payload) good ok is;
      spelled = (
        core_number s core good ok.0,
        (
          decimal_is_number client (omega arith),
          (decimal_is_number number (omega arith), (payload, (ok.3.0, refl))),
        ),
      );
    }
event_line s line (Propose core) good ok is =
    record {
      name = name.Propose;
      arguments = _;
      words = event_spelled s line (Propose core) good ok is;
      spelled = (core_number s core good ok, refl);
    }
event_line s line (Event_timeout core leader) good ok is = record {
  name = name.Timeout;
  arguments = _;
  words = event_spelled s line (Event_timeout core leader) good ok is;
  spelled = (core_number s core good ok.0, (decimal_is_number leader.0 (omega arith), refl));
}
event_line s line (Ask core peer) good ok is = record {
  name = name.Ask;
  arguments = _;
  words = event_spelled s line (Ask core peer) good ok is;
  spelled = (core_number s core good ok.0, (decimal_is_number peer.0 (omega arith), refl));
}
event_line s line (Deliver packet) good ok is =
    record {
      name = name.Deliver;
      arguments = _;
      words = event_spelled s line (Deliver packet) good ok is;
      spelled = (decimal_is_number packet ok, refl);
    }
event_line s line (Lose packet) good ok is =
    record {
      name = name.Lose;
      arguments = _;
      words = event_spelled s line (Lose packet) good ok is;
      spelled = (decimal_is_number packet ok, refl);
    }
event_line s line Pump good ok is =
    record { name = name.Pump; arguments = _; words = event_spelled s line Pump good ok is; spelled = refl }
event_line s line (Calm pumps) good ok is =
    record {
      name = name.Calm;
      arguments = _;
      words = event_spelled s line (Calm pumps) good ok is;
      spelled = (decimal_is_number pumps (omega arith), refl);
    }
event_line s line (Hold core) good ok is =
    record {
      name = name.Hold;
      arguments = _;
      words = event_spelled s line (Hold core) good ok is;
      spelled = (core_number s core good ok, refl);
    }
event_line s line (Free core) good ok is =
    record {
      name = name.Free;
      arguments = _;
      words = event_spelled s line (Free core) good ok is;
      spelled = (core_number s core good ok, refl);
    }
event_line s line (Event_drop core) good ok is =
    record {
      name = name.Drop;
      arguments = _;
      words = event_spelled s line (Event_drop core) good ok is;
      spelled = (core_number s core good ok, refl);
    }
event_line s line (Restart core) good ok is =
    record {
      name = name.Restart;
      arguments = _;
      words = event_spelled s line (Restart core) good ok is;
      spelled = (core_number s core good ok, refl);
    }
event_line s line (Crash core calls) good ok is = record {
  name = name.Crash;
  arguments = _;
  words = event_spelled s line (Crash core calls) good ok is;
  spelled = (core_number s core good ok.0, (decimal_is_number calls (omega arith), refl));
}
event_line s line (Bytes core bytes) good ok is = record {
  name = name.Bytes;
  arguments = _;
  words = event_spelled s line (Bytes core bytes) good ok is;
  spelled = (core_number s core good ok.1, (bytes, (ok.2, refl)));
}

nth_left : (xs ys : List (List ℕ)) (k : ℕ) → k < length xs → nth (xs ++ ys) k ≡ nth xs k
nth_left [] ys k lt = absurd (omega (arith, lt))
nth_left (x ∷ xs) ys zero lt = refl
nth_left (x ∷ xs) ys (suc k) lt = nth_left xs ys k (omega (arith, lt))

-- a line of the header encodes a value of its field
header_at : (s : Schedule) (p : ℕ) (line : List ℕ) → IsFine s → p < 10 → nth (schedule_lines s) p ≡ Some line →
    IsAt header_fields p line
header_at s p line fine lt e =
    value_at header_fields fields_sound [] (values_of s.setup) (values_in_range s.setup fine.setup) p line
    (sym (nth_left (lines_of header_fields (values_of s.setup))
    (faulty_line s.setup.faulty ∷ map spell_event s.events) p lt) ∙ e)

-- the last line of the header names its faulty nodes
last_at : (s : Schedule) (p : ℕ) (line : List ℕ) → IsFine s → p ≡ 10 → nth (schedule_lines s) p ≡ Some line →
    HasForm p line
last_at s p line fine is e =
    let ten : Some (faulty_line s.setup.faulty) ≡ Some line = subst (λ k. nth (schedule_lines s) k ≡ Some line) is e in
    let same : faulty_line s.setup.faulty ≡ line = some-injective (faulty_line s.setup.faulty) line ten in
    let here : IsFaultyFormed line =
    subst IsFaultyFormed same (faulty_formed s.setup.faulty (small_faulty s.setup fine.setup.good)) in
    subst (λ k. HasForm k line) (sym is) here

-- each line of a schedule in range has the form of its place
pub formed : (s : Schedule) (p : ℕ) (line : List ℕ) → IsFine s → nth (schedule_lines s) p ≡ Some line → HasForm p line
formed s p line fine e = elim (leb_tells 11 p) [
  | inl le ↦ let here = event_behind s p line fine le.1 e in
      form_behind p line le.1 (event_line s.setup line here.0 fine.setup.good here.1.0 here.1.1)
  | inr lt ↦ elim (leb_tells 10 p) [
    | inl ten ↦ last_at s p line fine (omega (arith, lt.1, ten.1)) e
    | inr below ↦
        let here = header_at s p line fine below.1 e in
        subst (λ (o : Option LineForm). IsFormed o line) (sym (form_at header_fields p here.field here.place))
        (value_formed here.field here.sound here.above line here.good)
  ]
]

-- the first letter of a line
abbrev letter : List (List ℕ) → ℕ
letter [] = 0
letter (w ∷ ws) = get_or w 0 0

other : (m : ℕ) (words args : List (List ℕ)) → letter words ≡ m → (m ≡ 98 → ⊥) →
    words ≡ text_of_name name.Bytes ∷ args → ⊥
other m words args is differs e = differs (sym is ∙ ap (λ (ws : List (List ℕ)). letter ws) e)

injected_event : (s : Setup) (e : Event) (args : List (List ℕ)) → IsInRange s e →
    event_words e ≡ text_of_name name.Bytes ∷ args → s.kind ≡ Byzantine
injected_event s (Event_request core client number payload) args ok is =
    absurd (other 114 (event_words (Event_request core client number payload)) args refl (λ e. omega arith) is)
injected_event s (Propose core) args ok is =
    absurd (other 112 (event_words (Propose core)) args refl (λ e. omega arith) is)
injected_event s (Event_timeout core leader) args ok is =
    absurd (other 116 (event_words (Event_timeout core leader)) args refl (λ e. omega arith) is)
injected_event s (Ask core peer) args ok is =
    absurd (other 97 (event_words (Ask core peer)) args refl (λ e. omega arith) is)
injected_event s (Deliver packet) args ok is =
    absurd (other 100 (event_words (Deliver packet)) args refl (λ e. omega arith) is)
injected_event s (Lose packet) args ok is =
    absurd (other 108 (event_words (Lose packet)) args refl (λ e. omega arith) is)
injected_event s Pump args ok is = absurd (other 112 (event_words Pump) args refl (λ e. omega arith) is)
injected_event s (Calm pumps) args ok is = absurd (other 99 (event_words (Calm pumps)) args refl (λ e. omega arith) is)
injected_event s (Hold core) args ok is = absurd (other 104 (event_words (Hold core)) args refl (λ e. omega arith) is)
injected_event s (Free core) args ok is = absurd (other 102 (event_words (Free core)) args refl (λ e. omega arith) is)
injected_event s (Event_drop core) args ok is = absurd (other 100 (event_words (Event_drop core)) args refl (λ e. omega arith) is)
injected_event s (Restart core) args ok is =
    absurd (other 114 (event_words (Restart core)) args refl (λ e. omega arith) is)
injected_event s (Crash core calls) args ok is =
    absurd (other 99 (event_words (Crash core calls)) args refl (λ e. omega arith) is)
injected_event s (Bytes core bytes) args ok is = ok.0

-- a schedule that injects bytes has a module for Byzantine faults
pub injection_of : (s : Schedule) (p : ℕ) (line : List ℕ) → IsFine s → 11 ≤ p → nth (schedule_lines s) p ≡ Some line →
    IsInjection line → s.setup.kind ≡ Byzantine
injection_of s p line fine le e h =
    let here = event_behind s p line fine le e in
    injected_event s.setup here.0 h.arguments here.1.0
    (sym (event_spelled s.setup line here.0 fine.setup.good here.1.0 here.1.1) ∙ h.words)

take_take : (n k : ℕ) (xs : List (List ℕ)) → n ≤ k → take n (take k xs) ≡ take n xs
take_take zero k xs le = refl
take_take (suc n) zero xs le = absurd (omega (arith, le))
take_take (suc n) (suc k) [] le = refl
take_take (suc n) (suc k) (x ∷ xs) le = ap (λ (t : List (List ℕ)). x ∷ t) (take_take n k xs (omega (arith, le)))

-- schedules that begin with the same header have the same set-up
pub same_front : (s t : Schedule) (front : List (List ℕ)) → IsFine s → IsFine t → 11 ≤ length front →
    front ≡ take (length front) (schedule_lines s) → front ≡ take (length front) (schedule_lines t) → s.setup ≡ t.setup
same_front s t front x y le e f =
    same_setup s.setup t.setup x.setup y.setup
    (sym (take_take 11 (length front) (schedule_lines s) le) ∙ ap (λ (ls : List (List ℕ)). take 11 ls) (sym e ∙ f)
    ∙ take_take 11 (length front) (schedule_lines t) le)
