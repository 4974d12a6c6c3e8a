-- No word contains a space or a line feed.
use Rattle.std.proofs.Common.{◌≡◌, ◌≢◌, ℕ, suc, ◌<◌, ◌≤◌, ◌^◌, ◌/◌, ◌%◌, List, [], ◌∷◌, ◌++◌, length, get_or, eqb, not, Bool, true, None, Some, Option, Ok, Err, decimal, refl, sym, ap, ◌∙◌, arith}
use Rattle.std.specs.Prelude.{Result, IfOk}
use Rattle.std.proofs.lemmas.List.Splits.{join_with_byte-slice_split}
use Rattle.std.specs.List.{list_all}
use Rattle.std.proofs.lemmas.Bool.{and_parts}
use Rattle.std.proofs.lemmas.Fmt.{decimal_is_IsNumeral}
use Rattle.std.proofs.lemmas.Str.Parse.{digit_at}
use Rattle.std.proofs.Math.Pow.{pow_mono}
use Rattle.hex.specs.Hex.{IsBytes, encode_lower, encode_with, hex_digit_value, lower_digits}
use Rattle.hex.proofs.HexLemmas.{IsDigits-lower_digits}
use Rattle.iss_request.specs.Setup.{IsGoodSetup}
use Rattle.iss_request.specs.declared.setups.Setup.{Setup}
use Rattle.iss_schedule.specs.declared.names.Name.{Name}
use Rattle.iss_schedule.specs.declared.names.Name.TheVariants as name
use Rattle.iss_schedule.specs.declared.schedules.Event.{Event}
use Rattle.iss_schedule.specs.declared.schedules.Event.TheVariants.{Request as Event_request, Propose, Timeout as Event_timeout, Ask, Deliver, Lose, Pump, Calm, Hold, Free, Drop as Event_drop, Restart, Crash, Bytes}
use Rattle.iss_schedule.specs.Cores.{cores_of}
use Rattle.iss_schedule.specs.Events.{event_words, spell_event, IsInRange}
use Rattle.iss_schedule.specs.Names.{text_of_name}
use Rattle.iss_schedule.specs.Reads.{Reads}
use Rattle.iss_schedule.specs.Words.{Lacks, words_of, line_of, word_of}
use Rattle.iss_schedule.proofs.Encoding.SplitsAreUnique.{lacks_all, words_at, words_none}
use Rattle.iss_schedule.proofs.CoreCount.{cores_fit}

-- a line has a word, and no word contains the byte
abbrev pub AllLack : ℕ → List (List ℕ) → Type 0
AllLack c [] = ⊥
AllLack c (w ∷ []) = Lacks c w
AllLack c (w ∷ x ∷ xs) = Lacks c w × AllLack c (x ∷ xs)

abbrev pub lacks_test : ℕ → List ℕ → Bool
lacks_test c bs = list_all (λ b. not (eqb b c)) bs

differs : (b c : ℕ) → not (eqb b c) ≡ true → b ≢ c
differs b c t e = grind (arith)

-- for a literal the test decides
pub lacks_by_test : (c : ℕ) (bs : List ℕ) → lacks_test c bs ≡ true → Lacks c bs
lacks_by_test c [] t = tt
lacks_by_test c (b ∷ bs) t = let parts = and_parts (not (eqb b c)) (lacks_test c bs) t in
    (differs b c parts.0, lacks_by_test c bs parts.1)

-- a byte that no word contains
pub record IsBlank (c : ℕ) : Type 0 where
  pub low : c < 45
  pub no_digit : hex_digit_value c ≡ None
  pub names : (n : Name) → Lacks c (text_of_name n)

space_in : (n : Name) → lacks_test 32 (text_of_name n) ≡ true
space_in name.Request = refl
space_in name.Propose = refl
space_in name.Timeout = refl
space_in name.Ask = refl
space_in name.Deliver = refl
space_in name.Lose = refl
space_in name.Pump = refl
space_in name.Calm = refl
space_in name.Hold = refl
space_in name.Free = refl
space_in name.Drop = refl
space_in name.Restart = refl
space_in name.Crash = refl
space_in name.Bytes = refl

feed_in : (n : Name) → lacks_test 10 (text_of_name n) ≡ true
feed_in name.Request = refl
feed_in name.Propose = refl
feed_in name.Timeout = refl
feed_in name.Ask = refl
feed_in name.Deliver = refl
feed_in name.Lose = refl
feed_in name.Pump = refl
feed_in name.Calm = refl
feed_in name.Hold = refl
feed_in name.Free = refl
feed_in name.Drop = refl
feed_in name.Restart = refl
feed_in name.Crash = refl
feed_in name.Bytes = refl

pub space : IsBlank 32
space = record { low = omega arith; no_digit = refl; names = λ n. lacks_by_test 32 (text_of_name n) (space_in n) }

pub feed : IsBlank 10
feed = record { low = omega arith; no_digit = refl; names = λ n. lacks_by_test 10 (text_of_name n) (feed_in n) }

pub lacks_decimal : (c n : ℕ) → c < 48 → n < 2 ^ 64 → Lacks c (decimal n)
lacks_decimal c n low fits =
    lacks_all c (decimal n) (length (decimal n)) (omega arith)
    (λ k at e. omega (arith, digit_at (decimal n) k (decimal_is_IsNumeral n fits).0.1 at))

digit_differs : (c d : ℕ) → hex_digit_value c ≡ None → d < 16 → get_or lower_digits d 0 ≢ c
digit_differs c d none lt e =
    let some = IsDigits-lower_digits d lt in
    let same : hex_digit_value (get_or lower_digits d 0) ≡ None = ap hex_digit_value e ∙ none in
    let both : Some d ≡ None = sym some ∙ same in cc

lacks_digits : (c : ℕ) (bytes : List ℕ) → hex_digit_value c ≡ None → IsBytes bytes → Lacks c (encode_lower bytes)
unfolding encode_with
lacks_digits c [] none fits = tt
lacks_digits c (b ∷ bs) none fits =
    let byte : b < 256 = fits 0 in (
      digit_differs c (b / 16) none (omega arith),
      (digit_differs c (b % 16) none (omega arith), lacks_digits c bs none (λ i. fits (suc i))),
    )

pub lacks_word : (c : ℕ) (bytes : List ℕ) → IsBlank c → IsBytes bytes → Lacks c (word_of bytes)
lacks_word c [] blank fits = ((λ e. omega (arith, blank.low)), tt)
lacks_word c (b ∷ bs) blank fits = lacks_digits c (b ∷ bs) blank.no_digit fits

core_lacks : (c : ℕ) (s : Setup) (core : ℕ) → IsBlank c → IsGoodSetup s → core < cores_of s → Lacks c (decimal core)
core_lacks c s core blank good ok =
    lacks_decimal c core (omega (arith, blank.low)) (omega (arith, cores_fit s good, ok))

-- the words of an event in range contain no such byte
pub event_lacks : (c : ℕ) (s : Setup) (e : Event) → IsBlank c → IsGoodSetup s → IsInRange s e →
    AllLack c (event_words e)
event_lacks c s (Event_request core client number payload) blank good ok = let leaves : 2 ^ s.keys ≤ 2 ^ 20 =
    pow_mono good.keys_height.1 in (
      blank.names name.Request,
      (
        core_lacks c s core blank good ok.0,
        (
          lacks_decimal c client (omega (arith, blank.low)) (omega arith),
          (lacks_decimal c number (omega (arith, blank.low)) (omega arith), lacks_word c payload blank ok.3.0),
        ),
      ),
    )
event_lacks c s (Propose core) blank good ok = (blank.names name.Propose, core_lacks c s core blank good ok)
event_lacks c s (Event_timeout core leader) blank good ok = (
  blank.names name.Timeout,
  (core_lacks c s core blank good ok.0, lacks_decimal c leader.0 (omega (arith, blank.low)) (omega arith)),
)
event_lacks c s (Ask core peer) blank good ok = (
  blank.names name.Ask,
  (
    core_lacks c s core blank good ok.0,
    lacks_decimal c peer.0 (omega (arith, blank.low)) (omega arith),
  ),
)
event_lacks c s (Deliver packet) blank good ok =
    (blank.names name.Deliver, lacks_decimal c packet (omega (arith, blank.low)) ok)
event_lacks c s (Lose packet) blank good ok =
    (blank.names name.Lose, lacks_decimal c packet (omega (arith, blank.low)) ok)
event_lacks c s Pump blank good ok = blank.names name.Pump
event_lacks c s (Calm pumps) blank good ok =
    (blank.names name.Calm, lacks_decimal c pumps (omega (arith, blank.low)) (omega arith))
event_lacks c s (Hold core) blank good ok = (blank.names name.Hold, core_lacks c s core blank good ok)
event_lacks c s (Free core) blank good ok = (blank.names name.Free, core_lacks c s core blank good ok)
event_lacks c s (Event_drop core) blank good ok = (blank.names name.Drop, core_lacks c s core blank good ok)
event_lacks c s (Restart core) blank good ok = (blank.names name.Restart, core_lacks c s core blank good ok)
event_lacks c s (Crash core calls) blank good ok = (
  blank.names name.Crash,
  (
    core_lacks c s core blank good ok.0,
    lacks_decimal c calls (omega (arith, blank.low)) (omega arith),
  ),
)
event_lacks c s (Bytes core bytes) blank good ok =
    (blank.names name.Bytes, (core_lacks c s core blank good ok.1, lacks_word c bytes blank ok.2))

-- each event's line begins with a name
pub name_first : (e : Event) → (n : Name) × ((ws : List (List ℕ)) × (event_words e ≡ text_of_name n ∷ ws))
name_first (Event_request core client number payload) = (name.Request, (_, refl))
name_first (Propose core) = (name.Propose, (_, refl))
name_first (Event_timeout core leader) = (name.Timeout, (_, refl))
name_first (Ask core peer) = (name.Ask, (_, refl))
name_first (Deliver packet) = (name.Deliver, (_, refl))
name_first (Lose packet) = (name.Lose, (_, refl))
name_first Pump = (name.Pump, (_, refl))
name_first (Calm pumps) = (name.Calm, (_, refl))
name_first (Hold core) = (name.Hold, (_, refl))
name_first (Free core) = (name.Free, (_, refl))
name_first (Event_drop core) = (name.Drop, (_, refl))
name_first (Restart core) = (name.Restart, (_, refl))
name_first (Crash core calls) = (name.Crash, (_, refl))
name_first (Bytes core bytes) = (name.Bytes, (_, refl))

-- splitting a line gives its words
pub words_of-line_of : (ws : List (List ℕ)) → AllLack 32 ws → words_of (line_of ws) ≡ ws
words_of-line_of [] h = absurd h
words_of-line_of (w ∷ []) h = words_none w h
words_of-line_of (w ∷ x ∷ xs) h = words_at w (line_of (x ∷ xs)) h.0
    ∙ ap (λ (l : List (List ℕ)). w ∷ l) (words_of-line_of (x ∷ xs) h.1)

pub lacks_append : (c : ℕ) (xs ys : List ℕ) → Lacks c xs → Lacks c ys → Lacks c (xs ++ ys)
lacks_append c [] ys h k = k
lacks_append c (x ∷ xs) ys h k = (h.0, lacks_append c xs ys h.1 k)

-- no line contains a line feed
pub lacks_line : (ws : List (List ℕ)) → AllLack 10 ws → Lacks 10 (line_of ws)
lacks_line [] h = tt
lacks_line (w ∷ []) h = h
lacks_line (w ∷ x ∷ xs) h = lacks_append 10 w _ h.0 ((λ e. omega arith), lacks_line (x ∷ xs) h.1)

-- a line that encodes an event has that event's words
pub event_spelled : (s : Setup) (line : List ℕ) (e : Event) → IsGoodSetup s → IsInRange s e → line ≡ spell_event e →
    words_of line ≡ event_words e
event_spelled s line e good ok is = ap words_of is ∙ words_of-line_of (event_words e) (event_lacks 32 s e space good ok)

-- what was read from the words after a name was read from the line
pub line_reads : {E : Type 0} (s : Setup) (line word : List ℕ) (n : Name) (rest : List (List ℕ))
    (r : Result (Option Event) E) → IsGoodSetup s → words_of line ≡ word ∷ rest → word ≡ text_of_name n →
    IfOk r (Reads event_words (IsInRange s) (text_of_name n ∷ rest)) → IfOk r (Reads spell_event (IsInRange s) line)
line_reads s line word n rest (Ok (Some e)) good cut named h =
    (sym (join_with_byte-slice_split 32 line) ∙ ap line_of (cut ∙ ap (λ (w : List ℕ). w ∷ rest) named ∙ h.0), h.1)
line_reads s line word n rest (Ok None) good cut named h =
    λ e ok is. h e ok (sym (cut ∙ ap (λ (w : List ℕ). w ∷ rest) named) ∙ event_spelled s line e good ok is)
line_reads s line word n rest (Err x) good cut named h = tt

pub no_name : (s : Setup) (line word : List ℕ) (rest : List (List ℕ)) → IsGoodSetup s → words_of line ≡ word ∷ rest →
    ((n : Name) → word ≢ text_of_name n) → (e : Event) → IsInRange s e → line ≢ spell_event e
no_name s line word rest good cut none e ok is =
    let first = name_first e in
    let both : word ∷ rest ≡ text_of_name first.0 ∷ first.1.0 = sym cut ∙ event_spelled s line e good ok is
    ∙ first.1.1 in
    let same : word ≡ text_of_name first.0 = cc in
    none first.0 same
