-- A text is the text of at most one schedule.
use Rattle.std.proofs.Common.{◌≡◌, ℕ, ◌+◌, ◌*◌, ◌^◌, ◌<◌, ◌≤◌, List, [], ◌∷◌, ◌++◌, length, take, drop, map, get_or, false, cond, eqb, Result, decimal, refl, sym, ap, subst, ◌∙◌, arith, append_assoc}
use Rattle.std.proofs.Math.Pow.{pow_mono}
use Rattle.std.specs.Result.{result_unwrap_or}
use Rattle.std.specs.Str.Parse.{digits_value}
use Rattle.std.proofs.lemmas.Fmt.{decimal_is_IsNumeral}
use Rattle.hex.specs.Hex.{IsBytes, decode_of, encode_with, lower_digits}
use Rattle.hex.specs.declared.error.FromHexError.{FromHexError}
use Rattle.hex.proofs.HexLemmas.{decode_of-encode_lower, length-encode_with}
use Rattle.iss_request.specs.Setup.{IsGoodSetup}
use Rattle.iss_request.specs.declared.ids.NodeId.{NodeId}
use Rattle.iss_request.specs.declared.setups.Setup.{Setup}
use Rattle.iss_schedule.specs.declared.schedules.Event.{Event}
use Rattle.iss_schedule.specs.declared.schedules.Event.TheVariants.{Request as Event_request, Propose, Timeout as Event_timeout, Ask, Deliver, Lose, Pump, Calm, Hold, Free, Drop as Event_drop, Restart, Crash, Bytes}
use Rattle.iss_schedule.specs.declared.schedules.Schedule.{Schedule}
use Rattle.iss_schedule.specs.Cores.{cores_of}
use Rattle.iss_schedule.specs.Events.{event_words, spell_event, IsInRange, AreInRange}
use Rattle.iss_schedule.specs.Schedules.{header_lines, schedule_lines, IsFine, IsSchedule}
use Rattle.iss_schedule.specs.Words.{word_of, ended}
use Rattle.iss_schedule.proofs.Encoding.NoSeparatorInWords.{event_spelled}
use Rattle.iss_schedule.proofs.BadLines.LinesHaveTheirForm.{whole_lines, Meets, Same, Left, Right, meets}
use Rattle.iss_schedule.proofs.BadLines.OneFirstBadLine.{nonempty, nothing}
use Rattle.iss_schedule.proofs.HeaderTable.ValuesDetermineSetup.{same_setup}
use Rattle.iss_schedule.proofs.CoreCount.{cores_fit}

-- ---- events from their words

back_number : List ℕ → ℕ
back_number w = digits_value 10 w

number_back : (n : ℕ) → n < 2 ^ 64 → back_number (decimal n) ≡ n
unfolding back_number
number_back n fits = (decimal_is_IsNumeral n fits).1

back_bytes : List ℕ → List ℕ
back_bytes w = cond (eqb (length w) 1) [] (result_unwrap_or (decode_of w) [])

bytes_back : (bytes : List ℕ) → IsBytes bytes → back_bytes (word_of bytes) ≡ bytes
unfolding back_bytes
bytes_back [] fits = refl
bytes_back (b ∷ bs) fits =
    let long = length-encode_with lower_digits (b ∷ bs) in
    let two : eqb (length (encode_with lower_digits (b ∷ bs))) 1 ≡ false = grind (arith, long) in
    rw two (ap (λ (r : Result (List ℕ) FromHexError). result_unwrap_or r []) (decode_of-encode_lower (b ∷ bs) fits))

-- the event with this name (by its length and first letter) and these words as arguments
abbrev one : (ℕ → Event) → List (List ℕ) → Event
one f (a ∷ []) = f (back_number a)
one f _ = Pump

-- `request` and `restart` have the same length and first letter
abbrev one_or_four : List (List ℕ) → Event
one_or_four (a ∷ []) = Restart (back_number a)
one_or_four (a ∷ b ∷ c ∷ d ∷ []) = Event_request (back_number a) (back_number b) (back_number c) (back_bytes d)
one_or_four _ = Pump

abbrev two : List (List ℕ) → Event
two (a ∷ b ∷ []) = Crash (back_number a) (back_number b)
two _ = Pump

abbrev core_node : (ℕ → NodeId → Event) → List (List ℕ) → Event
core_node f (a ∷ b ∷ []) = f (back_number a) (record { 0 = back_number b })
core_node f _ = Pump

abbrev number_bytes : List (List ℕ) → Event
number_bytes (a ∷ b ∷ []) = Bytes (back_number a) (back_bytes b)
number_bytes _ = Pump

abbrev back_event : List (List ℕ) → Event
back_event [] = Pump
back_event (w ∷ ws) =
    let key = length w * 1000 + get_or w 0 0 in
    cond (eqb key 7114) (one_or_four ws)
    (cond (eqb key 7112) (one Propose ws)
    (cond (eqb key 7116) (core_node Event_timeout ws)
    (cond (eqb key 3097) (core_node Ask ws) (cond (eqb key 7100) (one Deliver ws) (cond (eqb key 4108) (one Lose ws)
    (cond (eqb key 4099) (one Calm ws)
    (cond (eqb key 4104) (one Hold ws) (cond (eqb key 4102) (one Free ws) (cond (eqb key 4100) (one Event_drop ws)
    (cond (eqb key 5099) (two ws) (cond (eqb key 5098) (number_bytes ws) Pump)))))))))))

core_back : (s : Setup) (core : ℕ) → IsGoodSetup s → core < cores_of s → back_number (decimal core) ≡ core
core_back s core good ok = number_back core (omega (arith, cores_fit s good, ok))

core_node_back : (s : Setup) (f : ℕ → NodeId → Event) (core : ℕ) (node : NodeId) → IsGoodSetup s → core < cores_of s →
    node.0 < s.n → core_node f (decimal core ∷ decimal node.0 ∷ []) ≡ f core node
core_node_back s f core node good ok low =
    ap (λ n. f n (record { 0 = back_number (decimal node.0) })) (core_back s core good ok)
    ∙ ap (λ n. f core (record { 0 = n })) (number_back node.0 (omega arith))

event_back : (s : Setup) (e : Event) → IsGoodSetup s → IsInRange s e → back_event (event_words e) ≡ e
event_back s (Event_request core client number payload) good ok =
    let leaves : 2 ^ s.keys ≤ 2 ^ 20 = pow_mono good.keys_height.1 in
    let a = core_back s core good ok.0 in let b = number_back client (omega arith) in
    let c = number_back number (omega arith) in let d = bytes_back payload ok.3.0 in cc
event_back s (Propose core) good ok = ap Propose (core_back s core good ok)
event_back s (Event_timeout core leader) good ok = core_node_back s Event_timeout core leader good ok.0 ok.1
event_back s (Ask core peer) good ok = core_node_back s Ask core peer good ok.0 ok.1
event_back s (Deliver packet) good ok = ap Deliver (number_back packet ok)
event_back s (Lose packet) good ok = ap Lose (number_back packet ok)
event_back s Pump good ok = refl
event_back s (Calm pumps) good ok = ap Calm (number_back pumps (omega arith))
event_back s (Hold core) good ok = ap Hold (core_back s core good ok)
event_back s (Free core) good ok = ap Free (core_back s core good ok)
event_back s (Event_drop core) good ok = ap Event_drop (core_back s core good ok)
event_back s (Restart core) good ok = ap Restart (core_back s core good ok)
event_back s (Crash core calls) good ok = ap (λ n. Crash n (back_number (decimal calls))) (core_back s core good ok.0)
    ∙ ap (λ n. Crash core n) (number_back calls (omega arith))
event_back s (Bytes core bytes) good ok =
    ap (λ n. Bytes n (back_bytes (word_of bytes))) (core_back s core good ok.1)
    ∙ ap (λ (x : List ℕ). Bytes core x) (bytes_back bytes ok.2)

spell_same : (s : Setup) (e f : Event) → IsGoodSetup s → IsInRange s e → IsInRange s f →
    spell_event e ≡ spell_event f → e ≡ f
spell_same s e f good ok ok' is =
    let words : event_words e ≡ event_words f = sym (event_spelled s (spell_event e) e good ok refl)
    ∙ event_spelled s (spell_event e) f good ok' is in
    sym (event_back s e good ok) ∙ ap (λ (ws : List (List ℕ)). back_event ws) words ∙ event_back s f good ok'

events_same : (s : Setup) (es fs : List Event) → IsGoodSetup s → AreInRange s es → AreInRange s fs →
    map spell_event es ≡ map spell_event fs → es ≡ fs
events_same s [] [] good r q e = refl
events_same s [] (f ∷ fs) good r q e = let two : [] ≡ spell_event f ∷ map spell_event fs = e in cc
events_same s (x ∷ xs) [] good r q e = let two : spell_event x ∷ map spell_event xs ≡ [] = e in cc
events_same s (x ∷ xs) (f ∷ fs) good r q e =
    let both : spell_event x ∷ map spell_event xs ≡ spell_event f ∷ map spell_event fs = e in
    let heads : spell_event x ≡ spell_event f = cc in
    let tails : map spell_event xs ≡ map spell_event fs = cc in
    ap (λ (t : List Event). x ∷ t) (events_same s xs fs good r.1 q.1 tails)
    ∙ ap (λ (y : Event). y ∷ fs) (spell_same s x f good r.0 q.0 heads)

-- ---- schedules

pub same_lines : (xs ys : List (List ℕ)) → Meets xs ys [] [] → xs ≡ ys
same_lines xs ys (Same e f) = e
same_lines xs ys (Left m ms e f) = absurd (nonempty m (ended ms ++ []) (sym (f ∙ append_assoc m (10 ∷ ended ms) [])))
same_lines xs ys (Right m ms e f) = absurd (nonempty m (ended ms ++ []) (sym (f ∙ append_assoc m (10 ∷ ended ms) [])))

schedules_same : (s t : Schedule) → IsFine s → IsFine t → schedule_lines s ≡ schedule_lines t → s ≡ t
schedules_same s t x y e =
    let header : header_lines s.setup ≡ header_lines t.setup = ap (λ (ls : List (List ℕ)). take 11 ls) e in
    let events : map spell_event s.events ≡ map spell_event t.events = ap (λ (ls : List (List ℕ)). drop 11 ls) e in
    let setup = same_setup s.setup t.setup x.setup y.setup header in
    let range : AreInRange s.setup t.events = subst (λ (u : Setup). AreInRange u t.events) (sym setup) y.events in
    both s.setup t.setup s.events t.events setup
    (events_same s.setup s.events t.events x.setup.good x.events range events)
  where
    both : (u v : Setup) (es fs : List Event) → u ≡ v → es ≡ fs →
        record { setup = u; events = es } ≡ (let t : Schedule = record { setup = v; events = fs } in t)
    both u v es fs a b = ap (λ (z : Setup). (let r : Schedule = record { setup = z; events = es } in r)) a
        ∙ ap (λ (z : List Event). (let r : Schedule = record { setup = v; events = z } in r)) b

pub one_schedule : (b : List ℕ) (s t : Schedule) → IsSchedule b s → IsSchedule b t → s ≡ t
one_schedule b s t h k =
    schedules_same s t h.fine k.fine
    (same_lines (schedule_lines s) (schedule_lines t)
    (meets (schedule_lines s) (schedule_lines t) [] [] (whole_lines s h.fine) (whole_lines t k.fine)
    (nothing (ended (schedule_lines s)) ∙ sym h.text ∙ k.text ∙ sym (nothing (ended (schedule_lines t))))))
