-- The length of a trace's text, event by event.
use Rattle.std.proofs.Common.{◌≡◌, ◌≢◌, ◌∙◌, ℕ, ◌+◌, ◌*◌, List, [], ◌∷◌, ◌++◌, length, map, refl, sym, ap, arith, append_assoc, length-append, ◌<◌, ◌≤◌, ◌&&◌, Bool, true}
use Rattle.std.specs.Prelude.{nat_le}
use Rattle.std.proofs.lemmas.Bool.{le-leb, leb-true}
use Rattle.iss_base.proofs.Lists.{and-true}
use Rattle.hex.proofs.HexLemmas.{length-encode_with}
use Rattle.hex.specs.Hex.{lower_digits}
use Rattle.iss_loops.specs.Traces.{is_within_limits, most_trace_bytes, most_trace_events, text_length}
use Rattle.iss_request.specs.declared.setups.Setup.{Setup}
use Rattle.iss_schedule.proofs.BadLines.PrefixesAreRead.{ended-append, map_push}
use Rattle.iss_schedule.specs.Events.{spell_event}
use Rattle.iss_schedule.specs.Schedules.{header_lines}
use Rattle.iss_schedule.specs.Words.{ended, word_of}
use Rattle.iss_schedule.specs.declared.schedules.Event.{Event}

pub word-length : (bytes : List ℕ) → length bytes ≢ 0 → length (word_of bytes) ≡ 2 * length bytes
word-length [] some = absurd (some refl)
word-length (b ∷ bs) some = length-encode_with lower_digits (b ∷ bs)

pub text-more : (s : Setup) (events : List Event) (e : Event) → text_length s (events ++ e ∷ []) ≡ text_length s events + (length (spell_event e) + 1)
text-more s events e =
    let front : List (List ℕ) = header_lines s ++ map spell_event events in
    let all = ap (λ (ls : List (List ℕ)). header_lines s ++ ls) (map_push events e) ∙ sym (append_assoc (header_lines s) (map spell_event events) (spell_event e ∷ [])) in
    ap (λ (ls : List (List ℕ)). length (ended ls)) all
    ∙ ap (λ (xs : List ℕ). length xs) (ended-append front (spell_event e ∷ []))
    ∙ length-append (ended front) (ended (spell_event e ∷ []))
    ∙ ap (λ (k : ℕ). length (ended front) + k) (length-append (spell_event e) (10 ∷ []))

-- a trace with room for one more event
pub limits : (s : Setup) (events : List Event) (e : Event) (bytes line : ℕ) → bytes ≡ text_length s events → line ≡ length (spell_event e) → length events < most_trace_events
    → nat_le (bytes + line + 1) most_trace_bytes ≡ is_within_limits s (events ++ e ∷ [])
limits s events e bytes line is_bytes is_line few =
    let count = length-append events (e ∷ []) in
    let room : nat_le (length (events ++ e ∷ [])) most_trace_events ≡ true = le-leb (length (events ++ e ∷ [])) most_trace_events (omega (arith, count, few)) in
    let size : bytes + line + 1 ≡ text_length s (events ++ e ∷ []) = let more = text-more s events e in omega (arith, more, is_bytes, is_line) in
    sym (ap (λ (b : Bool). b && nat_le (text_length s (events ++ e ∷ [])) most_trace_bytes) room ∙ ap (λ (k : ℕ). nat_le k most_trace_bytes) (sym size))

-- the length with an event that has room
pub with-line : (s : Setup) (events : List Event) (e : Event) (bytes line : ℕ) → bytes ≡ text_length s events → line ≡ length (spell_event e)
    → bytes + (line + 1) ≡ text_length s (events ++ e ∷ [])
with-line s events e bytes line is_bytes is_line = let more = text-more s events e in omega (arith, more, is_bytes, is_line)

pub with-room : (s : Setup) (events : List Event) (e : Event) (bytes line : ℕ) → bytes ≡ text_length s events → line ≡ length (spell_event e) → is_within_limits s (events ++ e ∷ []) ≡ true
    → bytes + (line + 1) ≤ most_trace_bytes
with-room s events e bytes line is_bytes is_line within =
    let parts = and-true (nat_le (length (events ++ e ∷ [])) most_trace_events) (nat_le (text_length s (events ++ e ∷ [])) most_trace_bytes) within in
    let small = leb-true (text_length s (events ++ e ∷ [])) most_trace_bytes parts.1 in
    let same = with-line s events e bytes line is_bytes is_line in
    omega (arith, small, same)
