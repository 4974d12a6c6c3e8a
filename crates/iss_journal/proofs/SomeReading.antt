-- Each list of bytes has a reading.
use Rattle.std.proofs.Common.{◌≡◌, inl, inr, ℕ, zero, suc, ◌+◌, ◌<◌, ◌≤◌, List, [], ◌∷◌, ◌++◌, length, take, drop, get_or, refl, sym, ◌∙◌, ap, subst, arith, append_assoc, length-append}
use Rattle.std.proofs.lemmas.List.{take-append-drop, length-take-le}
use Rattle.std.proofs.lemmas.List.Elements.{All-take, All-drop, All-get_or}
use Rattle.std.proofs.lemmas.Nat.{be_bytes_4}
use Rattle.std.proofs.Math.Decide.{dec_le, dec_lt, ℕ_discrete}
use Rattle.std.proofs.Math.ListN.{get_or-eq_default}
use Rattle.std.specs.Int.{w32, to_be_bytes, from_be_bytes}
use Rattle.std.specs.List.{All}
use Rattle.iss_journal.specs.Frames.{BreaksAt, ClosesAfter, damaged, frame, frames, holds, IsWhole, max_entry, Reading, Reads, version_1}

abbrev IsByte : ℕ → Type 0
IsByte b = b < 256

byte_at : (bytes : List ℕ) → All IsByte bytes → (i : ℕ) → get_or bytes i 0 < 256
byte_at bytes each i = within (dec_lt i (length bytes))
  where
    within : Dec (i < length bytes) → get_or bytes i 0 < 256
    within (yes here) = All-get_or IsByte bytes i 0 here each
    within (no behind) = omega (arith, get_or-eq_default bytes 0 {n = i} (omega (arith, behind)))

-- a frame, and what follows it
record Framed (rest : List ℕ) : Type 0 where
  entry : List ℕ
  more : List ℕ
  is : 1 ∷ rest ≡ frame entry ++ more
  short : length entry ≤ max_entry
  some : 1 ≤ length more
  fewer : length more ≤ length rest
  bytes : All IsByte more

framed : (rest : List ℕ) → All IsByte rest → IsWhole rest → Framed rest
framed rest bytes whole =
    let size : ℕ = from_be_bytes w32 (take 4 rest) in
    let body : List ℕ = drop 4 rest in
    let entry : List ℕ = take size body in
    let more : List ℕ = drop size body in
    let four : length (take 4 rest) ≡ 4 = length-take-le 4 rest whole.0 in
    let parts : take 4 rest ++ body ≡ rest = take-append-drop 4 rest in
    let halves : entry ++ more ≡ body = take-append-drop size body in
    let behind : 4 + length body ≡ length rest =
    omega (arith, four, length-append (take 4 rest) body, ap length parts) in
    let sized : length entry ≡ size = length-take-le size body (omega (arith, whole.2, behind)) in
    let whole_length : length entry + length more ≡ length body = sym (length-append entry more) ∙ ap length halves in
    let spelled : to_be_bytes w32 size ≡ take 4 rest =
    be_bytes_4 (take 4 rest) size four (byte_at (take 4 rest) (All-take IsByte 4 rest bytes)) refl in
    record {
      entry = entry;
      more = more;
      is = sym (append_assoc (1 ∷ to_be_bytes w32 (length entry)) entry more
          ∙ ap (λ (n : ℕ). 1 ∷ (to_be_bytes w32 n ++ (entry ++ more))) sized
          ∙ ap (λ (l : List ℕ). 1 ∷ (l ++ (entry ++ more))) spelled ∙ ap (λ (l : List ℕ). 1 ∷ (take 4 rest ++ l)) halves
          ∙ ap (λ (l : List ℕ). 1 ∷ l) parts);
      short = omega (arith, sized, whole.1);
      some = omega (arith, whole.2, behind, sized, whole_length);
      fewer = omega (arith, behind, whole_length);
      bytes = All-drop IsByte size body (All-drop IsByte 4 rest bytes);
    }

-- what follows from a gate on
data Found (file : List ℕ) : Type 0 where
  closes : (entries : List (List ℕ)) → ClosesAfter entries file → Found file
  breaks : (at : ℕ) → BreaksAt at file → Found file

behind_entry : (entry more : List ℕ) → length entry ≤ max_entry → Found more → Found (frame entry ++ more)
behind_entry entry more short (closes entries c) = closes (entry ∷ entries) (record {
  gate = c.gate;
  rest = c.rest;
  is = ap (λ (l : List ℕ). frame entry ++ l) c.is ∙ sym (append_assoc (frame entry) (frames entries) (c.gate ∷ c.rest));
  closed = c.closed;
  short = (short, c.short);
})
behind_entry entry more short (breaks at b) = breaks (length (frame entry) + at) (record {
  entries = entry ∷ b.entries;
  rest = b.rest;
  is = ap (λ (l : List ℕ). frame entry ++ l) b.is ∙ sym (append_assoc (frame entry) (frames b.entries) (1 ∷ b.rest));
  offset = ap (λ (n : ℕ). length (frame entry) + n) b.offset ∙ sym (length-append (frame entry) (frames b.entries));
  short = (short, b.short);
  broken = b.broken;
})

dec_whole : (rest : List ℕ) → Dec (IsWhole rest)
dec_whole rest = all_three (dec_le 4 (length rest)) (dec_le (from_be_bytes w32 (take 4 rest)) max_entry)
    (dec_le (5 + from_be_bytes w32 (take 4 rest)) (length rest))
  where
    all_three : {P Q R : Type 0} → Dec P → Dec Q → Dec R → Dec (P × Q × R)
    all_three (yes p) (yes q) (yes r) = yes (p, q, r)
    all_three (no p) q r = no (λ all. p all.0)
    all_three (yes p) (no q) r = no (λ all. q all.1)
    all_three (yes p) (yes q) (no r) = no (λ all. r all.2)

at_gate : (gate : ℕ) (rest : List ℕ) → Dec (gate ≡ 1) → Dec (IsWhole rest) → All IsByte rest →
    ((more : List ℕ) → length more ≤ length rest → 1 ≤ length more → All IsByte more → Found more) → Found (gate ∷ rest)
at_gate gate rest (no closed) whole bytes found =
    closes [] (record { gate = gate; rest = rest; is = refl; closed = closed; short = tt })
at_gate gate rest (yes opened) (no broken) bytes found =
    subst Found (ap (λ (g : ℕ). g ∷ rest) (sym opened))
    (breaks 0 (record { entries = []; rest = rest; is = refl; offset = refl; short = tt; broken = broken }))
at_gate gate rest (yes opened) (yes whole) bytes found =
    let f = framed rest bytes whole in
    subst Found (sym f.is ∙ ap (λ (g : ℕ). g ∷ rest) (sym opened))
    (behind_entry f.entry f.more f.short (found f.more f.fewer f.some f.bytes))

found_from : (bound : ℕ) (file : List ℕ) → length file ≤ bound → 1 ≤ length file → All IsByte file → Found file
found_from bound [] few some bytes = absurd (omega (arith, some))
found_from zero (gate ∷ rest) few some bytes = absurd (omega (arith, few))
found_from (suc bound) (gate ∷ rest) few some bytes =
    at_gate gate rest (ℕ_discrete gate 1) (dec_whole rest) (All-drop IsByte 1 (gate ∷ rest) bytes)
    (λ more fewer some_more each. found_from bound more (omega (arith, few, fewer)) some_more each)

reading_of : (file : List ℕ) → Dec (length file ≤ 1) → All IsByte file → (r : Reading) × Reads version_1 file r
reading_of file (yes brief) bytes = (holds [], inl (brief, refl))
reading_of file (no long) bytes = named (found_from (length file) file (omega arith) (omega (arith, long)) bytes)
  where
    named : Found file → (r : Reading) × Reads version_1 file r
    named (closes entries c) = (holds entries, inr (omega (arith, long), c))
    named (breaks at b) = (damaged at, (omega (arith, long), b))

pub some_reading : (file : List ℕ) → All (λ b. b < 256) file → (r : Reading) × Reads version_1 file r
some_reading file bytes = reading_of file (dec_le (length file) 1) bytes
