-- A message has one encoding.
use Rattle.std.proofs.Common.{◌≡◌, ℕ, ◌+◌, ◌-◌, ◌^◌, ◌<◌, ◌==◌, ◌&&◌, ◌||◌, Bool, true, false, if◌then◌else◌, List, [], ◌∷◌, ◌++◌, length, append_assoc, refl, sym, ap, ◌∙◌, subst, ◌⊎◌, ◌↔◌, inl, inr, true≢false}
use Rattle.std.specs.Prelude.{nat_lt}
use Rattle.std.specs.Int.{to_be_bytes, w64}
use Rattle.std.proofs.lemmas.Bool.{lt-ltb, ltb-true}
use Rattle.std.proofs.lemmas.Bool.Decides.{Decides-eqb}
use Rattle.std.proofs.lemmas.List.{append-nil}
use Rattle.iss_base.proofs.Lists.{and-true}
use Rattle.iss_request.specs.Fields.{Good, Bad, IsBad, IsGrammar, IsReadAgain}
use Rattle.iss_request.specs.Formats.{batch_of, is_batch, is_signature, parse_signature, parse_value, spell_value}
use Rattle.iss_request.specs.Parsing.{Parser, ◌>>=◌, block, byte, done, number, such_that}
use Rattle.iss_request.proofs.OneSpelling.{done_good, signature_again, signature_parts, value_grammar, value_related}
use Rattle.iss_request.proofs.ParserLemmas.{block_again, block_parts, byte_again, byte_parts, done_parts, first_bad, number_again, number_parts, test_bad, test_failed, test_parts, test_passed, then_bad, then_good, then_parts, wide64}
use Rattle.iss_request.specs.declared.ids.Slot.{Slot}
use Rattle.iss_request.specs.declared.requests.Batch.{Batch}
use Rattle.iss_request.specs.declared.requests.Value.{Value}
use Rattle.iss_request.specs.declared.requests.Value.TheVariants.{Nil as Value_nil, Batch as Value_batch}
use Rattle.iss_sb.proofs.Read.{read-again}
use Rattle.sb_echo.specs.declared.word.Word.{Word}
use Rattle.sb_echo.specs.declared.word.Word.TheVariants.{Say, Echo as Echo_word}
use Rattle.sb_echo.specs.Echo.{IsSpelledWord, parse, parse_echo, parse_say, spell}

-- in one version of the formats
module _ (version : ℕ) where
  -- ---- the parts of the parser

  abbrev known : ℕ → Bool
  known n = (n == 1) || (n == 2)

  abbrev after_message : ℕ → Parser Word
  after_message message = if message == 1 then parse_say version else parse_echo

  parse-is : parse version ≡ (such_that known byte >>= after_message)
  unfolding parse
  parse-is = refl

  abbrev made : ℕ → Value → List ℕ → Parser Word
  made slot value sig = done (Say (record { 0 = slot }) (batch_of value) sig)

  abbrev after_value : ℕ → Value → Parser Word
  after_value slot value = parse_signature >>= made slot value

  abbrev after_slot : ℕ → Parser Word
  after_slot slot = such_that is_batch (parse_value version) >>= after_value slot

  parse_say-is : parse_say version ≡ (number w64 >>= after_slot)
  unfolding parse_say
  parse_say-is = refl

  abbrev made-echo : ℕ → List ℕ → List ℕ → Parser Word
  made-echo slot d sig = done (Echo_word (record { 0 = slot }) d sig)

  abbrev after_digest : ℕ → List ℕ → Parser Word
  after_digest slot d = parse_signature >>= made-echo slot d

  abbrev after_echo_slot : ℕ → Parser Word
  after_echo_slot slot = block 32 >>= after_digest slot

  parse_echo-is : parse_echo ≡ (number w64 >>= after_echo_slot)
  unfolding parse_echo
  parse_echo-is = refl

  -- ---- which messages have an encoding

  abbrev fits-say : Slot → List ℕ → Bool
  fits-say slot sig = nat_lt slot.0 (2 ^ 64) && is_signature sig

  abbrev fits-echo : Slot → List ℕ → List ℕ → Bool
  fits-echo slot d sig = nat_lt slot.0 (2 ^ 64) && ((length d == 32) && is_signature sig)

  spelled-say : (slot : Slot) (batch : Batch) (sig : List ℕ) → fits-say slot sig ≡ true →
      spell version (Say slot batch sig) ≡ 1 ∷ to_be_bytes w64 slot.0 ++ spell_value version (Value_batch batch) ++ sig
  spelled-say slot batch sig h = rw h refl

  spelled-echo : (slot : Slot) (d sig : List ℕ) → fits-echo slot d sig ≡ true →
      spell version (Echo_word slot d sig) ≡ 2 ∷ to_be_bytes w64 slot.0 ++ d ++ sig
  spelled-echo slot d sig h = rw h refl

  regroup : (n : ℕ) (a b c rest : List ℕ) → (n ∷ a ++ b ++ c) ++ rest ≡ n ∷ (a ++ (b ++ (c ++ rest)))
  regroup n a b c rest = simp append_assoc

  value-is : (v : Value) → is_batch v ≡ true → v ≡ Value_batch (batch_of v)
  value-is Value_nil h = absurd (true≢false (sym h))
  value-is (Value_batch b) h = refl

  both : (a b : Bool) → a ≡ true → b ≡ true → (a && b) ≡ true
  both a b p q = rw (p, q) refl

  -- ---- what decodes has this encoding

  say-only : (bytes rest : List ℕ) (msg : Word) → parse_say version bytes ≡ Good msg rest →
      1 ∷ bytes ≡ spell version msg ++ rest
  say-only bytes rest msg h =
      let a = then_parts (number w64) after_slot bytes rest msg (rw parse_say-is at h) in
      let b = then_parts (such_that is_batch (parse_value version)) (after_value a.thing) a.mid rest msg a.second in
      let c = then_parts parse_signature (made a.thing b.thing) b.mid rest msg b.second in
      let d = done_parts (Say (record { 0 = a.thing }) (batch_of b.thing) c.thing) msg c.mid rest c.second in
      let slot = number_parts w64 (2 ^ 64) wide64 bytes a.mid a.thing a.first in
      let value = test_parts is_batch (parse_value version) a.mid b.mid b.thing b.first in
      let sig = signature_parts b.mid c.mid c.thing c.first in
      let read : a.mid ≡ spell_value version b.thing ++ b.mid = (value_grammar version).only a.mid b.mid b.thing value.0 in
      let fits = both _ _ (lt-ltb a.thing (2 ^ 64) slot.below) sig.shape in
      let whole : bytes ≡ to_be_bytes w64 a.thing ++ (spell_value version (Value_batch (batch_of b.thing)) ++ (c.thing ++ rest)) =
      slot.parts ∙ ap (λ (x : List ℕ). to_be_bytes w64 a.thing ++ x) (read ∙ ap (λ (v : Value). spell_value version v ++ b.mid) (value-is b.thing value.1) ∙ ap (λ (x : List ℕ). spell_value version (Value_batch (batch_of b.thing)) ++ x) (sig.parts ∙ ap (λ (x : List ℕ). c.thing ++ x) d.1)) in
      subst (λ (m : Word). 1 ∷ bytes ≡ spell version m ++ rest) d.0
      (ap (λ (x : List ℕ). 1 ∷ x) whole ∙ sym (regroup 1 (to_be_bytes w64 a.thing) (spell_value version (Value_batch (batch_of b.thing))) c.thing rest)
      ∙ ap (λ (x : List ℕ). x ++ rest) (sym (spelled-say (record { 0 = a.thing }) (batch_of b.thing) c.thing fits)))

  echo-only : (bytes rest : List ℕ) (msg : Word) → parse_echo bytes ≡ Good msg rest →
      2 ∷ bytes ≡ spell version msg ++ rest
  echo-only bytes rest msg h =
      let a = then_parts (number w64) after_echo_slot bytes rest msg (rw parse_echo-is at h) in
      let b = then_parts (block 32) (after_digest a.thing) a.mid rest msg a.second in
      let c = then_parts parse_signature (made-echo a.thing b.thing) b.mid rest msg b.second in
      let d = done_parts (Echo_word (record { 0 = a.thing }) b.thing c.thing) msg c.mid rest c.second in
      let slot = number_parts w64 (2 ^ 64) wide64 bytes a.mid a.thing a.first in
      let piece = block_parts 32 a.mid b.mid b.thing b.first in
      let sig = signature_parts b.mid c.mid c.thing c.first in
      let fits = both _ _ (lt-ltb a.thing (2 ^ 64) slot.below) (both _ _ ((Decides-eqb (length b.thing) 32).1 piece.len) sig.shape) in
      let whole : bytes ≡ to_be_bytes w64 a.thing ++ (b.thing ++ (c.thing ++ rest)) =
      slot.parts ∙ ap (λ (x : List ℕ). to_be_bytes w64 a.thing ++ x) (piece.parts ∙ ap (λ (x : List ℕ). b.thing ++ x) (sig.parts ∙ ap (λ (x : List ℕ). c.thing ++ x) d.1)) in
      subst (λ (m : Word). 2 ∷ bytes ≡ spell version m ++ rest) d.0
      (ap (λ (x : List ℕ). 2 ∷ x) whole ∙ sym (regroup 2 (to_be_bytes w64 a.thing) b.thing c.thing rest)
      ∙ ap (λ (x : List ℕ). x ++ rest) (sym (spelled-echo (record { 0 = a.thing }) b.thing c.thing fits)))

  only : (bytes rest : List ℕ) (msg : Word) → parse version bytes ≡ Good msg rest → bytes ≡ spell version msg ++ rest
  only bytes rest msg h =
      let a = then_parts (such_that known byte) after_message bytes rest msg (rw parse-is at h) in
      let first = test_parts known byte bytes a.mid a.thing a.first in
      byte_parts bytes a.mid a.thing first.0 ∙ go (a.thing == 1) a.thing a.mid refl first.1 a.second
    where
      go : (t : Bool) (n : ℕ) (mid : List ℕ) → (n == 1) ≡ t → known n ≡ true → after_message n mid ≡ Good msg rest →
          n ∷ mid ≡ spell version msg ++ rest
      go true n mid q k r =
          let one : n ≡ 1 = (Decides-eqb n 1).0 q in
          let read : parse_say version mid ≡ Good msg rest = rw q at r in
          ap (λ (x : ℕ). x ∷ mid) one ∙ say-only mid rest msg read
      go false n mid q k r =
          let second : (n == 2) ≡ true = rw q at k in
          let two : n ≡ 2 = (Decides-eqb n 2).0 second in
          let read : parse_echo mid ≡ Good msg rest = rw q at r in
          ap (λ (x : ℕ). x ∷ mid) two ∙ echo-only mid rest msg read

  -- ---- an encoding decodes

  abbrev Whole : Word → Type 0
  Whole msg = ((rest : List ℕ) → parse version (spell version msg ++ rest) ≡ Good msg rest) ⊎ ((rest : List ℕ) → IsBad (parse version (spell version msg ++ rest)))

  -- an encoding that is the number of no message
  none : (rest : List ℕ) → IsBad (parse version (0 ∷ rest))
  none rest = (0, rw parse-is (first_bad (such_that known byte) after_message (0 ∷ rest) 0 (test_failed known byte (0 ∷ rest) rest 0 (byte_again 0 rest) refl)))

  from : (bytes : List ℕ) (at : ℕ) → (such_that known byte >>= after_message) bytes ≡ Bad at →
      IsBad (parse version bytes)
  from bytes at h = (at, rw parse-is h)

  message-is : (n : ℕ) (text : List ℕ) → known n ≡ true → such_that known byte (n ∷ text) ≡ Good n text
  message-is n text h = test_passed known byte (n ∷ text) text n (byte_again n text) h

  module _ (slot : Slot) (batch : Batch) (sig : List ℕ) (lt : slot.0 < 2 ^ 64) (shape : is_signature sig ≡ true) (fits : fits-say slot sig ≡ true) (rest : List ℕ) where
    abbrev text : List ℕ
    text = spell_value version (Value_batch batch) ++ (sig ++ rest)

    abbrev all : List ℕ
    all = to_be_bytes w64 slot.0 ++ text

    say-bytes : spell version (Say slot batch sig) ++ rest ≡ 1 ∷ all
    say-bytes = ap (λ (x : List ℕ). x ++ rest) (spelled-say slot batch sig fits) ∙ regroup 1 (to_be_bytes w64 slot.0) (spell_value version (Value_batch batch)) sig rest

    pub say-good : parse_value version text ≡ Good (Value_batch batch) (sig ++ rest) →
        parse version (spell version (Say slot batch sig) ++ rest) ≡ Good (Say slot batch sig) rest
    say-good h =
        let msg : Word = Say slot batch sig in
        let third = then_good parse_signature (made slot.0 (Value_batch batch)) (sig ++ rest) rest rest sig msg (signature_again sig rest shape) (done_good msg rest) in
        let second = then_good (such_that is_batch (parse_value version)) (after_value slot.0) text (sig ++ rest) rest (Value_batch batch) msg (test_passed is_batch (parse_value version) text (sig ++ rest) (Value_batch batch) h refl) third in
        let first = then_good (number w64) after_slot all text rest slot.0 msg (number_again w64 (2 ^ 64) wide64 slot.0 text lt) second in
        let said : parse_say version all ≡ Good msg rest = rw parse_say-is first in
        rw (say-bytes, parse-is) (then_good (such_that known byte) after_message (1 ∷ all) all rest 1 msg (message-is 1 all refl) said)

    say-bad : IsBad (parse_value version text) → IsBad (parse version (spell version (Say slot batch sig) ++ rest))
    say-bad h =
        let second = first_bad (such_that is_batch (parse_value version)) (after_value slot.0) text h.0 (test_bad is_batch (parse_value version) text h.0 h.1) in
        let first = then_bad (number w64) after_slot all text slot.0 h.0 (number_again w64 (2 ^ 64) wide64 slot.0 text lt) second in
        let said : parse_say version all ≡ Bad (length all - length text + h.0) = rw parse_say-is first in
        subst (λ (x : List ℕ). IsBad (parse version x)) (sym say-bytes) (from (1 ∷ all) _ (then_bad (such_that known byte) after_message (1 ∷ all) all 1 _ (message-is 1 all refl) said))

  pub echo-good : (slot : Slot) (d sig rest : List ℕ) → slot.0 < 2 ^ 64 → length d ≡ 32 → is_signature sig ≡ true →
      fits-echo slot d sig ≡ true →
      parse version (spell version (Echo_word slot d sig) ++ rest) ≡ Good (Echo_word slot d sig) rest
  echo-good slot d sig rest lt len shape fits =
      let msg : Word = Echo_word slot d sig in
      let text : List ℕ = d ++ (sig ++ rest) in
      let all : List ℕ = to_be_bytes w64 slot.0 ++ text in
      let third = then_good parse_signature (made-echo slot.0 d) (sig ++ rest) rest rest sig msg (signature_again sig rest shape) (done_good msg rest) in
      let second = then_good (block 32) (after_digest slot.0) text (sig ++ rest) rest d msg (block_again d (sig ++ rest) 32 len) third in
      let first = then_good (number w64) after_echo_slot all text rest slot.0 msg (number_again w64 (2 ^ 64) wide64 slot.0 text lt) second in
      let echoed : parse_echo all ≡ Good msg rest = rw parse_echo-is first in
      let bytes : spell version (Echo_word slot d sig) ++ rest ≡ 2 ∷ all = ap (λ (x : List ℕ). x ++ rest) (spelled-echo slot d sig fits) ∙ regroup 2 (to_be_bytes w64 slot.0) d sig rest in
      rw (bytes, parse-is) (then_good (such_that known byte) after_message (2 ∷ all) all rest 2 msg (message-is 2 all refl) echoed)

  whole : (msg : Word) → Whole msg
  whole (Say slot batch sig) = go (fits-say slot sig) refl
    where
      go : (t : Bool) → fits-say slot sig ≡ t → Whole (Say slot batch sig)
      go false q = inr (λ rest. rw q (none rest))
      go true q =
          let t = and-true (nat_lt slot.0 (2 ^ 64)) (is_signature sig) q in
          let lt = ltb-true slot.0 (2 ^ 64) t.0 in
          elim ((value_grammar version).whole (Value_batch batch)) [
            | inl again ↦ inl (λ rest. say-good slot batch sig lt t.1 q rest (again (sig ++ rest)))
            | inr bad ↦ inr (λ rest. say-bad slot batch sig lt t.1 q rest (bad (sig ++ rest)))
          ]
  whole (Echo_word slot d sig) = go (fits-echo slot d sig) refl
    where
      go : (t : Bool) → fits-echo slot d sig ≡ t → Whole (Echo_word slot d sig)
      go false q = inr (λ rest. rw q (none rest))
      go true q =
          let t = and-true (nat_lt slot.0 (2 ^ 64)) ((length d == 32) && is_signature sig) q in
          let u = and-true (length d == 32) (is_signature sig) t.1 in
          inl (λ rest. echo-good slot d sig rest (ltb-true slot.0 (2 ^ 64) t.0) ((Decides-eqb (length d) 32).0 u.0) u.1 q)

  pub word-grammar : IsGrammar (spell version) (parse version)
  word-grammar = record { only = only; whole = whole }

  good-bad : (m : Word) (rest : List ℕ) (at : ℕ) → Good m rest ≡ Bad at → ⊥
  good-bad m rest at h = cc

  -- if a message decodes from its encoding, so does its batch
  pub say-read : (slot : Slot) (batch : Batch) (sig : List ℕ) →
      IsReadAgain (spell version) (parse version) (Say slot batch sig) →
      IsReadAgain (spell_value version) (parse_value version) (Value_batch batch)
  say-read slot batch sig h = go (fits-say slot sig) refl
    where
      never : IsBad (parse version (spell version (Say slot batch sig) ++ [])) → ⊥
      never k = good-bad (Say slot batch sig) [] k.0 (sym (h []) ∙ k.1)

      go : (t : Bool) → fits-say slot sig ≡ t →
          IsReadAgain (spell_value version) (parse_value version) (Value_batch batch)
      go false q = absurd (never (rw q (none [])))
      go true q =
          let t = and-true (nat_lt slot.0 (2 ^ 64)) (is_signature sig) q in
          let lt = ltb-true slot.0 (2 ^ 64) t.0 in
          elim ((value_grammar version).whole (Value_batch batch)) [
            | inl again ↦ again
            | inr bad ↦ absurd (never (say-bad slot batch sig lt t.1 q [] (bad (sig ++ []))))
          ]

  -- a message with an encoding decodes
  pub say-again : (slot : Slot) (batch : Batch) (sig : List ℕ) → slot.0 < 2 ^ 64 → is_signature sig ≡ true →
      IsReadAgain (spell_value version) (parse_value version) (Value_batch batch) →
      IsReadAgain (spell version) (parse version) (Say slot batch sig)
  say-again slot batch sig lt shape h rest = say-good slot batch sig lt shape (both (nat_lt slot.0 (2 ^ 64)) (is_signature sig) (lt-ltb slot.0 (2 ^ 64) lt) shape) rest (h (sig ++ rest))

  pub echo-again : (slot : Slot) (d sig : List ℕ) → slot.0 < 2 ^ 64 → length d ≡ 32 → is_signature sig ≡ true →
      IsReadAgain (spell version) (parse version) (Echo_word slot d sig)
  echo-again slot d sig lt len shape rest =
      let tail = both (length d == 32) (is_signature sig) ((Decides-eqb (length d) 32).1 len) shape in
      echo-good slot d sig rest lt len shape (both (nat_lt slot.0 (2 ^ 64)) ((length d == 32) && is_signature sig) (lt-ltb slot.0 (2 ^ 64) lt) tail)

  -- ---- the table

  again-of : (msg : Word) (bytes : List ℕ) → parse version bytes ≡ Good msg [] →
      IsReadAgain (spell version) (parse version) msg
  again-of msg bytes h = read-again (spell version) (parse version) word-grammar bytes [] msg h

  unfit : (msg : Word) → spell version msg ≡ 0 ∷ [] → IsReadAgain (spell version) (parse version) msg → ⊥
  unfit msg e h = let b = none [] in good-bad msg [] b.0 (sym (h []) ∙ ap (λ (x : List ℕ). parse version (x ++ [])) e ∙ b.1)

  whole-is : (msg : Word) (bytes : List ℕ) → parse version bytes ≡ Good msg [] → bytes ≡ spell version msg
  whole-is msg bytes h = only bytes [] msg h ∙ append-nil (spell version msg)

  read-spelled : (msg : Word) (bytes : List ℕ) → parse version bytes ≡ Good msg [] → IsSpelledWord version msg bytes
  read-spelled (Say slot batch sig) bytes h = go (fits-say slot sig) refl
    where
      go : (t : Bool) → fits-say slot sig ≡ t → IsSpelledWord version (Say slot batch sig) bytes
      go false q = absurd (unfit (Say slot batch sig) (rw q refl) (again-of (Say slot batch sig) bytes h))
      go true q =
          let t = and-true (nat_lt slot.0 (2 ^ 64)) (is_signature sig) q in
          let value = say-read slot batch sig (again-of (Say slot batch sig) bytes h) [] in
          let alone : parse_value version (spell_value version (Value_batch batch)) ≡ Good (Value_batch batch) [] = ap (λ (x : List ℕ). parse_value version x) (sym (append-nil (spell_value version (Value_batch batch)))) ∙ value in
          (ltb-true slot.0 (2 ^ 64) t.0, t.1, (spell_value version (Value_batch batch), (value_related version (Value_batch batch) (spell_value version (Value_batch batch))).0 alone, whole-is (Say slot batch sig) bytes h ∙ spelled-say slot batch sig q))
  read-spelled (Echo_word slot d sig) bytes h = go (fits-echo slot d sig) refl
    where
      go : (t : Bool) → fits-echo slot d sig ≡ t → IsSpelledWord version (Echo_word slot d sig) bytes
      go false q = absurd (unfit (Echo_word slot d sig) (rw q refl) (again-of (Echo_word slot d sig) bytes h))
      go true q =
          let t = and-true (nat_lt slot.0 (2 ^ 64)) ((length d == 32) && is_signature sig) q in
          let u = and-true (length d == 32) (is_signature sig) t.1 in
          (ltb-true slot.0 (2 ^ 64) t.0, (Decides-eqb (length d) 32).0 u.0, u.1, whole-is (Echo_word slot d sig) bytes h ∙ spelled-echo slot d sig q)

  alone-read : (msg : Word) (bytes : List ℕ) → bytes ≡ spell version msg →
      IsReadAgain (spell version) (parse version) msg → parse version bytes ≡ Good msg []
  alone-read msg bytes e h = ap (λ (x : List ℕ). parse version x) (e ∙ sym (append-nil (spell version msg))) ∙ h []

  spelled-read : (msg : Word) (bytes : List ℕ) → IsSpelledWord version msg bytes → parse version bytes ≡ Good msg []
  spelled-read (Say slot batch sig) bytes h =
      let value : List ℕ = h.2.0 in
      let read : parse_value version value ≡ Good (Value_batch batch) [] = (value_related version (Value_batch batch) value).1 h.2.1 in
      let again = read-again (spell_value version) (parse_value version) (value_grammar version) value [] (Value_batch batch) read in
      let is : value ≡ spell_value version (Value_batch batch) = (value_grammar version).only value [] (Value_batch batch) read ∙ append-nil (spell_value version (Value_batch batch)) in
      let fits = both (nat_lt slot.0 (2 ^ 64)) (is_signature sig) (lt-ltb slot.0 (2 ^ 64) h.0) h.1 in
      alone-read (Say slot batch sig) bytes
      (h.2.2 ∙ ap (λ (x : List ℕ). 1 ∷ to_be_bytes w64 slot.0 ++ x ++ sig) is ∙ sym (spelled-say slot batch sig fits))
      (say-again slot batch sig h.0 h.1 again)
  spelled-read (Echo_word slot d sig) bytes h =
      let tail = both (length d == 32) (is_signature sig) ((Decides-eqb (length d) 32).1 h.1) h.2 in
      let fits = both (nat_lt slot.0 (2 ^ 64)) ((length d == 32) && is_signature sig) (lt-ltb slot.0 (2 ^ 64) h.0) tail in
      alone-read (Echo_word slot d sig) bytes (h.3 ∙ sym (spelled-echo slot d sig fits)) (echo-again slot d sig h.0 h.1 h.2)

  pub word-related : (msg : Word) (bytes : List ℕ) →
      (parse version bytes ≡ Good msg []) ↔ IsSpelledWord version msg bytes
  word-related msg bytes = (read-spelled msg bytes, spelled-read msg bytes)
