-- A message has one encoding, that of its table.
use Rattle.std.proofs.Common.{◌≡◌, ◌≢◌, ℕ, ◌^◌, ◌<◌, ◌==◌, Bool, true, false, List, [], ◌∷◌, ◌++◌, append_assoc, append-nil, refl, sym, ap, subst, ◌∙◌, ◌⊎◌, inl, inr, true≢false}
use Rattle.std.specs.Prelude.{nat_lt, ◌↔◌}
use Rattle.std.specs.Int.{to_be_bytes, w64}
use Rattle.std.proofs.lemmas.Bool.{eq-eqb, eqb-true, lt-ltb, ltb-true, ne_eqb}
use Rattle.iss_request.specs.Fields.{Good, Bad, IsBad, IsGrammar, IsReadAgain, Written, and_bytes}
use Rattle.iss_request.specs.Formats.{batch_of, is_batch, parse_value, spell_value}
use Rattle.iss_request.specs.Parsing.{Parser, ◌>>=◌, byte, done, number, such_that}
use Rattle.iss_request.proofs.OneSpelling.{done_good, value_grammar, value_related}
use Rattle.iss_request.proofs.ParserLemmas.{byte_again, byte_parts, done_parts, first_bad, number_again, number_parts, test_bad, test_failed, test_parts, test_passed, then_bad, then_good, then_parts, wide64}
use Rattle.iss_request.specs.declared.requests.Batch.{Batch}
use Rattle.iss_request.specs.declared.requests.Value.{Value}
use Rattle.iss_request.specs.declared.requests.Value.TheVariants.{Nil as Value_nil, Batch as Value_batch}
use Rattle.iss_sb.proofs.Read.{read-again}
use Rattle.sb_relay.specs.declared.say.Say.{Say}
use Rattle.sb_relay.specs.Relay.{IsSpelledSay, parse, spell}

-- the parts of the parser, after the number of the message, and after the slot
abbrev made : ℕ → Value → Parser Say
made slot value = done (record { slot = record { 0 = slot }; batch = batch_of value })

abbrev after_slot : ℕ → ℕ → Parser Say
after_slot version slot = such_that is_batch (parse_value version) >>= made slot

abbrev after_message : ℕ → ℕ → Parser Say
after_message version message = number w64 >>= after_slot version

pub is-one : (n : ℕ) → n ≡ 1 → (n == 1) ≡ true
is-one n h = eq-eqb n 1 h

pub not-one : (n : ℕ) → n ≢ 1 → (n == 1) ≡ false
not-one n h = ne_eqb n 1 h

value-is : (v : Value) (batch : Batch) → is_batch v ≡ true → batch_of v ≡ batch → v ≡ Value_batch batch
value-is Value_nil batch h e = absurd (true≢false (sym h))
value-is (Value_batch b) batch h e = ap (λ (x : Batch). Value_batch x) e

message-is : (text : List ℕ) → such_that (λ n. n == 1) byte (1 ∷ text) ≡ Good 1 text
message-is text = test_passed (λ n. n == 1) byte (1 ∷ text) text 1 (byte_again 1 text) refl

module _ (version : ℕ) where
  pub parse-is : parse version ≡ (such_that (λ n. n == 1) byte >>= after_message version)
  unfolding parse
  parse-is = refl

  pub spelled : (msg : Say) → msg.slot.0 < 2 ^ 64 →
      spell version msg ≡ 1 ∷ to_be_bytes w64 msg.slot.0 ++ spell_value version (Value_batch msg.batch)
  spelled msg lt = rw (lt-ltb msg.slot.0 (2 ^ 64) lt) refl

  -- bytes that decode as a message
  record IsSay (bytes rest : List ℕ) (msg : Say) : Type 0 where
    pub small : msg.slot.0 < 2 ^ 64
    pub value : List ℕ
    pub read : parse_value version value ≡ Good (Value_batch msg.batch) rest
    pub parts : bytes ≡ 1 ∷ to_be_bytes w64 msg.slot.0 ++ value

  say-parts : (bytes rest : List ℕ) (msg : Say) → parse version bytes ≡ Good msg rest → IsSay bytes rest msg
  say-parts bytes rest msg h =
      let a = then_parts (such_that (λ n. n == 1) byte) (after_message version) bytes rest msg (rw parse-is at h) in
      let b = then_parts (number w64) (after_slot version) a.mid rest msg a.second in
      let c = then_parts (such_that is_batch (parse_value version)) (made b.thing) b.mid rest msg b.second in
      let d = done_parts (record { slot = record { 0 = b.thing }; batch = batch_of c.thing }) msg c.mid rest c.second in
      let first = test_parts (λ n. n == 1) byte bytes a.mid a.thing a.first in
      let one : a.thing ≡ 1 = eqb-true a.thing 1 first.1 in
      let second = number_parts w64 (2 ^ 64) wide64 a.mid b.mid b.thing b.first in
      let third = test_parts is_batch (parse_value version) b.mid c.mid c.thing c.first in
      let slot : b.thing ≡ msg.slot.0 = ap (λ (m : Say). m.slot.0) d.0 in
      let batch : c.thing ≡ Value_batch msg.batch = value-is c.thing msg.batch third.1 (ap (λ (m : Say). m.batch) d.0) in
      let behind : c.mid ≡ rest = d.1 in
      let mid : a.mid ≡ to_be_bytes w64 msg.slot.0 ++ b.mid = rw slot at second.parts in
      let all : bytes ≡ a.thing ∷ a.mid = byte_parts bytes a.mid a.thing first.0 in
      record {
        small = subst (λ n. n < 2 ^ 64) slot second.below;
        value = b.mid;
        read = rw (batch, behind) at third.0;
        parts = all ∙ ap (λ (n : ℕ). n ∷ a.mid) one ∙ ap (λ (t : List ℕ). 1 ∷ t) mid;
      }

  -- if the value decodes, so does the message
  said : (msg : Say) (text rest : List ℕ) → msg.slot.0 < 2 ^ 64 →
      parse_value version text ≡ Good (Value_batch msg.batch) rest →
      parse version (1 ∷ to_be_bytes w64 msg.slot.0 ++ text) ≡ Good msg rest
  said msg text rest lt h =
      let third = test_passed is_batch (parse_value version) text rest (Value_batch msg.batch) h refl in
      let second = then_good (such_that is_batch (parse_value version)) (made msg.slot.0) text rest rest (Value_batch msg.batch) msg third (done_good msg rest) in
      let first = then_good (number w64) (after_slot version) (to_be_bytes w64 msg.slot.0 ++ text) text rest msg.slot.0 msg (number_again w64 (2 ^ 64) wide64 msg.slot.0 text lt) second in
      let all = then_good (such_that (λ n. n == 1) byte) (after_message version) (1 ∷ to_be_bytes w64 msg.slot.0 ++ text) (to_be_bytes w64 msg.slot.0 ++ text) rest 1 msg (message-is (to_be_bytes w64 msg.slot.0 ++ text)) first in
      rw parse-is all

  from : (bytes : List ℕ) (at : ℕ) → (such_that (λ n. n == 1) byte >>= after_message version) bytes ≡ Bad at →
      IsBad (parse version bytes)
  from bytes at h = (at, rw parse-is h)

  unsaid : (slot : ℕ) (text : List ℕ) → slot < 2 ^ 64 → IsBad (parse_value version text) →
      IsBad (parse version (1 ∷ to_be_bytes w64 slot ++ text))
  unsaid slot text lt h =
      let third = test_bad is_batch (parse_value version) text h.0 h.1 in
      let second = first_bad (such_that is_batch (parse_value version)) (made slot) text h.0 third in
      let first = then_bad (number w64) (after_slot version) (to_be_bytes w64 slot ++ text) text slot h.0 (number_again w64 (2 ^ 64) wide64 slot text lt) second in
      let all = then_bad (such_that (λ n. n == 1) byte) (after_message version) (1 ∷ to_be_bytes w64 slot ++ text) (to_be_bytes w64 slot ++ text) 1 _ (message-is (to_be_bytes w64 slot ++ text)) first in
      from (1 ∷ to_be_bytes w64 slot ++ text) _ all

  -- an encoding decodes as its message
  pub say-again : (msg : Say) → msg.slot.0 < 2 ^ 64 →
      IsReadAgain (spell_value version) (parse_value version) (Value_batch msg.batch) →
      IsReadAgain (spell version) (parse version) msg
  say-again msg lt again rest = subst (λ (l : List ℕ). parse version (l ++ rest) ≡ Good msg rest) (sym (spelled msg lt)) (said msg (spell_value version (Value_batch msg.batch) ++ rest) rest lt (again rest))

  say-bad : (msg : Say) → msg.slot.0 < 2 ^ 64 →
      ((rest : List ℕ) → IsBad (parse_value version (spell_value version (Value_batch msg.batch) ++ rest))) →
      (rest : List ℕ) → IsBad (parse version (spell version msg ++ rest))
  say-bad msg lt bad rest = subst (λ (l : List ℕ). IsBad (parse version (l ++ rest))) (sym (spelled msg lt)) (unsaid msg.slot.0 (spell_value version (Value_batch msg.batch) ++ rest) lt (bad rest))

  unspelled : (msg : Say) → nat_lt msg.slot.0 (2 ^ 64) ≡ false → (rest : List ℕ) →
      IsBad (parse version (spell version msg ++ rest))
  unspelled msg large rest = (0, rw (parse-is, large) (first_bad (such_that (λ n. n == 1) byte) (after_message version) (0 ∷ rest) 0 (test_failed (λ n. n == 1) byte (0 ∷ rest) rest 0 (byte_again 0 rest) refl)))

  whole : (msg : Say) → IsReadAgain (spell version) (parse version) msg ⊎ ((rest : List ℕ) → IsBad (parse version (spell version msg ++ rest)))
  whole msg = go (nat_lt msg.slot.0 (2 ^ 64)) refl
    where
      go : (b : Bool) → nat_lt msg.slot.0 (2 ^ 64) ≡ b → IsReadAgain (spell version) (parse version) msg ⊎ ((rest : List ℕ) → IsBad (parse version (spell version msg ++ rest)))
      go false large = inr (λ rest. unspelled msg large rest)
      go true small = let lt = ltb-true msg.slot.0 (2 ^ 64) small in elim ((value_grammar version).whole (Value_batch msg.batch)) [
        | inl again ↦ inl (λ rest. say-again msg lt again rest)
        | inr bad ↦ inr (λ rest. say-bad msg lt bad rest)
      ]

  only : (bytes rest : List ℕ) (msg : Say) → parse version bytes ≡ Good msg rest → bytes ≡ spell version msg ++ rest
  only bytes rest msg h =
      let is = say-parts bytes rest msg h in
      let value : is.value ≡ spell_value version (Value_batch msg.batch) ++ rest = (value_grammar version).only is.value rest (Value_batch msg.batch) is.read in
      rw (spelled msg is.small, is.parts, value) refl

  pub say-grammar : IsGrammar (spell version) (parse version)
  say-grammar = record { only = only; whole = whole }

  -- the batch of a message that decodes decodes
  pub say-batch : (msg : Say) → IsReadAgain (spell version) (parse version) msg →
      IsReadAgain (spell_value version) (parse_value version) (Value_batch msg.batch)
  say-batch msg h =
      let is = say-parts (spell version msg) [] msg (ap (parse version) (sym (append-nil (spell version msg))) ∙ h []) in
      read-again (spell_value version) (parse_value version) (value_grammar version) is.value [] (Value_batch msg.batch) is.read

  -- the table
  pub say-related : (msg : Say) (bytes : List ℕ) → (parse version bytes ≡ Good msg []) ↔ IsSpelledSay version msg bytes
  say-related msg bytes = (
    (λ h. let is = say-parts bytes [] msg h in (is.small, (is.value, (value_related version (Value_batch msg.batch) is.value).0 is.read, is.parts))),
    (λ h. ap (parse version) h.1.2 ∙ said msg h.1.0 [] h.0 ((value_related version (Value_batch msg.batch) h.1.0).1 h.1.1)),
  )

-- the written bytes, concatenated, are the encoding
pub written : (msg : Say) (start a b later : Written) → msg.slot.0 < 2 ^ 64 → a ≡ and_bytes start (1 ∷ []) →
    b ≡ and_bytes a (to_be_bytes w64 msg.slot.0) →
    later ≡ and_bytes b (spell_value b.version (Value_batch msg.batch)) → later ≡ and_bytes start (spell start.version msg)
written msg start a b later lt ha hb hl = rw (spelled start.version msg lt, hl, hb, ha) (simp append_assoc)
