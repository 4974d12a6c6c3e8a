-- Counts and values have one encoding.
use Rattle.std.proofs.Common.{◌≡◌, ℕ, ◌^◌, true, List, [], ◌∷◌, ◌++◌, length, append-nil, refl, sym, ap, ◌∙◌, inl, inr}
use Rattle.std.specs.Prelude.{nat_le}
use Rattle.std.specs.Int.{to_be_bytes, w16, w64}
use Rattle.std.specs.List.{AllByRecursion, list_all}
use Rattle.std.proofs.lemmas.Bool.{leb-true, le-leb, lt-ltb, ltb-true}
use Rattle.iss_base.proofs.Lists.{and-true, both}
use Rattle.iss_request.specs.Fields.{Good}
use Rattle.iss_request.specs.Formats.{HasSpelling, IsSpelledValue, has_spelling, parse_value, requests_most, spell_value, value_bytes}
use Rattle.iss_request.specs.Parsing.{byte, number}
use Rattle.iss_request.specs.declared.requests.Request.{Request}
use Rattle.iss_request.specs.declared.requests.Value.{Value}
use Rattle.iss_request.specs.declared.requests.Value.TheVariants.{Nil as Value_nil, Batch as Value_batch}
use Rattle.iss_request.proofs.OneSpelling.{value_grammar, value_related}
use Rattle.iss_request.proofs.ParserLemmas.{byte_again, byte_parts, number_again, number_parts, test_parts, test_passed, wide16, wide64}
use Rattle.iss_sb.proofs.Ascending.{IsText}
use Rattle.iss_sb.proofs.Fields.{good-bad}
use Rattle.pbft_wire.specs.Certificates.{count, fits_count, fits_slot, fits_value, fits_view}

-- ---- numbers

pub view-again : (v : ℕ) (rest : List ℕ) → fits_view v ≡ true → number w16 (to_be_bytes w16 v ++ rest) ≡ Good v rest
view-again v rest h = number_again w16 (2 ^ 16) wide16 v rest (ltb-true v (2 ^ 16) h)

pub view-parts : (bytes rest : List ℕ) (v : ℕ) → number w16 bytes ≡ Good v rest →
    IsText (fits_view v) (to_be_bytes w16 v) bytes rest
view-parts bytes rest v h = let n = number_parts w16 (2 ^ 16) wide16 bytes rest v h in record { parts = n.parts; fits = lt-ltb v (2 ^ 16) n.below }

pub slot-again : (s : ℕ) (rest : List ℕ) → fits_slot s ≡ true → number w64 (to_be_bytes w64 s ++ rest) ≡ Good s rest
slot-again s rest h = number_again w64 (2 ^ 64) wide64 s rest (ltb-true s (2 ^ 64) h)

pub slot-parts : (bytes rest : List ℕ) (s : ℕ) → number w64 bytes ≡ Good s rest →
    IsText (fits_slot s) (to_be_bytes w64 s) bytes rest
slot-parts bytes rest s h = let n = number_parts w64 (2 ^ 64) wide64 bytes rest s h in record { parts = n.parts; fits = lt-ltb s (2 ^ 64) n.below }

-- ---- counts

pub count-again : (n : ℕ) (rest : List ℕ) → fits_count n ≡ true → count (n ∷ rest) ≡ Good n rest
unfolding count
count-again n rest h = test_passed fits_count byte (n ∷ rest) rest n (byte_again n rest) h

pub count-parts : (bytes rest : List ℕ) (n : ℕ) → count bytes ≡ Good n rest → IsText (fits_count n) (n ∷ []) bytes rest
unfolding count
count-parts bytes rest n h =
    let t = test_parts fits_count byte bytes rest n h in
    record { parts = byte_parts bytes rest n t.0; fits = t.1 }

-- ---- values

all-spelled : (b : List Request) → list_all has_spelling b ≡ true → AllByRecursion HasSpelling b
all-spelled [] h = tt
all-spelled (r ∷ rs) h = let t = and-true (has_spelling r) (list_all has_spelling rs) h in (t.0, all-spelled rs t.1)

spelled-all : (b : List Request) → AllByRecursion HasSpelling b → list_all has_spelling b ≡ true
spelled-all [] h = refl
spelled-all (r ∷ rs) h = both (has_spelling r) (list_all has_spelling rs) h.0 (spelled-all rs h.1)

module _ (version : ℕ) where
  abbrev text_of : Value → List ℕ
  text_of Value_nil = 0 ∷ []
  text_of (Value_batch b) = value_bytes version b

  text-spelled : (v : Value) → fits_value version v ≡ true → IsSpelledValue version v (text_of v)
  text-spelled Value_nil h = refl
  text-spelled (Value_batch b) h =
      let t = and-true (nat_le (length b) (requests_most version)) (list_all has_spelling b) h in
      (leb-true (length b) (requests_most version) t.0, all-spelled b t.1, refl)

  pub value-fits : (v : Value) (bytes : List ℕ) → IsSpelledValue version v bytes → fits_value version v ≡ true
  value-fits Value_nil bytes h = refl
  value-fits (Value_batch b) bytes h = both (nat_le (length b) (requests_most version)) (list_all has_spelling b) (le-leb (length b) (requests_most version) h.0) (spelled-all b h.1)

  -- a well-formed value is read from its encoding, and from nothing else
  pub value-again : (v : Value) (rest : List ℕ) → fits_value version v ≡ true →
      parse_value version (spell_value version v ++ rest) ≡ Good v rest
  value-again v rest h =
      let grammar = value_grammar version in
      let read = (value_related version v (text_of v)).1 (text-spelled v h) in
      let alone : parse_value version (spell_value version v ++ []) ≡ Good v [] = ap (parse_value version) (sym (grammar.only _ [] v read)) ∙ read in
      elim (grammar.whole v) [
        | inl again ↦ again rest
        | inr bad ↦ let k = bad [] in absurd (good-bad v [] k.0 (sym alone ∙ k.1))
      ]

  pub value-parts : (bytes rest : List ℕ) (v : Value) → parse_value version bytes ≡ Good v rest →
      IsText (fits_value version v) (spell_value version v) bytes rest
  value-parts bytes rest v h =
      let grammar = value_grammar version in
      let parts = grammar.only bytes rest v h in
      elim (grammar.whole v) [
        | inl again ↦ record { parts = parts; fits = value-fits v (spell_value version v ++ []) ((value_related version v (spell_value version v ++ [])).0 (again [])) }
        | inr bad ↦ let k = bad rest in absurd (good-bad v rest k.0 (sym h ∙ ap (parse_value version) parts ∙ k.1))
      ]

  -- ---- the table of values

  pub value-spelled : (v : Value) → fits_value version v ≡ true → IsSpelledValue version v (spell_value version v)
  value-spelled v h = (value_related version v (spell_value version v)).0 (ap (parse_value version) (sym (append-nil (spell_value version v))) ∙ value-again v [] h)

  pub value-bytes : (v : Value) (bytes : List ℕ) → IsSpelledValue version v bytes → bytes ≡ spell_value version v
  value-bytes v bytes h = (value_grammar version).only bytes [] v ((value_related version v bytes).1 h) ∙ append-nil (spell_value version v)
