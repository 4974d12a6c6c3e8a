-- In each version a content has at most one encoding, which is that of the table.
use Rattle.std.proofs.Common.{◌≡◌, ℕ, zero, suc, ◌≤◌, ◌==◌, Bool, true, false, List, [], ◌∷◌, ◌++◌, append-nil, refl, sym, ap, ◌∙◌, subst, inl, inr, true≢false, arith}
use Rattle.std.proofs.lemmas.Bool.{leb-true}
use Rattle.iss_base.proofs.Lists.{is-eq}
use Rattle.iss_request.specs.Fields.{Good, Bad, IsBad, IsGrammar, IsReadAgain}
use Rattle.iss_request.specs.Formats.{batch_of, is_batch, parse_value, spell_value}
use Rattle.iss_request.specs.Parsing.{Parser, ◌>>=◌, byte, done, such_that}
use Rattle.iss_request.specs.declared.requests.Batch.{Batch}
use Rattle.iss_request.specs.declared.requests.Value.{Value}
use Rattle.iss_request.specs.declared.requests.Value.TheVariants.{Nil as Value_nil, Batch as Value_batch}
use Rattle.iss_request.proofs.OneSpelling.{Whole, done_good, value_grammar, value_related}
use Rattle.iss_request.proofs.ParserLemmas.{byte_again, byte_parts, done_parts, first_bad, test_bad, test_failed, test_parts, test_passed, then_bad, then_good, then_parts}
use Rattle.iss_sb.specs.Content.{IsSpelledContent, content_of, is_kind, parse_batch_content, parse_content, spell_content}
use Rattle.iss_sb.specs.declared.content.Content.{Content}
use Rattle.iss_sb.specs.declared.content.Content.TheVariants.{Nil, Holds, Mark}
use Rattle.iss_sb.proofs.Fields.{good-bad}
use Rattle.iss_sb.proofs.Read.{read-again}

-- two equal parsers give equal errors
pub bad-by : {A : Type 0} (p q : Parser A) (bytes : List ℕ) (at : ℕ) → p ≡ q → q bytes ≡ Bad at → IsBad (p bytes)
bad-by p q bytes at e h = (at, rw e h)

module _ (version : ℕ) where
  parse_content-is : parse_content version ≡ (such_that is_kind byte >>= content_of version)
  unfolding parse_content
  parse_content-is = refl

  abbrev made : Value → Parser Content
  made value = done (Holds (batch_of value))

  parse_batch_content-is : parse_batch_content version ≡ (such_that is_batch (parse_value version) >>= made)
  unfolding parse_batch_content
  parse_batch_content-is = refl

  -- ---- what decodes was encoded so

  value-is : (v : Value) → is_batch v ≡ true → v ≡ Value_batch (batch_of v)
  value-is Value_nil h = absurd (true≢false (sym h))
  value-is (Value_batch b) h = refl

  batch-only : (bytes rest : List ℕ) (c : Content) → parse_batch_content version bytes ≡ Good c rest → 1 ∷ bytes ≡ spell_content version c ++ rest
  batch-only bytes rest c h =
      let a = then_parts (such_that is_batch (parse_value version)) made bytes rest c (rw parse_batch_content-is at h) in
      let d = done_parts (Holds (batch_of a.thing)) c a.mid rest a.second in
      let value = test_parts is_batch (parse_value version) bytes a.mid a.thing a.first in
      let read : bytes ≡ spell_value version a.thing ++ a.mid = (value_grammar version).only bytes a.mid a.thing value.0 in
      subst (λ (x : Content). 1 ∷ bytes ≡ spell_content version x ++ rest) d.0
      (ap (λ (x : List ℕ). 1 ∷ x) (read ∙ ap (λ (v : Value). spell_value version v ++ a.mid) (value-is a.thing value.1) ∙ ap (λ (x : List ℕ). spell_value version (Value_batch (batch_of a.thing)) ++ x) d.1))

  two-is : (n : ℕ) → is_kind n ≡ true → (n == 0) ≡ false → (n == 1) ≡ false → n ≡ 2
  two-is zero h k l = absurd (true≢false k)
  two-is (suc zero) h k l = absurd (true≢false l)
  two-is (suc (suc zero)) h k l = refl
  two-is (suc (suc (suc n))) h k l = let le : suc (suc (suc n)) ≤ 2 = leb-true (suc (suc (suc n))) 2 h in absurd (omega arith)

  content-only : (bytes rest : List ℕ) (c : Content) → parse_content version bytes ≡ Good c rest → bytes ≡ spell_content version c ++ rest
  content-only bytes rest c h =
      let a = then_parts (such_that is_kind byte) (content_of version) bytes rest c (rw parse_content-is at h) in
      let first = test_parts is_kind byte bytes a.mid a.thing a.first in
      byte_parts bytes a.mid a.thing first.0 ∙ go (a.thing == 0) (a.thing == 1) a.thing a.mid refl refl first.1 a.second
    where
      go : (t u : Bool) (n : ℕ) (mid : List ℕ) → (n == 0) ≡ t → (n == 1) ≡ u → is_kind n ≡ true → content_of version n mid ≡ Good c rest → n ∷ mid ≡ spell_content version c ++ rest
      go true u n mid q s k r =
          let zero-is : n ≡ 0 = is-eq n 0 q in
          let read : done Nil mid ≡ Good c rest = rw q at r in
          let d = done_parts Nil c mid rest read in
          ap (λ (x : ℕ). x ∷ mid) zero-is ∙ subst (λ (x : Content). 0 ∷ mid ≡ spell_content version x ++ rest) d.0 (ap (λ (x : List ℕ). 0 ∷ x) d.1)
      go false true n mid q s k r =
          let one : n ≡ 1 = is-eq n 1 s in
          let read : parse_batch_content version mid ≡ Good c rest = rw (q, s) at r in
          ap (λ (x : ℕ). x ∷ mid) one ∙ batch-only mid rest c read
      go false false n mid q s k r =
          let two : n ≡ 2 = two-is n k q s in
          let read : done Mark mid ≡ Good c rest = rw (q, s) at r in
          let d = done_parts Mark c mid rest read in
          ap (λ (x : ℕ). x ∷ mid) two ∙ subst (λ (x : Content). 2 ∷ mid ≡ spell_content version x ++ rest) d.0 (ap (λ (x : List ℕ). 2 ∷ x) d.1)

  -- ---- what is encoded decodes

  kind-is : (n : ℕ) (text : List ℕ) → is_kind n ≡ true → such_that is_kind byte (n ∷ text) ≡ Good n text
  kind-is n text h = test_passed is_kind byte (n ∷ text) text n (byte_again n text) h

  kind-good : (n : ℕ) (text rest : List ℕ) (c : Content) → is_kind n ≡ true → content_of version n text ≡ Good c rest → parse_content version (n ∷ text) ≡ Good c rest
  kind-good n text rest c h k = rw parse_content-is (then_good (such_that is_kind byte) (content_of version) (n ∷ text) text rest n c (kind-is n text h) k)

  kind-bad : (n : ℕ) (text : List ℕ) → is_kind n ≡ true → IsBad (content_of version n text) → IsBad (parse_content version (n ∷ text))
  kind-bad n text h k = bad-by _ _ (n ∷ text) _ parse_content-is (then_bad (such_that is_kind byte) (content_of version) (n ∷ text) text n k.0 (kind-is n text h) k.1)

  -- a content with a batch decodes exactly if the batch's value does
  holds-again : (b : Batch) (text rest : List ℕ) → parse_value version text ≡ Good (Value_batch b) rest → parse_content version (1 ∷ text) ≡ Good (Holds b) rest
  holds-again b text rest good =
      let read = then_good (such_that is_batch (parse_value version)) made text rest rest (Value_batch b) (Holds b) (test_passed is_batch (parse_value version) text rest (Value_batch b) good refl) (done_good (Holds b) rest) in
      let batch : parse_batch_content version text ≡ Good (Holds b) rest = rw parse_batch_content-is read in
      kind-good 1 text rest (Holds b) refl batch

  holds-bad : (text : List ℕ) → IsBad (parse_value version text) → IsBad (parse_content version (1 ∷ text))
  holds-bad text none =
      let read = first_bad (such_that is_batch (parse_value version)) made text none.0 (test_bad is_batch (parse_value version) text none.0 none.1) in
      let batch : parse_batch_content version text ≡ Bad none.0 = rw parse_batch_content-is read in
      kind-bad 1 text refl (none.0, batch)

  -- 255 is no kind
  pub no-content : (rest : List ℕ) → IsBad (parse_content version (255 ∷ rest))
  no-content rest = bad-by _ _ (255 ∷ rest) 0 parse_content-is (first_bad (such_that is_kind byte) (content_of version) (255 ∷ rest) 0 (test_failed is_kind byte (255 ∷ rest) rest 255 (byte_again 255 rest) refl))

  pub content-whole : (c : Content) → Whole (spell_content version c) (parse_content version) c
  content-whole Nil = inl (λ rest. kind-good 0 rest rest Nil refl (done_good Nil rest))
  content-whole Mark = inl (λ rest. kind-good 2 rest rest Mark refl (done_good Mark rest))
  content-whole (Holds b) = elim ((value_grammar version).whole (Value_batch b)) [
    | inl good ↦ inl (λ rest. holds-again b (spell_value version (Value_batch b) ++ rest) rest (good rest))
    | inr bad ↦ inr (λ rest. holds-bad (spell_value version (Value_batch b) ++ rest) (bad rest))
  ]

  pub content-grammar : IsGrammar (spell_content version) (parse_content version)
  content-grammar = record { only = content-only; whole = content-whole }

  -- a content with a batch has an encoding if the batch's value has
  pub holds-value : (b : Batch) → IsReadAgain (spell_content version) (parse_content version) (Holds b) → IsReadAgain (spell_value version) (parse_value version) (Value_batch b)
  holds-value b h = elim ((value_grammar version).whole (Value_batch b)) [
    | inl good ↦ good
    | inr bad ↦ let k = holds-bad (spell_value version (Value_batch b) ++ []) (bad []) in absurd (good-bad (Holds b) [] k.0 (sym (h []) ∙ k.1))
  ]

  pub content-read : (c : Content) (bytes rest : List ℕ) → parse_content version bytes ≡ Good c rest → IsReadAgain (spell_content version) (parse_content version) c
  content-read c bytes rest h = read-again (spell_content version) (parse_content version) content-grammar bytes rest c h

  -- ---- the table

  value-row : (b : Batch) → IsReadAgain (spell_value version) (parse_value version) (Value_batch b) → IsSpelledContent version (Holds b) (spell_content version (Holds b))
  value-row b h =
      let value = spell_value version (Value_batch b) in
      (value, (value_related version (Value_batch b) value).0 (ap (parse_value version) (sym (append-nil value)) ∙ h []), refl)

  pub content-related : (c : Content) → IsReadAgain (spell_content version) (parse_content version) c → IsSpelledContent version c (spell_content version c)
  content-related Nil h = refl
  content-related Mark h = refl
  content-related (Holds b) h = value-row b (holds-value b h)

  -- what the table relates is the encoding, and decodes again
  pub content-table : (c : Content) (bytes : List ℕ) → IsSpelledContent version c bytes → (bytes ≡ spell_content version c) × IsReadAgain (spell_content version) (parse_content version) c
  content-table Nil bytes h = (h, λ rest. kind-good 0 rest rest Nil refl (done_good Nil rest))
  content-table Mark bytes h = (h, λ rest. kind-good 2 rest rest Mark refl (done_good Mark rest))
  content-table (Holds b) bytes h =
      let value = (value_related version (Value_batch b) h.0).1 h.1 in
      let spelled : h.0 ≡ spell_value version (Value_batch b) = (value_grammar version).only h.0 [] (Value_batch b) value ∙ append-nil (spell_value version (Value_batch b)) in
      let again = read-again (spell_value version) (parse_value version) (value_grammar version) h.0 [] (Value_batch b) value in
      (h.2 ∙ ap (λ (x : List ℕ). 1 ∷ x) spelled, λ rest. holds-again b (spell_value version (Value_batch b) ++ rest) rest (again rest))

  -- a row of the table with a batch is one of a batch with an encoding
  pub table-batch : (b : Batch) (bytes : List ℕ) → IsSpelledContent version (Holds b) bytes → IsReadAgain (spell_value version) (parse_value version) (Value_batch b)
  table-batch b bytes h = holds-value b (content-table (Holds b) bytes h).1

  -- nil has an encoding
  pub nil-value : IsReadAgain (spell_value version) (parse_value version) Value_nil
  nil-value = read-again (spell_value version) (parse_value version) (value_grammar version) (0 ∷ []) [] Value_nil ((value_related version Value_nil (0 ∷ [])).1 refl)

  -- a batch with an encoding has a row in the table
  pub batch-table : (b : Batch) → IsReadAgain (spell_value version) (parse_value version) (Value_batch b) → (bytes : List ℕ) × IsSpelledContent version (Holds b) bytes
  batch-table b h = (spell_content version (Holds b), value-row b h)
