-- In each version an entry has at most one encoding.
use Rattle.std.proofs.Common.{◌≡◌, ℕ, ◌^◌, ◌<◌, Bool, true, false, List, ◌∷◌, ◌++◌, append_assoc, refl, sym, ap, ◌∙◌, subst, inl, inr, arith}
use Rattle.std.specs.Prelude.{nat_lt}
use Rattle.std.specs.Int.{to_be_bytes, w16}
use Rattle.std.proofs.lemmas.Bool.{lt-ltb, ltb-true}
use Rattle.iss_request.specs.Fields.{Good, IsBad, IsGrammar}
use Rattle.iss_request.specs.Parsing.{Parser, ◌>>=◌, done, number}
use Rattle.iss_request.proofs.OneSpelling.{Whole, done_good}
use Rattle.iss_request.proofs.ParserLemmas.{done_parts, first_bad, number_again, number_parts, then_bad, then_good, then_parts, wide16}
use Rattle.iss_sb.proofs.Contents.{bad-by, content-grammar, content-whole, no-content}
use Rattle.raft_wire.specs.declared.entries.Entry.{Entry}
use Rattle.iss_sb.specs.declared.content.Content.{Content}
use Rattle.iss_sb.specs.Content.{parse_content, spell_content}
use Rattle.raft_wire.specs.Entries.{no_entry, parse_entry, spell_entry}

module _ (version : ℕ) where
  -- ---- Entries

  abbrev made-entry : ℕ → Content → Parser Entry
  made-entry term what = done (record { term = term; what = what })

  abbrev after_term : ℕ → Parser Entry
  after_term term = (parse_content version) >>= made-entry term

  parse_entry-is : (parse_entry version) ≡ (number w16 >>= after_term)
  unfolding parse_entry
  parse_entry-is = refl

  spelled-entry : (e : Entry) → nat_lt e.term (2 ^ 16) ≡ true → spell_entry version e ≡ to_be_bytes w16 e.term ++ spell_content version e.what
  spelled-entry e h = rw h refl

  unspelled-entry : (e : Entry) → nat_lt e.term (2 ^ 16) ≡ false → spell_entry version e ≡ no_entry
  unspelled-entry e h = rw h refl

  -- a decoded entry: its term and the rest
  pub record IsEntry (bytes rest : List ℕ) (e : Entry) : Type 0 where
    pub mid : List ℕ
    pub term : e.term < 2 ^ 16
    pub parts : bytes ≡ to_be_bytes w16 e.term ++ mid
    pub what : parse_content version mid ≡ Good e.what rest

  pub entry-parts : (bytes rest : List ℕ) (e : Entry) → parse_entry version bytes ≡ Good e rest → IsEntry bytes rest e
  entry-parts bytes rest e h =
      let a = then_parts (number w16) after_term bytes rest e (rw parse_entry-is at h) in
      let b = then_parts (parse_content version) (made-entry a.thing) a.mid rest e a.second in
      let made : Entry = record { term = a.thing; what = b.thing } in
      let d = done_parts made e b.mid rest b.second in
      let term = number_parts w16 (2 ^ 16) wide16 bytes a.mid a.thing a.first in
      let what : parse_content version a.mid ≡ Good b.thing rest = subst (λ (x : List ℕ). parse_content version a.mid ≡ Good b.thing x) d.1 b.first in
      subst (λ (z : Entry). IsEntry bytes rest z) d.0 (record { mid = a.mid; term = term.below; parts = term.parts; what = what })

  entry-only : (bytes rest : List ℕ) (e : Entry) → parse_entry version bytes ≡ Good e rest → bytes ≡ spell_entry version e ++ rest
  entry-only bytes rest e h =
      let is = entry-parts bytes rest e h in
      let flat : bytes ≡ (to_be_bytes w16 e.term ++ spell_content version e.what) ++ rest =
      is.parts ∙ ap (λ (x : List ℕ). to_be_bytes w16 e.term ++ x) ((content-grammar version).only is.mid rest e.what is.what) ∙ sym (append_assoc (to_be_bytes w16 e.term) (spell_content version e.what) rest) in
      flat ∙ ap (λ (x : List ℕ). x ++ rest) (sym (spelled-entry e (lt-ltb e.term (2 ^ 16) is.term)))

  pub entry-good : (e : Entry) (rest : List ℕ) → e.term < 2 ^ 16 → (parse_content version) (spell_content version e.what ++ rest) ≡ Good e.what rest → (parse_entry version) (to_be_bytes w16 e.term ++ (spell_content version e.what ++ rest)) ≡ Good e rest
  entry-good e rest lt h =
      let text : List ℕ = spell_content version e.what ++ rest in
      rw parse_entry-is (then_good (number w16) after_term (to_be_bytes w16 e.term ++ text) text rest e.term e (number_again w16 (2 ^ 16) wide16 e.term text lt)
      (then_good (parse_content version) (made-entry e.term) text rest rest e.what e h (done_good e rest)))

  entry-bad : (term : ℕ) (text : List ℕ) → term < 2 ^ 16 → IsBad ((parse_content version) text) → IsBad ((parse_entry version) (to_be_bytes w16 term ++ text))
  entry-bad term text lt h =
      bad-by _ _ (to_be_bytes w16 term ++ text) _ parse_entry-is (then_bad (number w16) after_term (to_be_bytes w16 term ++ text) text term h.0 (number_again w16 (2 ^ 16) wide16 term text lt)
      (first_bad (parse_content version) (made-entry term) text h.0 h.1))

  entry-whole : (e : Entry) → Whole (spell_entry version e) (parse_entry version) e
  entry-whole e = go (nat_lt e.term (2 ^ 16)) refl (content-whole version e.what)
    where
      split : (rest : List ℕ) → nat_lt e.term (2 ^ 16) ≡ true → spell_entry version e ++ rest ≡ to_be_bytes w16 e.term ++ (spell_content version e.what ++ rest)
      split rest q = ap (λ (x : List ℕ). x ++ rest) (spelled-entry e q) ∙ append_assoc (to_be_bytes w16 e.term) (spell_content version e.what) rest

      go : (t : Bool) → nat_lt e.term (2 ^ 16) ≡ t → Whole (spell_content version e.what) (parse_content version) e.what → Whole (spell_entry version e) (parse_entry version) e
      go true q (inl good) = inl (λ rest. rw (split rest q) (entry-good e rest (ltb-true e.term (2 ^ 16) q) (good rest)))
      go true q (inr bad) = inr (λ rest. subst (λ (x : List ℕ). IsBad ((parse_entry version) x)) (sym (split rest q)) (entry-bad e.term (spell_content version e.what ++ rest) (ltb-true e.term (2 ^ 16) q) (bad rest)))
      go false q h = inr (λ rest. subst (λ (x : List ℕ). IsBad ((parse_entry version) (x ++ rest))) (sym (unspelled-entry e q)) (entry-bad 0 (255 ∷ rest) (omega arith) (no-content version rest)))

  pub entry-grammar : IsGrammar (spell_entry version) (parse_entry version)
  entry-grammar = record { only = entry-only; whole = entry-whole }
