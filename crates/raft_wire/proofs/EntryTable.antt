-- Decoding an entry is the relation of its encoding.
use Rattle.std.proofs.Common.{◌≡◌, ℕ, zero, suc, List, [], ◌∷◌, ◌++◌, length, append_assoc, append-nil, refl, sym, ap, ◌∙◌, subst}
use Rattle.std.specs.Int.{to_be_bytes, w16}
use Rattle.std.specs.List.{flat_map}
use Rattle.iss_request.specs.Fields.{Good}
use Rattle.iss_request.specs.Parsing.{Parser, times}
use Rattle.iss_request.proofs.OneSpelling.{done_good, times_parts}
use Rattle.iss_request.proofs.ParserLemmas.{done_parts, then_good, then_parts}
use Rattle.iss_sb.proofs.Contents.{content-grammar, content-read, content-related, content-table}
use Rattle.raft_wire.specs.declared.entries.Entry.{Entry}
use Rattle.iss_sb.specs.Content.{spell_content}
use Rattle.raft_wire.specs.Entries.{AreSpelledEntries, IsSpelledEntry, parse_entry, spell_entry}
use Rattle.raft_wire.proofs.EntryGrammar.{entry-good, entry-grammar, entry-parts}

-- the value is decoded again from the bytes that the relation gives
abbrev pub Again : {A : Type 0} → Parser A → A → List ℕ → Type 0
Again p x front = (rest : List ℕ) → p (front ++ rest) ≡ Good x rest

pub front-whole : {A : Type 0} (p : Parser A) (x : A) (front : List ℕ) → Again p x front → p front ≡ Good x []
front-whole p x front h = ap p (sym (append-nil front)) ∙ h []

module _ (version : ℕ) where
  -- ---- Entries

  entry-table : (e : Entry) (bytes : List ℕ) → IsSpelledEntry version e bytes → Again (parse_entry version) e bytes
  entry-table e bytes h rest =
      let content = content-table version e.what h.behind h.what in
      let flat : bytes ++ rest ≡ to_be_bytes w16 e.term ++ (spell_content version e.what ++ rest) =
      ap (λ (x : List ℕ). x ++ rest) h.row ∙ append_assoc (to_be_bytes w16 e.term) h.behind rest ∙ ap (λ (x : List ℕ). to_be_bytes w16 e.term ++ (x ++ rest)) content.0 in
      ap (parse_entry version) flat ∙ entry-good version e rest h.term (content.1 rest)

  entry-related : (bytes rest : List ℕ) (e : Entry) → parse_entry version bytes ≡ Good e rest → (front : List ℕ) × IsSpelledEntry version e front × (bytes ≡ front ++ rest)
  entry-related bytes rest e h =
      let is = entry-parts version bytes rest e h in
      let again = content-read version e.what is.mid rest is.what in
      let parts = (content-grammar version).only is.mid rest e.what is.what in (
        to_be_bytes w16 e.term ++ spell_content version e.what,
        record { term = is.term; behind = spell_content version e.what; what = content-related version e.what again; row = refl },
        is.parts ∙ ap (λ (x : List ℕ). to_be_bytes w16 e.term ++ x) parts ∙ sym (append_assoc (to_be_bytes w16 e.term) (spell_content version e.what) rest),
      )

  -- ---- Entries in sequence

  pub entries-table : (es : List Entry) (bytes : List ℕ) → AreSpelledEntries version es bytes → Again (times (length es) (parse_entry version)) es bytes
  unfolding times
  entries-table [] bytes h rest = rw h (done_good [] rest)
  entries-table (e ∷ es) bytes h rest =
      let p = parse_entry version in
      let flat : bytes ++ rest ≡ h.0 ++ (h.1 ++ rest) = ap (λ (x : List ℕ). x ++ rest) h.4 ∙ append_assoc h.0 h.1 rest in
      let others = entries-table es h.1 h.3 rest in
      ap (times (suc (length es)) p) flat ∙ then_good _ _ (h.0 ++ (h.1 ++ rest)) (h.1 ++ rest) rest e (e ∷ es) (entry-table e h.0 h.2 (h.1 ++ rest)) (then_good _ _ (h.1 ++ rest) rest rest es (e ∷ es) others (done_good (e ∷ es) rest))

  pub entries-related : (count : ℕ) (bytes rest : List ℕ) (es : List Entry) → times count (parse_entry version) bytes ≡ Good es rest → (front : List ℕ) × AreSpelledEntries version es front × (bytes ≡ front ++ rest)
  unfolding times
  entries-related zero bytes rest es h =
      let ends = done_parts [] es bytes rest h in
      subst (λ (x : List Entry). (front : List ℕ) × AreSpelledEntries version x front × (bytes ≡ front ++ rest)) ends.0 ([], refl, ends.1)
  entries-related (suc count) bytes rest es h =
      let a = then_parts _ _ bytes rest es h in
      let b = then_parts _ _ a.mid rest es a.second in
      let ends = done_parts (a.thing ∷ b.thing) es b.mid rest b.second in
      let first = entry-related bytes a.mid a.thing a.first in
      let others = entries-related count a.mid b.mid b.thing b.first in
      let flat : bytes ≡ (first.0 ++ others.0) ++ rest = first.2 ∙ ap (λ (x : List ℕ). first.0 ++ x) (others.2 ∙ ap (λ (x : List ℕ). others.0 ++ x) ends.1) ∙ sym (append_assoc first.0 others.0 rest) in
      subst (λ (x : List Entry). (front : List ℕ) × AreSpelledEntries version x front × (bytes ≡ front ++ rest)) ends.0 (first.0 ++ others.0, (first.0, others.0, first.1, others.1, refl), flat)

  -- the bytes are the entries' encodings in sequence
  pub entries-bytes : (es : List Entry) (bytes : List ℕ) → AreSpelledEntries version es bytes → bytes ≡ flat_map (spell_entry version) es
  entries-bytes es bytes h =
      let row = times_parts (spell_entry version) (parse_entry version) (entry-grammar version) (length es) bytes [] es (front-whole (times (length es) (parse_entry version)) es bytes (entries-table es bytes h)) in
      row.parts ∙ append-nil (flat_map (spell_entry version) es)
