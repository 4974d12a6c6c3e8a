-- In each version a message has at most one encoding.
use Rattle.std.proofs.Common.{◌≡◌, ℕ, ◌^◌, ◌<◌, ◌≤◌, ◌==◌, ◌&&◌, Bool, true, false, zero, suc, List, [], ◌∷◌, ◌++◌, length, append_assoc, append-nil, refl, sym, ap, ◌∙◌, subst, inl, inr, true≢false, arith}
use Rattle.std.specs.Prelude.{◌↔◌, nat_le}
use Rattle.std.specs.List.{flat_map}
use Rattle.std.specs.Int.{Width, to_be_bytes, w16, w32}
use Rattle.std.proofs.lemmas.Bool.{leb-true, lt-ltb, ltb-true}
use Rattle.iss_base.proofs.Lists.{and-true, both}
use Rattle.iss_request.specs.Fields.{Good, IsBad, IsGrammar}
use Rattle.iss_request.specs.Parsing.{Parser, ◌>>=◌, byte, done, number, such_that, times}
use Rattle.iss_request.proofs.OneSpelling.{Whole, done_good, times_parts, times_whole}
use Rattle.iss_request.proofs.ParserLemmas.{IsWide, byte_again, byte_parts, done_parts, first_bad, number_again, number_parts, test_failed, test_parts, test_passed, then_bad, then_good, then_parts, wide16, wide32}
use Rattle.iss_sb.proofs.Contents.{bad-by}
use Rattle.raft_wire.specs.declared.entries.Entry.{Entry}
use Rattle.raft_wire.specs.declared.messages.Message.{Message}
use Rattle.raft_wire.specs.declared.messages.Message.TheVariants.{Append, Reply, AskVote, Vote}
use Rattle.raft_wire.specs.Entries.{parse_entry, spell_entry}
use Rattle.raft_wire.specs.Messages.{IsSpelledMessage, append_row, ask_row, fields_of, fits_append, flag, is_index, is_known, is_term, parse, parse_append, parse_ask, parse_flag, parse_reply, parse_vote, reply_row, spell, vote_row}
use Rattle.raft_wire.proofs.EntryGrammar.{entry-grammar}
use Rattle.raft_wire.proofs.EntryTable.{entries-bytes, entries-related, entries-table}

-- ---- A number and the rest of the bytes

field-good : {A : Type 0} (w : Width) (limit : ℕ) (wide : IsWide w limit) (q : ℕ → Parser A) (n : ℕ) (text rest : List ℕ) (x : A) → n < limit → q n text ≡ Good x rest → (number w >>= q) (to_be_bytes w n ++ text) ≡ Good x rest
field-good w limit wide q n text rest x lt h = then_good (number w) q (to_be_bytes w n ++ text) text rest n x (number_again w limit wide n text lt) h

field-bad : {A : Type 0} (w : Width) (limit : ℕ) (wide : IsWide w limit) (q : ℕ → Parser A) (n : ℕ) (text : List ℕ) → n < limit → IsBad (q n text) → IsBad ((number w >>= q) (to_be_bytes w n ++ text))
field-bad w limit wide q n text lt h = (_, then_bad (number w) q (to_be_bytes w n ++ text) text n h.0 (number_again w limit wide n text lt) h.1)

record IsField {A : Type 0} (w : Width) (limit : ℕ) (q : ℕ → Parser A) (bytes rest : List ℕ) (x : A) : Type 0 where
  pub n : ℕ
  pub mid : List ℕ
  pub below : n < limit
  pub parts : bytes ≡ to_be_bytes w n ++ mid
  pub behind : q n mid ≡ Good x rest

field-parts : {A : Type 0} (w : Width) (limit : ℕ) (wide : IsWide w limit) (q : ℕ → Parser A) (bytes rest : List ℕ) (x : A) → (number w >>= q) bytes ≡ Good x rest → IsField w limit q bytes rest x
field-parts w limit wide q bytes rest x h =
    let a = then_parts (number w) q bytes rest x h in
    let d = number_parts w limit wide bytes a.mid a.thing a.first in
    record { n = a.thing; mid = a.mid; below = d.below; parts = d.parts; behind = a.second }

-- ---- Flags

abbrev to_one : ℕ → Bool
to_one n = nat_le n 1

abbrev made-flag : ℕ → Parser Bool
made-flag n = done (n == 1)

parse_flag-is : parse_flag ≡ (such_that to_one byte >>= made-flag)
unfolding parse_flag
parse_flag-is = refl

flag-good : (b : Bool) (text : List ℕ) → parse_flag (flag b ∷ text) ≡ Good b text
flag-good true text = rw parse_flag-is (then_good (such_that to_one byte) made-flag (1 ∷ text) text text 1 true (test_passed to_one byte (1 ∷ text) text 1 (byte_again 1 text) refl) (done_good true text))
flag-good false text = rw parse_flag-is (then_good (such_that to_one byte) made-flag (0 ∷ text) text text 0 false (test_passed to_one byte (0 ∷ text) text 0 (byte_again 0 text) refl) (done_good false text))

flag-is : (n : ℕ) → to_one n ≡ true → n ≡ flag (n == 1)
flag-is zero h = refl
flag-is (suc zero) h = refl
flag-is (suc (suc n)) h = let le : suc (suc n) ≤ 1 = leb-true (suc (suc n)) 1 h in absurd (omega arith)

flag-parts : (bytes rest : List ℕ) (b : Bool) → parse_flag bytes ≡ Good b rest → bytes ≡ flag b ∷ rest
flag-parts bytes rest b h =
    let a = then_parts (such_that to_one byte) made-flag bytes rest b (rw parse_flag-is at h) in
    let d = done_parts (a.thing == 1) b a.mid rest a.second in
    let t = test_parts to_one byte bytes a.mid a.thing a.first in
    byte_parts bytes a.mid a.thing t.0 ∙ ap (λ (n : ℕ). n ∷ a.mid) (flag-is a.thing t.1 ∙ ap flag d.0) ∙ ap (λ (x : List ℕ). flag b ∷ x) d.1

module _ (version : ℕ) where
  -- ---- The parsers, field by field

  abbrev append6 : ℕ → ℕ → ℕ → ℕ → List Entry → Parser Message
  append6 t p pt c es = done (Append t p pt c es)

  abbrev append5 : ℕ → ℕ → ℕ → ℕ → ℕ → Parser Message
  append5 t p pt c n = times n (parse_entry version) >>= append6 t p pt c

  abbrev append4 : ℕ → ℕ → ℕ → ℕ → Parser Message
  append4 t p pt c = number w32 >>= append5 t p pt c

  abbrev append3 : ℕ → ℕ → ℕ → Parser Message
  append3 t p pt = number w32 >>= append4 t p pt

  abbrev append2 : ℕ → ℕ → Parser Message
  append2 t p = number w16 >>= append3 t p

  abbrev append1 : ℕ → Parser Message
  append1 t = number w32 >>= append2 t

  parse_append-is : (parse_append version) ≡ (number w16 >>= append1)
  unfolding parse_append
  parse_append-is = refl

  abbrev reply3 : ℕ → Bool → ℕ → Parser Message
  reply3 t ok i = done (Reply t ok i)

  abbrev reply2 : ℕ → Bool → Parser Message
  reply2 t ok = number w32 >>= reply3 t ok

  abbrev reply1 : ℕ → Parser Message
  reply1 t = parse_flag >>= reply2 t

  parse_reply-is : parse_reply ≡ (number w16 >>= reply1)
  unfolding parse_reply
  parse_reply-is = refl

  abbrev ask3 : ℕ → ℕ → ℕ → Parser Message
  ask3 t l lt = done (AskVote t l lt)

  abbrev ask2 : ℕ → ℕ → Parser Message
  ask2 t l = number w16 >>= ask3 t l

  abbrev ask1 : ℕ → Parser Message
  ask1 t = number w32 >>= ask2 t

  parse_ask-is : parse_ask ≡ (number w16 >>= ask1)
  unfolding parse_ask
  parse_ask-is = refl

  abbrev vote2 : ℕ → Bool → Parser Message
  vote2 t g = done (Vote t g)

  abbrev vote1 : ℕ → Parser Message
  vote1 t = parse_flag >>= vote2 t

  parse_vote-is : parse_vote ≡ (number w16 >>= vote1)
  unfolding parse_vote
  parse_vote-is = refl

  parse-is : (parse version) ≡ (such_that is_known byte >>= fields_of version)
  unfolding parse
  parse-is = refl

  -- ---- Encodings

  is16 : (n : ℕ) → n < 2 ^ 16 → is_term n ≡ true
  is16 n h = lt-ltb n (2 ^ 16) h

  is32 : (n : ℕ) → n < 2 ^ 32 → is_index n ≡ true
  is32 n h = lt-ltb n (2 ^ 32) h

  regroup6 : (n : ℕ) (a b c d e g rest : List ℕ) → (n ∷ a ++ b ++ c ++ d ++ e ++ g) ++ rest ≡ n ∷ (a ++ (b ++ (c ++ (d ++ (e ++ (g ++ rest))))))
  regroup6 n a b c d e g rest = simp append_assoc

  regroup3 : (n : ℕ) (a b c rest : List ℕ) → (n ∷ a ++ b ++ c) ++ rest ≡ n ∷ (a ++ (b ++ (c ++ rest)))
  regroup3 n a b c rest = simp append_assoc

  regroup-flag : (n k : ℕ) (a b rest : List ℕ) → (n ∷ a ++ k ∷ b) ++ rest ≡ n ∷ (a ++ (k ∷ (b ++ rest)))
  regroup-flag n k a b rest = simp append_assoc

  append-flat : (t p pt c n : ℕ) (es rest : List ℕ) → append_row t p pt c n es ++ rest ≡ 1 ∷ (to_be_bytes w16 t ++ (to_be_bytes w32 p ++ (to_be_bytes w16 pt ++ (to_be_bytes w32 c ++ (to_be_bytes w32 n ++ (es ++ rest))))))
  append-flat t p pt c n es rest = regroup6 1 (to_be_bytes w16 t) (to_be_bytes w32 p) (to_be_bytes w16 pt) (to_be_bytes w32 c) (to_be_bytes w32 n) es rest

  reply-flat : (t : ℕ) (ok : Bool) (i : ℕ) (rest : List ℕ) → reply_row t ok i ++ rest ≡ 2 ∷ (to_be_bytes w16 t ++ (flag ok ∷ (to_be_bytes w32 i ++ rest)))
  reply-flat t ok i rest = regroup-flag 2 (flag ok) (to_be_bytes w16 t) (to_be_bytes w32 i) rest

  ask-flat : (t l lt : ℕ) (rest : List ℕ) → ask_row t l lt ++ rest ≡ 3 ∷ (to_be_bytes w16 t ++ (to_be_bytes w32 l ++ (to_be_bytes w16 lt ++ rest)))
  ask-flat t l lt rest = regroup3 3 (to_be_bytes w16 t) (to_be_bytes w32 l) (to_be_bytes w16 lt) rest

  vote-flat : (t : ℕ) (g : Bool) (rest : List ℕ) → vote_row t g ++ rest ≡ 4 ∷ (to_be_bytes w16 t ++ (flag g ∷ rest))
  vote-flat t g rest = regroup-flag 4 (flag g) (to_be_bytes w16 t) [] rest

  -- the bytes that the relation gives are the encoding
  spelled-is : (msg : Message) (front : List ℕ) → IsSpelledMessage version msg front → front ≡ spell version msg
  spelled-is (Append t p pt c es) front h =
      let fits = both _ _ (both _ _ (is16 t h.term_fits) (is32 p h.previous_fits)) (both _ _ (is16 pt h.previous_term_fits) (both _ _ (is32 c h.commit_fits) (is32 (length es) h.count_fits))) in
      let row : front ≡ append_row t p pt c (length es) (flat_map (spell_entry version) es) = h.row ∙ ap (λ (x : List ℕ). append_row t p pt c (length es) x) (entries-bytes version es h.entries h.spelled) in
      rw fits row
  spelled-is (Reply t ok i) front h = rw (both _ _ (is16 t h.0) (is32 i h.1)) h.2
  spelled-is (AskVote t l lt) front h = rw (both _ _ (is16 t h.0) (both _ _ (is32 l h.1) (is16 lt h.2))) h.3
  spelled-is (Vote t g) front h = rw (is16 t h.0) h.1

  -- ---- What is decoded is in the relation

  record IsRow (msg : Message) (bytes rest : List ℕ) : Type 0 where
    front : List ℕ
    spelled : IsSpelledMessage version msg front
    parts : bytes ≡ front ++ rest

  append-parts : (bytes rest : List ℕ) (msg : Message) → parse_append version bytes ≡ Good msg rest → IsRow msg (1 ∷ bytes) rest
  append-parts bytes rest msg h =
      let a = field-parts w16 (2 ^ 16) wide16 append1 bytes rest msg (rw parse_append-is at h) in
      let b = field-parts w32 (2 ^ 32) wide32 (append2 a.n) a.mid rest msg a.behind in
      let c = field-parts w16 (2 ^ 16) wide16 (append3 a.n b.n) b.mid rest msg b.behind in
      let d = field-parts w32 (2 ^ 32) wide32 (append4 a.n b.n c.n) c.mid rest msg c.behind in
      let e = field-parts w32 (2 ^ 32) wide32 (append5 a.n b.n c.n d.n) d.mid rest msg d.behind in
      let g = then_parts (times e.n (parse_entry version)) (append6 a.n b.n c.n d.n) e.mid rest msg e.behind in
      let ends = done_parts (Append a.n b.n c.n d.n g.thing) msg g.mid rest g.second in
      let count = (times_parts (spell_entry version) (parse_entry version) (entry-grammar version) e.n e.mid g.mid g.thing g.first).count_is in
      let row = entries-related version e.n e.mid g.mid g.thing g.first in
      let behind : e.mid ≡ row.0 ++ rest = row.2 ∙ ap (λ (x : List ℕ). row.0 ++ x) ends.1 in
      let counted : to_be_bytes w32 e.n ++ e.mid ≡ to_be_bytes w32 (length g.thing) ++ (row.0 ++ rest) = ap (λ (z : ℕ). to_be_bytes w32 z ++ e.mid) (sym count) ∙ ap (λ (x : List ℕ). to_be_bytes w32 (length g.thing) ++ x) behind in
      let flat : 1 ∷ bytes ≡ 1 ∷ (to_be_bytes w16 a.n ++ (to_be_bytes w32 b.n ++ (to_be_bytes w16 c.n ++ (to_be_bytes w32 d.n ++ (to_be_bytes w32 (length g.thing) ++ (row.0 ++ rest)))))) =
      ap (λ (x : List ℕ). 1 ∷ x) (a.parts ∙ ap (λ (x : List ℕ). to_be_bytes w16 a.n ++ x) (b.parts ∙ ap (λ (x : List ℕ). to_be_bytes w32 b.n ++ x) (c.parts ∙ ap (λ (x : List ℕ). to_be_bytes w16 c.n ++ x) (d.parts ∙ ap (λ (x : List ℕ). to_be_bytes w32 d.n ++ x) (e.parts ∙ counted))))) in
      subst (λ (m : Message). IsRow m (1 ∷ bytes) rest) ends.0 (record {
        front = append_row a.n b.n c.n d.n (length g.thing) row.0;
        spelled = record {
          term_fits = a.below;
          previous_fits = b.below;
          previous_term_fits = c.below;
          commit_fits = d.below;
          count_fits = subst (λ (z : ℕ). z < 2 ^ 32) (sym count) e.below;
          entries = row.0;
          spelled = row.1;
          row = refl;
        };
        parts = flat ∙ sym (append-flat a.n b.n c.n d.n (length g.thing) row.0 rest);
      })

  reply-parts : (bytes rest : List ℕ) (msg : Message) → parse_reply bytes ≡ Good msg rest → IsRow msg (2 ∷ bytes) rest
  reply-parts bytes rest msg h =
      let a = field-parts w16 (2 ^ 16) wide16 reply1 bytes rest msg (rw parse_reply-is at h) in
      let b = then_parts parse_flag (reply2 a.n) a.mid rest msg a.behind in
      let c = field-parts w32 (2 ^ 32) wide32 (reply3 a.n b.thing) b.mid rest msg b.second in
      let ends = done_parts (Reply a.n b.thing c.n) msg c.mid rest c.behind in
      let flat : 2 ∷ bytes ≡ 2 ∷ (to_be_bytes w16 a.n ++ (flag b.thing ∷ (to_be_bytes w32 c.n ++ rest))) =
      ap (λ (x : List ℕ). 2 ∷ x) (a.parts ∙ ap (λ (x : List ℕ). to_be_bytes w16 a.n ++ x) (flag-parts a.mid b.mid b.thing b.first ∙ ap (λ (x : List ℕ). flag b.thing ∷ x) (c.parts ∙ ap (λ (x : List ℕ). to_be_bytes w32 c.n ++ x) ends.1))) in
      subst (λ (m : Message). IsRow m (2 ∷ bytes) rest) ends.0 (record { front = reply_row a.n b.thing c.n; spelled = (a.below, c.below, refl); parts = flat ∙ sym (reply-flat a.n b.thing c.n rest) })

  ask-parts : (bytes rest : List ℕ) (msg : Message) → parse_ask bytes ≡ Good msg rest → IsRow msg (3 ∷ bytes) rest
  ask-parts bytes rest msg h =
      let a = field-parts w16 (2 ^ 16) wide16 ask1 bytes rest msg (rw parse_ask-is at h) in
      let b = field-parts w32 (2 ^ 32) wide32 (ask2 a.n) a.mid rest msg a.behind in
      let c = field-parts w16 (2 ^ 16) wide16 (ask3 a.n b.n) b.mid rest msg b.behind in
      let ends = done_parts (AskVote a.n b.n c.n) msg c.mid rest c.behind in
      let flat : 3 ∷ bytes ≡ 3 ∷ (to_be_bytes w16 a.n ++ (to_be_bytes w32 b.n ++ (to_be_bytes w16 c.n ++ rest))) =
      ap (λ (x : List ℕ). 3 ∷ x) (a.parts ∙ ap (λ (x : List ℕ). to_be_bytes w16 a.n ++ x) (b.parts ∙ ap (λ (x : List ℕ). to_be_bytes w32 b.n ++ x) (c.parts ∙ ap (λ (x : List ℕ). to_be_bytes w16 c.n ++ x) ends.1))) in
      subst (λ (m : Message). IsRow m (3 ∷ bytes) rest) ends.0 (record { front = ask_row a.n b.n c.n; spelled = (a.below, b.below, c.below, refl); parts = flat ∙ sym (ask-flat a.n b.n c.n rest) })

  vote-parts : (bytes rest : List ℕ) (msg : Message) → parse_vote bytes ≡ Good msg rest → IsRow msg (4 ∷ bytes) rest
  vote-parts bytes rest msg h =
      let a = field-parts w16 (2 ^ 16) wide16 vote1 bytes rest msg (rw parse_vote-is at h) in
      let b = then_parts parse_flag (vote2 a.n) a.mid rest msg a.behind in
      let ends = done_parts (Vote a.n b.thing) msg b.mid rest b.second in
      let flat : 4 ∷ bytes ≡ 4 ∷ (to_be_bytes w16 a.n ++ (flag b.thing ∷ rest)) =
      ap (λ (x : List ℕ). 4 ∷ x) (a.parts ∙ ap (λ (x : List ℕ). to_be_bytes w16 a.n ++ x) (flag-parts a.mid b.mid b.thing b.first ∙ ap (λ (x : List ℕ). flag b.thing ∷ x) ends.1)) in
      subst (λ (m : Message). IsRow m (4 ∷ bytes) rest) ends.0 (record { front = vote_row a.n b.thing; spelled = (a.below, refl); parts = flat ∙ sym (vote-flat a.n b.thing rest) })

  fields-parts : (n : ℕ) (bytes rest : List ℕ) (msg : Message) → is_known n ≡ true → fields_of version n bytes ≡ Good msg rest → IsRow msg (n ∷ bytes) rest
  fields-parts zero bytes rest msg k h = absurd (true≢false (sym k))
  fields-parts (suc zero) bytes rest msg k h = append-parts bytes rest msg h
  fields-parts (suc (suc zero)) bytes rest msg k h = reply-parts bytes rest msg h
  fields-parts (suc (suc (suc zero))) bytes rest msg k h = ask-parts bytes rest msg h
  fields-parts (suc (suc (suc (suc zero)))) bytes rest msg k h = vote-parts bytes rest msg h
  fields-parts (suc (suc (suc (suc (suc n))))) bytes rest msg k h =
      let t = and-true (nat_le 1 (suc (suc (suc (suc (suc n)))))) (nat_le (suc (suc (suc (suc (suc n))))) 4) k in
      let le : suc (suc (suc (suc (suc n)))) ≤ 4 = leb-true (suc (suc (suc (suc (suc n))))) 4 t.1 in
      absurd (omega arith)

  message-parts : (bytes rest : List ℕ) (msg : Message) → parse version bytes ≡ Good msg rest → IsRow msg bytes rest
  message-parts bytes rest msg h =
      let a = then_parts (such_that is_known byte) (fields_of version) bytes rest msg (rw parse-is at h) in
      let first = test_parts is_known byte bytes a.mid a.thing a.first in
      subst (λ (x : List ℕ). IsRow msg x rest) (sym (byte_parts bytes a.mid a.thing first.0)) (fields-parts a.thing a.mid rest msg first.1 a.second)

  only : (bytes rest : List ℕ) (msg : Message) → parse version bytes ≡ Good msg rest → bytes ≡ spell version msg ++ rest
  only bytes rest msg h = let r = message-parts bytes rest msg h in r.parts ∙ ap (λ (x : List ℕ). x ++ rest) (spelled-is msg r.front r.spelled)

  -- ---- An encoding is decoded

  none : (rest : List ℕ) → IsBad ((parse version) (0 ∷ rest))
  none rest = bad-by _ _ (0 ∷ rest) 0 parse-is (first_bad (such_that is_known byte) (fields_of version) (0 ∷ rest) 0 (test_failed is_known byte (0 ∷ rest) rest 0 (byte_again 0 rest) refl))

  message-good : (n : ℕ) (text rest : List ℕ) (msg : Message) → is_known n ≡ true → fields_of version n text ≡ Good msg rest → (parse version) (n ∷ text) ≡ Good msg rest
  message-good n text rest msg k h = rw parse-is (then_good (such_that is_known byte) (fields_of version) (n ∷ text) text rest n msg (test_passed is_known byte (n ∷ text) text n (byte_again n text) k) h)

  message-bad : (n : ℕ) (text : List ℕ) → is_known n ≡ true → IsBad (fields_of version n text) → IsBad ((parse version) (n ∷ text))
  message-bad n text k h = bad-by _ _ (n ∷ text) _ parse-is (then_bad (such_that is_known byte) (fields_of version) (n ∷ text) text n h.0 (test_passed is_known byte (n ∷ text) text n (byte_again n text) k) h.1)

  good-is : {A : Type 0} (p q : Parser A) (bytes rest : List ℕ) (x : A) → p ≡ q → q bytes ≡ Good x rest → p bytes ≡ Good x rest
  good-is p q bytes rest x e h = rw e h

  bad-is : {A : Type 0} (p q : Parser A) (bytes : List ℕ) → p ≡ q → IsBad (q bytes) → IsBad (p bytes)
  bad-is p q bytes e h = bad-by p q bytes h.0 e h.1

  -- fields in range, and entries that can be decoded
  append-good : (t p pt c : ℕ) (es : List Entry) (text rest : List ℕ) → t < 2 ^ 16 → p < 2 ^ 32 → pt < 2 ^ 16 → c < 2 ^ 32 → length es < 2 ^ 32 →
      times (length es) (parse_entry version) (text ++ rest) ≡ Good es rest → parse version (append_row t p pt c (length es) text ++ rest) ≡ Good (Append t p pt c es) rest
  append-good t p pt c es text rest a b d e g h =
      let msg : Message = Append t p pt c es in
      let f6 : append5 t p pt c (length es) (text ++ rest) ≡ Good msg rest = then_good (times (length es) (parse_entry version)) (append6 t p pt c) (text ++ rest) rest rest es msg h (done_good msg rest) in
      let f5 = field-good w32 (2 ^ 32) wide32 (append5 t p pt c) (length es) (text ++ rest) rest msg g f6 in
      let f4 = field-good w32 (2 ^ 32) wide32 (append4 t p pt) c _ rest msg e f5 in
      let f3 = field-good w16 (2 ^ 16) wide16 (append3 t p) pt _ rest msg d f4 in
      let f2 = field-good w32 (2 ^ 32) wide32 (append2 t) p _ rest msg b f3 in
      let f1 = field-good w16 (2 ^ 16) wide16 append1 t _ rest msg a f2 in
      ap (parse version) (append-flat t p pt c (length es) text rest) ∙ message-good 1 _ rest msg refl (good-is (parse_append version) _ _ rest msg parse_append-is f1)

  append-bad : (t p pt c n : ℕ) (text rest : List ℕ) → t < 2 ^ 16 → p < 2 ^ 32 → pt < 2 ^ 16 → c < 2 ^ 32 → n < 2 ^ 32 →
      IsBad (times n (parse_entry version) (text ++ rest)) → IsBad (parse version (append_row t p pt c n text ++ rest))
  append-bad t p pt c n text rest a b d e g h =
      let f6 : IsBad (append5 t p pt c n (text ++ rest)) = (h.0, first_bad (times n (parse_entry version)) (append6 t p pt c) (text ++ rest) h.0 h.1) in
      let f5 = field-bad w32 (2 ^ 32) wide32 (append5 t p pt c) n (text ++ rest) g f6 in
      let f4 = field-bad w32 (2 ^ 32) wide32 (append4 t p pt) c _ e f5 in
      let f3 = field-bad w16 (2 ^ 16) wide16 (append3 t p) pt _ d f4 in
      let f2 = field-bad w32 (2 ^ 32) wide32 (append2 t) p _ b f3 in
      let f1 = field-bad w16 (2 ^ 16) wide16 append1 t _ a f2 in
      subst (λ (x : List ℕ). IsBad (parse version x)) (sym (append-flat t p pt c n text rest)) (message-bad 1 _ refl (bad-is (parse_append version) _ _ parse_append-is f1))

  reply-good : (t : ℕ) (ok : Bool) (i : ℕ) (rest : List ℕ) → t < 2 ^ 16 → i < 2 ^ 32 → parse version (reply_row t ok i ++ rest) ≡ Good (Reply t ok i) rest
  reply-good t ok i rest a b =
      let msg : Message = Reply t ok i in
      let tail : List ℕ = to_be_bytes w32 i ++ rest in
      let f3 = field-good w32 (2 ^ 32) wide32 (reply3 t ok) i rest rest msg b (done_good msg rest) in
      let f2 : reply1 t (flag ok ∷ tail) ≡ Good msg rest = then_good parse_flag (reply2 t) (flag ok ∷ tail) tail rest ok msg (flag-good ok tail) f3 in
      let f1 = field-good w16 (2 ^ 16) wide16 reply1 t (flag ok ∷ tail) rest msg a f2 in
      ap (parse version) (reply-flat t ok i rest) ∙ message-good 2 _ rest msg refl (good-is parse_reply _ _ rest msg parse_reply-is f1)

  ask-good : (t l lt : ℕ) (rest : List ℕ) → t < 2 ^ 16 → l < 2 ^ 32 → lt < 2 ^ 16 → parse version (ask_row t l lt ++ rest) ≡ Good (AskVote t l lt) rest
  ask-good t l lt rest a b c =
      let msg : Message = AskVote t l lt in
      let f3 = field-good w16 (2 ^ 16) wide16 (ask3 t l) lt rest rest msg c (done_good msg rest) in
      let f2 = field-good w32 (2 ^ 32) wide32 (ask2 t) l _ rest msg b f3 in
      let f1 = field-good w16 (2 ^ 16) wide16 ask1 t _ rest msg a f2 in
      ap (parse version) (ask-flat t l lt rest) ∙ message-good 3 _ rest msg refl (good-is parse_ask _ _ rest msg parse_ask-is f1)

  vote-good : (t : ℕ) (g : Bool) (rest : List ℕ) → t < 2 ^ 16 → parse version (vote_row t g ++ rest) ≡ Good (Vote t g) rest
  vote-good t g rest a =
      let msg : Message = Vote t g in
      let f2 : vote1 t (flag g ∷ rest) ≡ Good msg rest = then_good parse_flag (vote2 t) (flag g ∷ rest) rest rest g msg (flag-good g rest) (done_good msg rest) in
      let f1 = field-good w16 (2 ^ 16) wide16 vote1 t (flag g ∷ rest) rest msg a f2 in
      ap (parse version) (vote-flat t g rest) ∙ message-good 4 _ rest msg refl (good-is parse_vote _ _ rest msg parse_vote-is f1)

  -- ---- Each message, with or without an encoding

  append-spelled : (t p pt c : ℕ) (es : List Entry) → fits_append t p pt c (length es) ≡ true → spell version (Append t p pt c es) ≡ append_row t p pt c (length es) (flat_map (spell_entry version) es)
  append-spelled t p pt c es q = rw q refl

  append-whole : (t p pt c : ℕ) (es : List Entry) → fits_append t p pt c (length es) ≡ true → Whole (spell version (Append t p pt c es)) (parse version) (Append t p pt c es)
  append-whole t p pt c es q =
      let a = and-true (is_term t && is_index p) (is_term pt && (is_index c && is_index (length es))) q in
      let b = and-true (is_term t) (is_index p) a.0 in
      let d = and-true (is_term pt) (is_index c && is_index (length es)) a.1 in
      let e = and-true (is_index c) (is_index (length es)) d.1 in
      let spelled = append-spelled t p pt c es q in
      let text = flat_map (spell_entry version) es in
      elim (times_whole (spell_entry version) (parse_entry version) (entry-grammar version) es) [
        | inl good ↦ inl (λ rest. rw spelled (append-good t p pt c es text rest (ltb-true t (2 ^ 16) b.0) (ltb-true p (2 ^ 32) b.1) (ltb-true pt (2 ^ 16) d.0) (ltb-true c (2 ^ 32) e.0) (ltb-true (length es) (2 ^ 32) e.1) (good rest)))
        | inr bad ↦ inr (λ rest. subst (λ (x : List ℕ). IsBad (parse version (x ++ rest))) (sym spelled)
            (append-bad t p pt c (length es) text rest (ltb-true t (2 ^ 16) b.0) (ltb-true p (2 ^ 32) b.1) (ltb-true pt (2 ^ 16) d.0) (ltb-true c (2 ^ 32) e.0) (ltb-true (length es) (2 ^ 32) e.1) (bad rest)))
      ]

  whole : (msg : Message) → Whole (spell version msg) (parse version) msg
  whole (Append t p pt c es) = go (fits_append t p pt c (length es)) refl
    where
      go : (b : Bool) → fits_append t p pt c (length es) ≡ b → Whole (spell version (Append t p pt c es)) (parse version) (Append t p pt c es)
      go false q = inr (λ rest. rw q (none rest))
      go true q = append-whole t p pt c es q
  whole (Reply t ok i) = go (is_term t && is_index i) refl
    where
      go : (b : Bool) → (is_term t && is_index i) ≡ b → Whole (spell version (Reply t ok i)) (parse version) (Reply t ok i)
      go false q = inr (λ rest. rw q (none rest))
      go true q = let r = and-true (is_term t) (is_index i) q in inl (λ rest. rw q (reply-good t ok i rest (ltb-true t (2 ^ 16) r.0) (ltb-true i (2 ^ 32) r.1)))
  whole (AskVote t l lt) = go (is_term t && (is_index l && is_term lt)) refl
    where
      go : (b : Bool) → (is_term t && (is_index l && is_term lt)) ≡ b → Whole (spell version (AskVote t l lt)) (parse version) (AskVote t l lt)
      go false q = inr (λ rest. rw q (none rest))
      go true q =
          let r = and-true (is_term t) (is_index l && is_term lt) q in
          let s = and-true (is_index l) (is_term lt) r.1 in
          inl (λ rest. rw q (ask-good t l lt rest (ltb-true t (2 ^ 16) r.0) (ltb-true l (2 ^ 32) s.0) (ltb-true lt (2 ^ 16) s.1)))
  whole (Vote t g) = go (is_term t) refl
    where
      go : (b : Bool) → is_term t ≡ b → Whole (spell version (Vote t g)) (parse version) (Vote t g)
      go false q = inr (λ rest. rw q (none rest))
      go true q = inl (λ rest. rw q (vote-good t g rest (ltb-true t (2 ^ 16) q)))

  pub message-grammar : IsGrammar (spell version) (parse version)
  message-grammar = record { only = only; whole = whole }

  -- ---- The relation

  table-good : (msg : Message) (bytes : List ℕ) → IsSpelledMessage version msg bytes → parse version (bytes ++ []) ≡ Good msg []
  table-good (Append t p pt c es) bytes h = rw h.row (append-good t p pt c es h.entries [] h.term_fits h.previous_fits h.previous_term_fits h.commit_fits h.count_fits (entries-table version es h.entries h.spelled []))
  table-good (Reply t ok i) bytes h = rw h.2 (reply-good t ok i [] h.0 h.1)
  table-good (AskVote t l lt) bytes h = rw h.3 (ask-good t l lt [] h.0 h.1 h.2)
  table-good (Vote t g) bytes h = rw h.1 (vote-good t g [] h.0)

  -- decoding all of the bytes is the relation of the encoding
  pub message-related : (msg : Message) (bytes : List ℕ) → (parse version bytes ≡ Good msg []) ↔ IsSpelledMessage version msg bytes
  message-related msg bytes = (
    (λ h. let r = message-parts bytes [] msg h in subst (λ (x : List ℕ). IsSpelledMessage version msg x) (sym (r.parts ∙ append-nil r.front)) r.spelled),
    (λ h. ap (parse version) (sym (append-nil bytes)) ∙ table-good msg bytes h),
  )
