-- In each version a message has at most one encoding.
use Rattle.std.proofs.Common.{◌≡◌, ◌≤◌, ◌<◌, ℕ, ◌^◌, ◌==◌, ◌&&◌, ◌||◌, Bool, true, false, if◌then◌else◌, List, [], ◌∷◌, ◌++◌, length, append-nil, refl, sym, ap, ◌∙◌, subst, inl, inr, true≢false, arith}
use Rattle.std.specs.Prelude.{◌↔◌, nat_le, nat_lt}
use Rattle.std.specs.Int.{to_be_bytes, w16, w32}
use Rattle.std.proofs.lemmas.Bool.{cases_lt, le-leb, leb-true, lt-ltb, ltb-true}
use Rattle.std.proofs.lemmas.Bool.Decides.{Decides-eqb}
use Rattle.iss_base.proofs.Lists.{and-true, both}
use Rattle.iss_request.specs.Fields.{Good, IsGrammar, IsReadAgain}
use Rattle.iss_sb.proofs.Read.{read-again}
use Rattle.iss_request.specs.Formats.{is_signature, parse_signature}
use Rattle.iss_request.specs.Parsing.{Parser, ◌>>=◌, block, byte, done, number, such_that}
use Rattle.iss_request.proofs.OneSpelling.{signature_parts}
use Rattle.iss_request.proofs.ParserLemmas.{block_parts, byte_parts, done_parts, number_parts, test_parts, then_parts, wide16, wide32}
use Rattle.iss_sb.specs.declared.content.Content.{Content}
use Rattle.iss_sb.specs.Content.{parse_content, spell_content}
use Rattle.hs_tree.specs.declared.certificates.Certificate.{Certificate}
use Rattle.hs_tree.specs.declared.messages.Message.{Message}
use Rattle.hs_tree.specs.declared.messages.Body.{Body}
use Rattle.hs_tree.specs.declared.messages.Body.TheVariants.{NewView, Prepare, PreCommit, Commit, Decide, Vote}
use Rattle.hs_tree.specs.Certificates.{is_phase, parse_certificate, spell_certificate}
use Rattle.hs_tree.specs.Messages.{IsSpelledBody, IsSpelledMessage, IsSpelledShown, fields_of, fits_vote, has_shows, is_message, is_view, new_view_row, no_message, parse, parse_body, parse_new_view, parse_prepare, parse_shown, parse_vote, prepare_row, shown_row, signed, spell, spell_body, spell_shown, vote_row}
use Rattle.hs_tree.proofs.CertificateGrammar.{certificate-again, certificate-parts, certificate-spelled, certificate-whole}
use Rattle.iss_sb.proofs.Contents.{content-grammar, content-read, content-related, content-table, content-whole}
use Rattle.hs_tree.proofs.Rows.{Again, Fate, HasFate, Never, Whole, again-fate, again-whole, block-field, by-same, byte-field, byte-never, fate-again, fate-fate, fate-of, fate-same, first-never, glue, last-again, last-fate, never-same, number-field, signature-field, then-again, whole-of}

module _ (phases version : ℕ) where
  -- ---- The parsers, field by field

  abbrev after_round : ℕ → Parser Body
  after_round round = parse_certificate phases >>= λ high. done (NewView round high)

  parse_new_view-is : parse_new_view phases ≡ (number w16 >>= after_round)
  unfolding parse_new_view
  parse_new_view-is = refl

  abbrev after_what : ℕ → Content → Parser Body
  after_what view what = parse_certificate phases >>= λ just. done (Prepare view what just)

  abbrev after_view : ℕ → Parser Body
  after_view view = parse_content version >>= after_what view

  parse_prepare-is : parse_prepare phases version ≡ (number w32 >>= after_view)
  unfolding parse_prepare
  parse_prepare-is = refl

  abbrev Makes : Type 0
  Makes = ℕ → Certificate → Body

  abbrev shown_view : Makes → ℕ → Parser Body
  shown_view make view = parse_certificate phases >>= λ shown. done (make view shown)

  parse_shown-is : (make : Makes) → parse_shown phases make ≡ (number w32 >>= shown_view make)
  unfolding parse_shown
  parse_shown-is make = refl

  abbrev vote_view : ℕ → ℕ → Parser Body
  vote_view phase view = block 32 >>= λ d. done (Vote phase view d)

  abbrev after_phase : ℕ → Parser Body
  after_phase phase = number w32 >>= vote_view phase

  parse_vote-is : parse_vote phases ≡ (such_that (is_phase phases) byte >>= after_phase)
  unfolding parse_vote
  parse_vote-is = refl

  parse_body-is : parse_body phases version ≡ (such_that (is_message phases) byte >>= fields_of phases version)
  unfolding parse_body
  parse_body-is = refl

  abbrev after_body : Body → Parser Message
  after_body body = parse_signature >>= λ sig. done (signed body sig)

  parse-is : parse phases version ≡ (parse_body phases version >>= after_body)
  unfolding parse
  parse-is = refl

  -- ---- What is decoded is in the relation

  record IsRow (body : Body) (bytes rest : List ℕ) : Type 0 where
    front : List ℕ
    spelled : IsSpelledBody phases version body front
    parts : bytes ≡ front ++ rest

  new_view-parts : (bytes rest : List ℕ) (body : Body) → parse_new_view phases bytes ≡ Good body rest → IsRow body (1 ∷ bytes) rest
  new_view-parts bytes rest body h =
      let a = then_parts (number w16) after_round bytes rest body (rw parse_new_view-is at h) in
      let b = then_parts (parse_certificate phases) (λ high. done (NewView a.thing high)) a.mid rest body a.second in
      let d = done_parts (NewView a.thing b.thing) body b.mid rest b.second in
      let round = number_parts w16 (2 ^ 16) wide16 bytes a.mid a.thing a.first in
      let high = certificate-parts phases a.mid b.mid b.thing b.first in
      let flat = glue (to_be_bytes w16 a.thing) high.front bytes a.mid rest round.parts (high.parts ∙ ap (λ (x : List ℕ). high.front ++ x) d.1) in
      subst (λ (z : Body). IsRow z (1 ∷ bytes) rest) d.0 (record {
        front = new_view_row a.thing high.front;
        spelled = record { round_fits = round.below; certificate = high.front; spelled = high.spelled; row = refl };
        parts = ap (λ (x : List ℕ). 1 ∷ x) flat;
      })

  prepare-parts : (bytes rest : List ℕ) (body : Body) → parse_prepare phases version bytes ≡ Good body rest → IsRow body (2 ∷ bytes) rest
  prepare-parts bytes rest body h =
      let a = then_parts (number w32) after_view bytes rest body (rw parse_prepare-is at h) in
      let k = then_parts (parse_content version) (after_what a.thing) a.mid rest body a.second in
      let b = then_parts (parse_certificate phases) (λ just. done (Prepare a.thing k.thing just)) k.mid rest body k.second in
      let d = done_parts (Prepare a.thing k.thing b.thing) body b.mid rest b.second in
      let view = number_parts w32 (2 ^ 32) wide32 bytes a.mid a.thing a.first in
      let what = content-related version k.thing (content-read version k.thing a.mid k.mid k.first) in
      let text = spell_content version k.thing in
      let held : a.mid ≡ text ++ k.mid = (content-grammar version).only a.mid k.mid k.thing k.first in
      let just = certificate-parts phases k.mid b.mid b.thing b.first in
      let behind = glue text just.front a.mid k.mid rest held (just.parts ∙ ap (λ (x : List ℕ). just.front ++ x) d.1) in
      let flat = glue (to_be_bytes w32 a.thing) (text ++ just.front) bytes a.mid rest view.parts behind in
      subst (λ (z : Body). IsRow z (2 ∷ bytes) rest) d.0 (record {
        front = prepare_row a.thing text just.front;
        spelled = record { view_fits = view.below; behind = text; what_is = what; certificate = just.front; spelled = just.spelled; row = refl };
        parts = ap (λ (x : List ℕ). 2 ∷ x) flat;
      })

  record Shows (make : Makes) (kind : ℕ) (bytes rest : List ℕ) (body : Body) : Type 0 where
    view : ℕ
    shown : Certificate
    front : List ℕ
    is : make view shown ≡ body
    spelled : phases ≡ 3 → IsSpelledShown phases kind view shown front
    parts : kind ∷ bytes ≡ front ++ rest

  shown-parts : (make : Makes) (kind : ℕ) (bytes rest : List ℕ) (body : Body) → parse_shown phases make bytes ≡ Good body rest → Shows make kind bytes rest body
  shown-parts make kind bytes rest body h =
      let a = then_parts (number w32) (shown_view make) bytes rest body (rw (parse_shown-is make) at h) in
      let b = then_parts (parse_certificate phases) (λ shown. done (make a.thing shown)) a.mid rest body a.second in
      let d = done_parts (make a.thing b.thing) body b.mid rest b.second in
      let view = number_parts w32 (2 ^ 32) wide32 bytes a.mid a.thing a.first in
      let shown = certificate-parts phases a.mid b.mid b.thing b.first in
      let flat = glue (to_be_bytes w32 a.thing) shown.front bytes a.mid rest view.parts (shown.parts ∙ ap (λ (x : List ℕ). shown.front ++ x) d.1) in
      record {
        view = a.thing;
        shown = b.thing;
        front = shown_row kind a.thing shown.front;
        is = d.0;
        spelled = λ three. record { three = three; view_fits = view.below; certificate = shown.front; spelled = shown.spelled; row = refl };
        parts = ap (λ (x : List ℕ). kind ∷ x) flat;
      }

  vote-parts : (bytes rest : List ℕ) (body : Body) → parse_vote phases bytes ≡ Good body rest → IsRow body (6 ∷ bytes) rest
  vote-parts bytes rest body h =
      let a = then_parts (such_that (is_phase phases) byte) after_phase bytes rest body (rw parse_vote-is at h) in
      let k = then_parts (number w32) (vote_view a.thing) a.mid rest body a.second in
      let b = then_parts (block 32) (λ d. done (Vote a.thing k.thing d)) k.mid rest body k.second in
      let d = done_parts (Vote a.thing k.thing b.thing) body b.mid rest b.second in
      let phase = test_parts (is_phase phases) byte bytes a.mid a.thing a.first in
      let range = and-true (nat_le 1 a.thing) (nat_le a.thing phases) phase.1 in
      let view = number_parts w32 (2 ^ 32) wide32 a.mid k.mid k.thing k.first in
      let digest = block_parts 32 k.mid b.mid b.thing b.first in
      let inner = glue (to_be_bytes w32 k.thing) b.thing a.mid k.mid rest view.parts (digest.parts ∙ ap (λ (x : List ℕ). b.thing ++ x) d.1) in
      subst (λ (z : Body). IsRow z (6 ∷ bytes) rest) d.0 (record {
        front = vote_row a.thing k.thing b.thing;
        spelled = record { phase_low = leb-true 1 a.thing range.0; phase_fits = leb-true a.thing phases range.1; view_fits = view.below; digest_fits = digest.len; row = refl };
        parts = ap (λ (x : List ℕ). 6 ∷ x) (byte_parts bytes a.mid a.thing phase.0 ∙ ap (λ (x : List ℕ). a.thing ∷ x) inner);
      })

  -- ---- The body with each number

  not-same : (n k : ℕ) → (n == k) ≡ false → n ≡ k → ⊥
  not-same n k f e = true≢false (sym ((Decides-eqb n k).1 e) ∙ f)

  between : (n : ℕ) → 3 ≤ n → n ≤ 5 → (n ≡ 3 → ⊥) → (n ≡ 4 → ⊥) → (n ≡ 5 → ⊥) → ⊥
  between n low high a b c = elim (cases_lt 3 n) [
    | inl l ↦ elim (cases_lt 4 n) [
      | inl m ↦ c (omega arith)
      | inr m ↦ b (omega arith)
    ]
    | inr l ↦ a (omega arith)
  ]

  in-range : (n : ℕ) → (nat_le 3 n && nat_le n 5) ≡ true → (n == 3) ≡ false → (n == 4) ≡ false → (n == 5) ≡ false → ⊥
  in-range n h f3 f4 f5 =
      let t = and-true (nat_le 3 n) (nat_le n 5) h in
      between n (leb-true 3 n t.0) (leb-true n 5 t.1) (not-same n 3 f3) (not-same n 4 f4) (not-same n 5 f5)

  -- the only other valid number is a vote's
  known-six : (n : ℕ) → is_message phases n ≡ true → (n == 1) ≡ false → (n == 2) ≡ false → (n == 3) ≡ false → (n == 4) ≡ false → (n == 5) ≡ false → (n == 6) ≡ true
  known-six n known f1 f2 f3 f4 f5 = go (n == 1) (n == 2) (n == 6) (phases == 3) known f1 f2
    where
      go : (a b c d : Bool) → ((a || b) || (c || (d && (nat_le 3 n && nat_le n 5)))) ≡ true → a ≡ false → b ≡ false → c ≡ true
      go true b c d h f g = absurd (true≢false f)
      go false true c d h f g = absurd (true≢false g)
      go false false true d h f g = refl
      go false false false true h f g = absurd (in-range n h f3 f4 f5)
      go false false false false h f g = absurd (true≢false (sym h))

  -- PreCommit, Commit and Decide need three phases
  three-is : (k : ℕ) → is_message phases k ≡ true → (k == 1) ≡ false → (k == 2) ≡ false → (k == 6) ≡ false → phases ≡ 3
  three-is k known f1 f2 f6 = go (k == 1) (k == 2) (k == 6) (phases == 3) refl known f1 f2 f6
    where
      go : (a b c d : Bool) → (phases == 3) ≡ d → ((a || b) || (c || (d && (nat_le 3 k && nat_le k 5)))) ≡ true → a ≡ false → b ≡ false → c ≡ false → phases ≡ 3
      go true b c d q h f g e = absurd (true≢false f)
      go false true c d q h f g e = absurd (true≢false g)
      go false false true d q h f g e = absurd (true≢false e)
      go false false false true q h f g e = (Decides-eqb phases 3).0 q
      go false false false false q h f g e = absurd (true≢false (sym h))

  fields-parts : (n : ℕ) (mid rest : List ℕ) (body : Body) → is_message phases n ≡ true → fields_of phases version n mid ≡ Good body rest → IsRow body (n ∷ mid) rest
  fields-parts n mid rest body known e = one (n == 1) refl e
    where
      at_number : (k : ℕ) → (n == k) ≡ true → IsRow body (k ∷ mid) rest → IsRow body (n ∷ mid) rest
      at_number k q r = subst (λ (z : ℕ). IsRow body (z ∷ mid) rest) (sym ((Decides-eqb n k).0 q)) r

      three-at : (k : ℕ) → (n == k) ≡ true → (k == 1) ≡ false → (k == 2) ≡ false → (k == 6) ≡ false → phases ≡ 3
      three-at k q = three-is k (subst (λ (z : ℕ). is_message phases z ≡ true) ((Decides-eqb n k).0 q) known)

      five : (a : Bool) → (n == 5) ≡ a → (n == 1) ≡ false → (n == 2) ≡ false → (n == 3) ≡ false → (n == 4) ≡ false → (if a then parse_shown phases Decide else parse_vote phases) mid ≡ Good body rest → IsRow body (n ∷ mid) rest
      five true q f1 f2 f3 f4 r =
          let s = shown-parts Decide 5 mid rest body r in
          at_number 5 q (subst (λ (z : Body). IsRow z (5 ∷ mid) rest) s.is (record { front = s.front; spelled = s.spelled (three-at 5 q refl refl refl); parts = s.parts }))
      five false q f1 f2 f3 f4 r = at_number 6 (known-six n known f1 f2 f3 f4 q) (vote-parts mid rest body r)

      four : (a : Bool) → (n == 4) ≡ a → (n == 1) ≡ false → (n == 2) ≡ false → (n == 3) ≡ false → (if a then parse_shown phases Commit else (if n == 5 then parse_shown phases Decide else parse_vote phases)) mid ≡ Good body rest → IsRow body (n ∷ mid) rest
      four true q f1 f2 f3 r =
          let s = shown-parts Commit 4 mid rest body r in
          at_number 4 q (subst (λ (z : Body). IsRow z (4 ∷ mid) rest) s.is (record { front = s.front; spelled = s.spelled (three-at 4 q refl refl refl); parts = s.parts }))
      four false q f1 f2 f3 r = five (n == 5) refl f1 f2 f3 q r

      three : (a : Bool) → (n == 3) ≡ a → (n == 1) ≡ false → (n == 2) ≡ false → (if a then parse_shown phases PreCommit else (if n == 4 then parse_shown phases Commit else (if n == 5 then parse_shown phases Decide else parse_vote phases))) mid ≡ Good body rest → IsRow body (n ∷ mid) rest
      three true q f1 f2 r =
          let s = shown-parts PreCommit 3 mid rest body r in
          at_number 3 q (subst (λ (z : Body). IsRow z (3 ∷ mid) rest) s.is (record { front = s.front; spelled = s.spelled (three-at 3 q refl refl refl); parts = s.parts }))
      three false q f1 f2 r = four (n == 4) refl f1 f2 q r

      two : (a : Bool) → (n == 2) ≡ a → (n == 1) ≡ false → (if a then parse_prepare phases version else (if n == 3 then parse_shown phases PreCommit else (if n == 4 then parse_shown phases Commit else (if n == 5 then parse_shown phases Decide else parse_vote phases)))) mid ≡ Good body rest → IsRow body (n ∷ mid) rest
      two true q f1 r = at_number 2 q (prepare-parts mid rest body r)
      two false q f1 r = three (n == 3) refl f1 q r

      one : (a : Bool) → (n == 1) ≡ a → (if a then parse_new_view phases else (if n == 2 then parse_prepare phases version else (if n == 3 then parse_shown phases PreCommit else (if n == 4 then parse_shown phases Commit else (if n == 5 then parse_shown phases Decide else parse_vote phases))))) mid ≡ Good body rest → IsRow body (n ∷ mid) rest
      one true q r = at_number 1 q (new_view-parts mid rest body r)
      one false q r = two (n == 2) refl q r

  body-parts : (bytes rest : List ℕ) (body : Body) → parse_body phases version bytes ≡ Good body rest → IsRow body bytes rest
  body-parts bytes rest body h =
      let a = then_parts (such_that (is_message phases) byte) (fields_of phases version) bytes rest body (rw parse_body-is at h) in
      let t = test_parts (is_message phases) byte bytes a.mid a.thing a.first in
      subst (λ (z : List ℕ). IsRow body z rest) (sym (byte_parts bytes a.mid a.thing t.0)) (fields-parts a.thing a.mid rest body t.1 a.second)

  record IsWhole (msg : Message) (bytes rest : List ℕ) : Type 0 where
    front : List ℕ
    spelled : IsSpelledMessage phases version msg front
    parts : bytes ≡ front ++ rest

  message-parts : (bytes rest : List ℕ) (msg : Message) → parse phases version bytes ≡ Good msg rest → IsWhole msg bytes rest
  message-parts bytes rest msg h =
      let a = then_parts (parse_body phases version) after_body bytes rest msg (rw parse-is at h) in
      let b = then_parts parse_signature (λ sig. done (signed a.thing sig)) a.mid rest msg a.second in
      let d = done_parts (signed a.thing b.thing) msg b.mid rest b.second in
      let body = body-parts bytes a.mid a.thing a.first in
      let sig = signature_parts a.mid b.mid b.thing b.first in
      subst (λ (z : Message). IsWhole z bytes rest) d.0 (record {
        front = body.front ++ b.thing;
        spelled = record { front = body.front; body = body.spelled; shape = sig.shape; row = refl };
        parts = glue body.front b.thing bytes a.mid rest body.parts (sig.parts ∙ ap (λ (x : List ℕ). b.thing ++ x) d.1);
      })

  -- ---- The relation gives the encoding

  shown-spelled : (kind view : ℕ) (shown : Certificate) (front : List ℕ) → IsSpelledShown phases kind view shown front → front ≡ spell_shown phases kind view shown
  shown-spelled kind view shown front h =
      let row : front ≡ shown_row kind view (spell_certificate phases shown) = h.row ∙ ap (λ (x : List ℕ). shown_row kind view x) (certificate-spelled phases shown h.certificate h.spelled) in
      rw (both _ _ ((Decides-eqb phases 3).1 h.three) (lt-ltb view (2 ^ 32) h.view_fits)) row

  body-spelled : (body : Body) (front : List ℕ) → IsSpelledBody phases version body front → front ≡ spell_body phases version body
  body-spelled (NewView round high) front h =
      let row : front ≡ new_view_row round (spell_certificate phases high) = h.row ∙ ap (λ (x : List ℕ). new_view_row round x) (certificate-spelled phases high h.certificate h.spelled) in
      rw (lt-ltb round (2 ^ 16) h.round_fits) row
  body-spelled (Prepare view what just) front h =
      let row : front ≡ prepare_row view (spell_content version what) (spell_certificate phases just) =
      h.row ∙ ap (λ (x : List ℕ). prepare_row view x h.certificate) (content-table version what h.behind h.what_is).0 ∙ ap (λ (x : List ℕ). prepare_row view (spell_content version what) x) (certificate-spelled phases just h.certificate h.spelled) in
      rw (lt-ltb view (2 ^ 32) h.view_fits) row
  body-spelled (PreCommit view shown) front h = shown-spelled 3 view shown front h
  body-spelled (Commit view shown) front h = shown-spelled 4 view shown front h
  body-spelled (Decide view shown) front h = shown-spelled 5 view shown front h
  body-spelled (Vote phase view d) front h =
      let fit = both _ _ (both _ _ (le-leb 1 phase h.phase_low) (le-leb phase phases h.phase_fits)) (both _ _ (lt-ltb view (2 ^ 32) h.view_fits) ((Decides-eqb (length d) 32).1 h.digest_fits)) in
      rw fit h.row

  spelled-is : (msg : Message) (front : List ℕ) → IsSpelledMessage phases version msg front → front ≡ spell phases version msg
  spelled-is msg front h =
      let row : front ≡ spell_body phases version msg.body ++ msg.sig = h.row ∙ ap (λ (x : List ℕ). x ++ msg.sig) (body-spelled msg.body h.front h.body) in
      rw h.shape row

  -- ---- An encoding is decoded

  number-again : (n : ℕ) (text : List ℕ) (body : Body) → is_message phases n ≡ true → Again text (fields_of phases version n) body → Again (n ∷ text) (parse_body phases version) body
  number-again n text body k h = by-same (n ∷ text) (parse_body phases version) _ body parse_body-is (then-again (such_that (is_message phases) byte) (fields_of phases version) (n ∷ []) text n body (byte-field (is_message phases) n k) h)

  number-fate : (read : Bool) (n : ℕ) (text : List ℕ) (body : Body) → is_message phases n ≡ true → Fate read text (fields_of phases version n) body → Fate read (n ∷ text) (parse_body phases version) body
  number-fate read n text body k h = fate-same read (n ∷ text) (parse_body phases version) _ body parse_body-is (again-fate read (such_that (is_message phases) byte) (fields_of phases version) (n ∷ []) text n body (byte-field (is_message phases) n k) h)

  none : Never no_message (parse_body phases version)
  none = never-same no_message (parse_body phases version) _ parse_body-is (first-never (such_that (is_message phases) byte) (fields_of phases version) (0 ∷ []) [] (byte-never (is_message phases) 0 (no-zero (phases == 3))))
    where
      no-zero : (b : Bool) → (((0 == 1) || (0 == 2)) || ((0 == 6) || (b && (nat_le 3 0 && nat_le 0 5)))) ≡ false
      no-zero true = refl
      no-zero false = refl

  known-shown : (k : ℕ) → (nat_le 3 k && nat_le k 5) ≡ true → (k == 1) ≡ false → (k == 2) ≡ false → (k == 6) ≡ false → has_shows phases ≡ true → is_message phases k ≡ true
  known-shown k r f1 f2 f6 three = rw (f1, f2, f6, three, r) refl

  new_view-fate : (read : Bool) (round : ℕ) (high : Certificate) (certificate : List ℕ) → round < 2 ^ 16 → Fate read certificate (parse_certificate phases) high →
      Fate read (new_view_row round certificate) (parse_body phases version) (NewView round high)
  new_view-fate read round high certificate low h =
      let body : Body = NewView round high in
      let last = last-fate read (parse_certificate phases) (λ x. NewView round x) certificate high h in
      let all = again-fate read (number w16) after_round (to_be_bytes w16 round) certificate round body (number-field w16 (2 ^ 16) wide16 round low) last in
      number-fate read 1 (to_be_bytes w16 round ++ certificate) body refl (fate-same read (to_be_bytes w16 round ++ certificate) (parse_new_view phases) _ body parse_new_view-is all)

  prepare-fate : (read behind : Bool) (view : ℕ) (what : Content) (just : Certificate) (text certificate : List ℕ) → view < 2 ^ 32 →
      Fate read text (parse_content version) what → Fate behind certificate (parse_certificate phases) just → Fate (read && behind) (prepare_row view text certificate) (parse_body phases version) (Prepare view what just)
  prepare-fate read behind view what just text certificate low g h =
      let body : Body = Prepare view what just in
      let last = last-fate behind (parse_certificate phases) (λ x. Prepare view what x) certificate just h in
      let second = fate-fate read behind (parse_content version) (after_what view) text certificate what body g last in
      let all = again-fate (read && behind) (number w32) after_view (to_be_bytes w32 view) (text ++ certificate) view body (number-field w32 (2 ^ 32) wide32 view low) second in
      number-fate (read && behind) 2 (to_be_bytes w32 view ++ (text ++ certificate)) body refl (fate-same (read && behind) (to_be_bytes w32 view ++ (text ++ certificate)) (parse_prepare phases version) _ body parse_prepare-is all)

  -- PreCommit, Commit and Decide
  shown-fate : (read : Bool) (make : Makes) (kind view : ℕ) (shown : Certificate) (certificate : List ℕ) → (has_shows phases ≡ true → is_message phases kind ≡ true) → fields_of phases version kind ≡ parse_shown phases make →
      has_shows phases ≡ true → view < 2 ^ 32 → Fate read certificate (parse_certificate phases) shown → Fate read (shown_row kind view certificate) (parse_body phases version) (make view shown)
  shown-fate read make kind view shown certificate known fields three low h =
      let body = make view shown in
      let last = last-fate read (parse_certificate phases) (λ x. make view x) certificate shown h in
      let all = again-fate read (number w32) (shown_view make) (to_be_bytes w32 view) certificate view body (number-field w32 (2 ^ 32) wide32 view low) last in
      number-fate read kind (to_be_bytes w32 view ++ certificate) body (known three) (fate-same read (to_be_bytes w32 view ++ certificate) (fields_of phases version kind) _ body (fields ∙ parse_shown-is make) all)

  vote-again : (phase view : ℕ) (d : List ℕ) → is_phase phases phase ≡ true → view < 2 ^ 32 → length d ≡ 32 → Again (vote_row phase view d) (parse_body phases version) (Vote phase view d)
  vote-again phase view d is low long =
      let body : Body = Vote phase view d in
      let last = last-again (block 32) (λ x. Vote phase view x) d d (block-field 32 d long) in
      let second = then-again (number w32) (vote_view phase) (to_be_bytes w32 view) d view body (number-field w32 (2 ^ 32) wide32 view low) last in
      let all = then-again (such_that (is_phase phases) byte) after_phase (phase ∷ []) (to_be_bytes w32 view ++ d) phase body (byte-field (is_phase phases) phase is) second in
      number-again 6 (phase ∷ (to_be_bytes w32 view ++ d)) body refl (by-same (phase ∷ (to_be_bytes w32 view ++ d)) (parse_vote phases) _ body parse_vote-is all)

  certificate-fate : (c : Certificate) → HasFate (spell_certificate phases c) (parse_certificate phases) c
  certificate-fate c = fate-of (spell_certificate phases c) (parse_certificate phases) c (certificate-whole phases c)

  shown-whole : (make : Makes) (kind view : ℕ) (shown : Certificate) → (has_shows phases ≡ true → is_message phases kind ≡ true) → fields_of phases version kind ≡ parse_shown phases make →
      Whole (spell_shown phases kind view shown) (parse_body phases version) (make view shown)
  shown-whole make kind view shown known fields = go (has_shows phases && is_view view) refl
    where
      go : (b : Bool) → (has_shows phases && is_view view) ≡ b → Whole (spell_shown phases kind view shown) (parse_body phases version) (make view shown)
      go false q = inr (rw q none)
      go true q =
          let a = and-true (has_shows phases) (is_view view) q in
          let c = certificate-fate shown in
          rw q (whole-of c.read (shown_row kind view (spell_certificate phases shown)) (parse_body phases version) (make view shown) (shown-fate c.read make kind view shown (spell_certificate phases shown) known fields a.0 (ltb-true view (2 ^ 32) a.1) c.fate))

  body-whole : (body : Body) → Whole (spell_body phases version body) (parse_body phases version) body
  body-whole (NewView round high) = go (nat_lt round (2 ^ 16)) refl
    where
      go : (b : Bool) → nat_lt round (2 ^ 16) ≡ b → Whole (spell_body phases version (NewView round high)) (parse_body phases version) (NewView round high)
      go false q = inr (rw q none)
      go true q =
          let c = certificate-fate high in
          rw q (whole-of c.read (new_view_row round (spell_certificate phases high)) (parse_body phases version) (NewView round high) (new_view-fate c.read round high (spell_certificate phases high) (ltb-true round (2 ^ 16) q) c.fate))
  body-whole (Prepare view what just) = go (is_view view) refl
    where
      go : (b : Bool) → is_view view ≡ b → Whole (spell_body phases version (Prepare view what just)) (parse_body phases version) (Prepare view what just)
      go false q = inr (rw q none)
      go true q =
          let w = fate-of (spell_content version what) (parse_content version) what (content-whole version what) in
          let c = certificate-fate just in
          rw q (whole-of (w.read && c.read) (prepare_row view (spell_content version what) (spell_certificate phases just)) (parse_body phases version) (Prepare view what just) (prepare-fate w.read c.read view what just (spell_content version what) (spell_certificate phases just) (ltb-true view (2 ^ 32) q) w.fate c.fate))
  body-whole (PreCommit view shown) = shown-whole PreCommit 3 view shown (known-shown 3 refl refl refl refl) refl
  body-whole (Commit view shown) = shown-whole Commit 4 view shown (known-shown 4 refl refl refl refl) refl
  body-whole (Decide view shown) = shown-whole Decide 5 view shown (known-shown 5 refl refl refl refl) refl
  body-whole (Vote phase view d) = go (fits_vote phases phase view d) refl
    where
      go : (b : Bool) → fits_vote phases phase view d ≡ b → Whole (spell_body phases version (Vote phase view d)) (parse_body phases version) (Vote phase view d)
      go false q = inr (rw q none)
      go true q =
          let a = and-true (is_phase phases phase) _ q in
          let b = and-true (is_view view) (length d == 32) a.1 in
          inl (rw q (vote-again phase view d a.0 (ltb-true view (2 ^ 32) b.0) ((Decides-eqb (length d) 32).0 b.1)))

  message-fate : (read : Bool) (msg : Message) (front : List ℕ) → is_signature msg.sig ≡ true → Fate read front (parse_body phases version) msg.body → Fate read (front ++ msg.sig) (parse phases version) msg
  message-fate read msg front shape h =
      let last = last-again parse_signature (λ sig. signed msg.body sig) msg.sig msg.sig (signature-field msg.sig shape) in
      fate-same read (front ++ msg.sig) (parse phases version) _ msg parse-is (fate-again read (parse_body phases version) after_body front msg.sig msg.body msg h last)

  whole : (msg : Message) → Whole (spell phases version msg) (parse phases version) msg
  whole msg = go (is_signature msg.sig) refl
    where
      go : (b : Bool) → is_signature msg.sig ≡ b → Whole (spell phases version msg) (parse phases version) msg
      go false q = inr (rw q (never-same no_message (parse phases version) _ parse-is (first-never (parse_body phases version) after_body no_message [] none)))
      go true q =
          let f = fate-of (spell_body phases version msg.body) (parse_body phases version) msg.body (body-whole msg.body) in
          rw q (whole-of f.read (spell_body phases version msg.body ++ msg.sig) (parse phases version) msg (message-fate f.read msg (spell_body phases version msg.body) q f.fate))

  pub message-grammar : IsGrammar (spell phases version) (parse phases version)
  message-grammar = record {
    only = λ bytes rest msg h. let r = message-parts bytes rest msg h in r.parts ∙ ap (λ (x : List ℕ). x ++ rest) (spelled-is msg r.front r.spelled);
    whole = whole;
  }

  -- ---- The relation

  shown-table : (make : Makes) (kind view : ℕ) (shown : Certificate) (bytes : List ℕ) → (has_shows phases ≡ true → is_message phases kind ≡ true) → fields_of phases version kind ≡ parse_shown phases make →
      IsSpelledShown phases kind view shown bytes → Again bytes (parse_body phases version) (make view shown)
  shown-table make kind view shown bytes known fields h =
      subst (λ (x : List ℕ). Again x (parse_body phases version) (make view shown)) (sym h.row)
      (shown-fate true make kind view shown h.certificate known fields ((Decides-eqb phases 3).1 h.three) h.view_fits (certificate-again phases shown h.certificate h.spelled))

  body-again : (body : Body) (bytes : List ℕ) → IsSpelledBody phases version body bytes → Again bytes (parse_body phases version) body
  body-again (NewView round high) bytes h =
      subst (λ (x : List ℕ). Again x (parse_body phases version) (NewView round high)) (sym h.row)
      (new_view-fate true round high h.certificate h.round_fits (certificate-again phases high h.certificate h.spelled))
  body-again (Prepare view what just) bytes h =
      let w = content-table version what h.behind h.what_is in
      let read = subst (λ (x : List ℕ). Again x (parse_content version) what) (sym w.0) w.1 in
      subst (λ (x : List ℕ). Again x (parse_body phases version) (Prepare view what just)) (sym h.row)
      (prepare-fate true true view what just h.behind h.certificate h.view_fits read (certificate-again phases just h.certificate h.spelled))
  body-again (PreCommit view shown) bytes h = shown-table PreCommit 3 view shown bytes (known-shown 3 refl refl refl refl) refl h
  body-again (Commit view shown) bytes h = shown-table Commit 4 view shown bytes (known-shown 4 refl refl refl refl) refl h
  body-again (Decide view shown) bytes h = shown-table Decide 5 view shown bytes (known-shown 5 refl refl refl refl) refl h
  body-again (Vote phase view d) bytes h =
      subst (λ (x : List ℕ). Again x (parse_body phases version) (Vote phase view d)) (sym h.row)
      (vote-again phase view d (both _ _ (le-leb 1 phase h.phase_low) (le-leb phase phases h.phase_fits)) h.view_fits h.digest_fits)

  table-again : (msg : Message) (bytes : List ℕ) → IsSpelledMessage phases version msg bytes → Again bytes (parse phases version) msg
  table-again msg bytes h =
      subst (λ (x : List ℕ). Again x (parse phases version) msg) (sym h.row)
      (message-fate true msg h.front h.shape (body-again msg.body h.front h.body))

  -- decoding all of the bytes is the relation of the encoding
  pub message-related : (msg : Message) (bytes : List ℕ) → (parse phases version bytes ≡ Good msg []) ↔ IsSpelledMessage phases version msg bytes
  message-related msg bytes = (
    (λ h. let r = message-parts bytes [] msg h in subst (λ (x : List ℕ). IsSpelledMessage phases version msg x) (sym (r.parts ∙ append-nil r.front)) r.spelled),
    (λ h. again-whole bytes (parse phases version) msg (table-again msg bytes h)),
  )

  -- ---- A message can be decoded exactly if the relation gives its body some bytes and the signature has the right shape

  pub spelled-read : (msg : Message) (front : List ℕ) → IsSpelledBody phases version msg.body front → is_signature msg.sig ≡ true → IsReadAgain (spell phases version) (parse phases version) msg
  spelled-read msg front h shape = read-again (spell phases version) (parse phases version) message-grammar (front ++ msg.sig) [] msg ((message-related msg (front ++ msg.sig)).1 (record { front = front; body = h; shape = shape; row = refl }))

  pub read-spelled : (msg : Message) → IsReadAgain (spell phases version) (parse phases version) msg → IsSpelledMessage phases version msg (spell phases version msg)
  read-spelled msg h = (message-related msg (spell phases version msg)).0 (again-whole (spell phases version msg) (parse phases version) msg h)
