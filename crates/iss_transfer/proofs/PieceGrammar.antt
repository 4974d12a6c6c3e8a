-- A piece has at most one encoding, and bytes decode to a piece exactly if the table relates them.
use Rattle.std.proofs.Common.{◌≡◌, ◌↔◌, inl, inr, ℕ, zero, suc, ◌+◌, ◌-◌, ◌<◌, ◌==◌, ◌||◌, eqb, cond, Bool, true, false, List, [], ◌∷◌, ◌++◌, length, append_assoc, append-nil, refl, sym, ap, ap₂, ◌∙◌, subst, ◌⊎◌, arith, true≢false}
use Rattle.std.specs.Prelude.{nat_lt, Result, Err}
use Rattle.std.specs.List.{flat_map}
use Rattle.std.proofs.lemmas.Bool.{lt-ltb, ltb-true}
use Rattle.std.proofs.lemmas.Bool.Decides.{Decides-eqb}
use Rattle.iss_base.proofs.Lists.{and-true, both, is-eq}
use Rattle.iss_request.specs.declared.errors.DecodeError.{DecodeError}
use Rattle.iss_request.specs.declared.errors.DecodeError.TheVariants.{BadField}
use Rattle.iss_request.specs.Fields.{Bad, Good, IsBad, IsReadAgain}
use Rattle.iss_request.specs.Formats.{IsSpelledValue, is_first, is_second, parse_value, spell_value}
use Rattle.iss_request.specs.Parsing.{Parser, ◌>>=◌, all_of, at_end, byte, done, such_that, times}
use Rattle.iss_request.specs.declared.requests.Value.{Value}
use Rattle.iss_request.proofs.OneSpelling.{done_good, times_parts, times_whole, value_grammar, value_related}
use Rattle.iss_request.proofs.ParserLemmas.{byte_again, byte_parts, done_parts, first_bad, test_failed, test_parts, test_passed, then_bad, then_good, then_parts}
use Rattle.iss_sb.proofs.Read.{read-again}
use Rattle.iss_checkpoint.specs.declared.votes.Cert.{Cert}
use Rattle.iss_checkpoint.specs.Certificates.{parse_cert, spell_cert}
use Rattle.iss_checkpoint.proofs.CertGrammar.{cert-again, cert-only, cert-related, cert-spelled, cert-whole}
use Rattle.iss_sb.proofs.Fields.{few}
use Rattle.iss_transfer.specs.declared.pieces.Ask.{Ask}
use Rattle.iss_transfer.specs.declared.pieces.Piece.{Piece}
use Rattle.iss_transfer.specs.Bodies.{AreSpelledValues, IsSpelledPiece, fits, no_piece, parse_ask, parse_piece, piece_row, spell_ask, spell_piece}

-- ---- asks

pub ask-only : (e : ℕ) (bytes rest : List ℕ) (a : Ask) → parse_ask e bytes ≡ Good a rest → bytes ≡ spell_ask a ++ rest
unfolding parse_ask
ask-only e bytes rest a h = (done_parts (record { epoch = record { 0 = e } }) a bytes rest h).1

pub ask-again : (a : Ask) → IsReadAgain spell_ask (parse_ask a.epoch.0) a
unfolding parse_ask
ask-again a rest = done_good a rest

pub ask-table : (e : ℕ) (a : Ask) (bytes : List ℕ) → (parse_ask e bytes ≡ Good a []) ↔ ((a.epoch.0 ≡ e) × (bytes ≡ []))
unfolding parse_ask
ask-table e a bytes = (
  λ h. let d = done_parts (record { epoch = record { 0 = e } }) a bytes [] h in (sym (ap (λ (x : Ask). x.epoch.0) d.0), d.1),
  λ h. subst (λ (k : ℕ). done (record { epoch = record { 0 = k } }) bytes ≡ Good a []) h.0 (ap (done a) h.1 ∙ done_good a []),
)

ask-made : ℕ → Ask
ask-made e = record { epoch = record { 0 = e } }

pub ask-found : (e : ℕ) (bytes : List ℕ) → (length bytes == 0) ≡ true → parse_ask e bytes ≡ Good (record { epoch = record { 0 = e } }) []
unfolding parse_ask
ask-found e [] h = done_good (record { epoch = record { 0 = e } }) []
ask-found e (b ∷ bytes) h = let none = is-eq (length (b ∷ bytes)) 0 h in absurd (omega (arith, none))

ask-over : (e : ℕ) (bytes : List ℕ) → (length bytes == 0) ≡ false → all_of (parse_ask e) bytes ≡ Bad 0
unfolding parse_ask all_of at_end ask-made
ask-over e [] h = absurd (true≢false h)
ask-over e (b ∷ bytes) h =
    let none : length (b ∷ bytes) - length (b ∷ bytes) + 0 ≡ 0 = omega arith in
    then_bad (parse_ask e) at_end (b ∷ bytes) (b ∷ bytes) (ask-made e) 0 (done_good (ask-made e) (b ∷ bytes)) refl ∙ ap Bad none

-- what the error names
pub ask-bad : (e at : ℕ) (bytes : List ℕ) → (length bytes == 0) ≡ false → ◌≡◌ {A = Result Ask DecodeError} (Err (BadField 0)) (Err (BadField at)) → all_of (parse_ask e) bytes ≡ Bad at
ask-bad e at bytes h is =
    let same : 0 ≡ at = cc in
    ask-over e bytes h ∙ ap Bad same

-- ---- the parsers, field by field

abbrev made : ℕ → List Value → Cert → Piece
made e values cert = record { epoch = record { 0 = e }; values = values; cert = cert }

abbrev pub after_values : ℕ → List Value → Parser Piece
after_values e values = parse_cert e >>= λ cert. done (made e values cert)

abbrev pub after_count : ℕ → ℕ → ℕ → Parser Piece
after_count version e count = times count (parse_value version) >>= after_values e

parse_piece-is : (version e : ℕ) → parse_piece version e ≡ (such_that few byte >>= after_count version e)
unfolding parse_piece
parse_piece-is version e = refl

piece-by : (version e : ℕ) (bytes : List ℕ) → parse_piece version e bytes ≡ (such_that few byte >>= after_count version e) bytes
piece-by version e bytes = ap (λ (p : Parser Piece). p bytes) (parse_piece-is version e)

-- ---- values in sequence

module _ (version : ℕ) where
  value-flat : (v : Value) (bytes : List ℕ) → IsSpelledValue version v bytes → bytes ≡ spell_value version v
  value-flat v bytes h = (value_grammar version).only bytes [] v ((value_related version v bytes).1 h) ∙ append-nil (spell_value version v)

  value-again : (v : Value) (bytes : List ℕ) → IsSpelledValue version v bytes → IsReadAgain (spell_value version) (parse_value version) v
  value-again v bytes h = read-again (spell_value version) (parse_value version) (value_grammar version) bytes [] v ((value_related version v bytes).1 h)

  value-spelled : (bytes rest : List ℕ) (v : Value) → parse_value version bytes ≡ Good v rest → IsSpelledValue version v (spell_value version v)
  value-spelled bytes rest v h =
      let again = read-again (spell_value version) (parse_value version) (value_grammar version) bytes rest v h in
      (value_related version v (spell_value version v)).0 (ap (parse_value version) (sym (append-nil (spell_value version v))) ∙ again [])

  values-flat : (vs : List Value) (bytes : List ℕ) → AreSpelledValues version vs bytes → bytes ≡ flat_map (spell_value version) vs
  values-flat [] bytes h = h
  values-flat (v ∷ vs) bytes h = h.4 ∙ ap₂ (λ (x y : List ℕ). x ++ y) (value-flat v h.0 h.2) (values-flat vs h.1 h.3)

  values-again : (vs : List Value) (bytes : List ℕ) → AreSpelledValues version vs bytes → (rest : List ℕ) → times (length vs) (parse_value version) (flat_map (spell_value version) vs ++ rest) ≡ Good vs rest
  unfolding times
  values-again [] bytes h rest = done_good [] rest
  values-again (v ∷ vs) bytes h rest =
      let text = flat_map (spell_value version) vs in
      let others = values-again vs h.1 h.3 rest in
      ap (times (suc (length vs)) (parse_value version)) (append_assoc (spell_value version v) text rest)
      ∙ then_good _ _ (spell_value version v ++ (text ++ rest)) (text ++ rest) rest v (v ∷ vs) (value-again v h.0 h.2 (text ++ rest)) (then_good _ _ (text ++ rest) rest rest vs (v ∷ vs) others (done_good (v ∷ vs) rest))

  values-related : (count : ℕ) (bytes rest : List ℕ) (vs : List Value) → times count (parse_value version) bytes ≡ Good vs rest → AreSpelledValues version vs (flat_map (spell_value version) vs)
  unfolding times
  values-related zero bytes rest vs h =
      let ends = done_parts [] vs bytes rest h in
      subst (λ (x : List Value). AreSpelledValues version x (flat_map (spell_value version) x)) ends.0 refl
  values-related (suc count) bytes rest vs h =
      let a = then_parts _ _ bytes rest vs h in
      let b = then_parts _ _ a.mid rest vs a.second in
      let ends = done_parts (a.thing ∷ b.thing) vs b.mid rest b.second in
      let first = value-spelled bytes a.mid a.thing a.first in
      let others = values-related count a.mid b.mid b.thing b.first in
      subst (λ (x : List Value). AreSpelledValues version x (flat_map (spell_value version) x)) ends.0 (spell_value version a.thing, flat_map (spell_value version) b.thing, first, others, refl)

  -- ---- what is written decodes to itself, or to nothing

  abbrev text_of : Piece → List ℕ
  text_of p = flat_map (spell_value version) p.values

  flat : (p : Piece) (rest : List ℕ) → piece_row version p ++ rest ≡ length p.values ∷ (text_of p ++ (spell_cert p.cert ++ rest))
  flat p rest = ap (λ (z : List ℕ). length p.values ∷ z) (append_assoc (text_of p) (spell_cert p.cert) rest)

  counted : (p : Piece) (behind : List ℕ) → length p.values < 256 → such_that few byte (length p.values ∷ behind) ≡ Good (length p.values) behind
  counted p behind small = test_passed few byte (length p.values ∷ behind) behind (length p.values) (byte_again (length p.values) behind) (lt-ltb (length p.values) 256 small)

  both-good : (p : Piece) (rest : List ℕ) → length p.values < 256 → times (length p.values) (parse_value version) (text_of p ++ (spell_cert p.cert ++ rest)) ≡ Good p.values (spell_cert p.cert ++ rest)
      → parse_cert p.epoch.0 (spell_cert p.cert ++ rest) ≡ Good p.cert rest → parse_piece version p.epoch.0 (piece_row version p ++ rest) ≡ Good p rest
  both-good p rest small values cert =
      let e = p.epoch.0 in
      let many = length p.values in
      let behind : List ℕ = spell_cert p.cert ++ rest in
      let last = then_good (parse_cert e) (λ cert. done (made e p.values cert)) behind rest rest p.cert p cert (done_good p rest) in
      let second = then_good (times many (parse_value version)) (after_values e) (text_of p ++ behind) behind rest p.values p values last in
      ap (parse_piece version e) (flat p rest) ∙ piece-by version e (many ∷ (text_of p ++ behind))
      ∙ then_good (such_that few byte) (after_count version e) (many ∷ (text_of p ++ behind)) (text_of p ++ behind) rest many p (counted p (text_of p ++ behind) small) second

  behind-bad : (p : Piece) (rest : List ℕ) → length p.values < 256 → IsBad (after_count version p.epoch.0 (length p.values) (text_of p ++ (spell_cert p.cert ++ rest))) → IsBad (parse_piece version p.epoch.0 (piece_row version p ++ rest))
  behind-bad p rest small k =
      let e = p.epoch.0 in
      let behind : List ℕ = text_of p ++ (spell_cert p.cert ++ rest) in
      (_, ap (parse_piece version e) (flat p rest) ∙ piece-by version e (length p.values ∷ behind) ∙ then_bad (such_that few byte) (after_count version e) (length p.values ∷ behind) behind (length p.values) k.0 (counted p behind small) k.1)

  values-bad : (p : Piece) (rest : List ℕ) → length p.values < 256 → IsBad (times (length p.values) (parse_value version) (text_of p ++ (spell_cert p.cert ++ rest))) → IsBad (parse_piece version p.epoch.0 (piece_row version p ++ rest))
  values-bad p rest small k =
      let behind : List ℕ = text_of p ++ (spell_cert p.cert ++ rest) in
      behind-bad p rest small (k.0, first_bad (times (length p.values) (parse_value version)) (after_values p.epoch.0) behind k.0 k.1)

  cert-bad : (p : Piece) (rest : List ℕ) → length p.values < 256 → times (length p.values) (parse_value version) (text_of p ++ (spell_cert p.cert ++ rest)) ≡ Good p.values (spell_cert p.cert ++ rest)
      → IsBad (parse_cert p.epoch.0 (spell_cert p.cert ++ rest)) → IsBad (parse_piece version p.epoch.0 (piece_row version p ++ rest))
  cert-bad p rest small values k =
      let e = p.epoch.0 in
      let behind : List ℕ = spell_cert p.cert ++ rest in
      let last = first_bad (parse_cert e) (λ cert. done (made e p.values cert)) behind k.0 k.1 in
      behind-bad p rest small (_, then_bad (times (length p.values) (parse_value version)) (after_values e) (text_of p ++ behind) behind p.values k.0 values last)

  three_of : (second : Bool) → (eqb 3 0 || eqb 3 (cond second 2 1)) ≡ false
  three_of true = refl
  three_of false = refl

  value-never : (rest : List ℕ) → IsBad (parse_value version (3 ∷ rest))
  unfolding parse_value
  value-never rest = (0, first_bad (such_that (is_first version) byte) _ (3 ∷ rest) 0 (test_failed (is_first version) byte (3 ∷ rest) rest 3 (byte_again 3 rest) (three_of (is_second version))))

  one-never : (rest : List ℕ) → IsBad (times 1 (parse_value version) (3 ∷ rest))
  unfolding times
  one-never rest = let k = value-never rest in (k.0, first_bad _ _ (3 ∷ rest) k.0 k.1)

  never : (e : ℕ) (rest : List ℕ) → IsBad (parse_piece version e (no_piece ++ rest))
  never e rest =
      let k = one-never rest in
      let values = first_bad (times 1 (parse_value version)) (after_values e) (3 ∷ rest) k.0 k.1 in
      (_, piece-by version e (no_piece ++ rest) ∙ then_bad (such_that few byte) (after_count version e) (no_piece ++ rest) (3 ∷ rest) 1 k.0 (test_passed few byte (1 ∷ (3 ∷ rest)) (3 ∷ rest) 1 (byte_again 1 (3 ∷ rest)) refl) values)

  abbrev WholePiece : Piece → List ℕ → Type 0
  WholePiece p bytes = ((rest : List ℕ) → parse_piece version p.epoch.0 (bytes ++ rest) ≡ Good p rest) ⊎ ((rest : List ℕ) → IsBad (parse_piece version p.epoch.0 (bytes ++ rest)))

  row-whole : (p : Piece) → length p.values < 256 → p.cert.epoch.0 ≡ p.epoch.0 → WholePiece p (piece_row version p)
  row-whole p small same =
      elim (times_whole (spell_value version) (parse_value version) (value_grammar version) p.values) [
        | inr bad ↦ inr (λ rest. values-bad p rest small (bad (spell_cert p.cert ++ rest)))
        | inl good ↦ elim (cert-whole p.cert) [
          | inl again ↦ inl (λ rest. both-good p rest small (good (spell_cert p.cert ++ rest)) (subst (λ (k : ℕ). parse_cert k (spell_cert p.cert ++ rest) ≡ Good p.cert rest) same (again rest)))
          | inr bad ↦ inr (λ rest. cert-bad p rest small (good (spell_cert p.cert ++ rest)) (subst (λ (k : ℕ). IsBad (parse_cert k (spell_cert p.cert ++ rest))) same (bad rest)))
        ]
      ]

  pub piece-whole : (p : Piece) → WholePiece p (spell_piece version p)
  piece-whole p = go (fits p) refl
    where
      go : (b : Bool) → fits p ≡ b → WholePiece p (spell_piece version p)
      go true q =
          let a = and-true (p.cert.epoch.0 == p.epoch.0) (nat_lt (length p.values) 256) q in
          rw q (row-whole p (ltb-true (length p.values) 256 a.1) (is-eq p.cert.epoch.0 p.epoch.0 a.0))
      go false q = rw q (inr (λ rest. never p.epoch.0 rest))

  -- ---- what decodes

  record WasRead (e : ℕ) (bytes rest : List ℕ) (p : Piece) : Type 0 where
    spelled : IsSpelledPiece version e p (piece_row version p)
    parts : bytes ≡ piece_row version p ++ rest

  was-read : (e : ℕ) (bytes rest : List ℕ) (p : Piece) → parse_piece version e bytes ≡ Good p rest → WasRead e bytes rest p
  was-read e bytes rest p h =
      let a = then_parts (such_that few byte) (after_count version e) bytes rest p (rw (parse_piece-is version e) at h) in
      let v = then_parts (times a.thing (parse_value version)) (after_values e) a.mid rest p a.second in
      let k = then_parts (parse_cert e) (λ cert. done (made e v.thing cert)) v.mid rest p v.second in
      let d = done_parts (made e v.thing k.thing) p k.mid rest k.second in
      let count = test_parts few byte bytes a.mid a.thing a.first in
      let values = times_parts (spell_value version) (parse_value version) (value_grammar version) a.thing a.mid v.mid v.thing v.first in
      let small : length v.thing < 256 = subst (λ (z : ℕ). z < 256) (sym values.count_is) (ltb-true a.thing 256 count.1) in
      let text = flat_map (spell_value version) v.thing in
      let cert : v.mid ≡ spell_cert k.thing ++ rest = cert-only e v.mid k.mid k.thing k.first ∙ ap (λ (z : List ℕ). spell_cert k.thing ++ z) d.1 in
      let whole : bytes ≡ length v.thing ∷ (text ++ (spell_cert k.thing ++ rest)) = byte_parts bytes a.mid a.thing count.0 ∙ ap (λ (z : ℕ). z ∷ a.mid) (sym values.count_is) ∙ ap (λ (z : List ℕ). length v.thing ∷ z) (values.parts ∙ ap (λ (z : List ℕ). text ++ z) cert) in
      subst (λ (z : Piece). WasRead e bytes rest z) d.0 (record {
        spelled = record {
          own = refl;
          count_fits = small;
          front = text;
          values_spelled = values-related a.thing a.mid v.mid v.thing v.first;
          behind = spell_cert k.thing;
          cert_spelled = cert-related e v.mid k.mid k.thing k.first;
          row = refl;
        };
        parts = whole ∙ sym (flat (made e v.thing k.thing) rest);
      })

  -- ---- the grammar, and the table

  table-row : (e : ℕ) (p : Piece) (bytes : List ℕ) → IsSpelledPiece version e p bytes → bytes ≡ piece_row version p
  table-row e p bytes h = h.row ∙ ap₂ (λ (x y : List ℕ). length p.values ∷ (x ++ y)) (values-flat p.values h.front h.values_spelled) (cert-spelled e p.cert h.behind h.cert_spelled)

  fits-is : (e : ℕ) (p : Piece) (bytes : List ℕ) → IsSpelledPiece version e p bytes → fits p ≡ true
  fits-is e p bytes h = both (p.cert.epoch.0 == p.epoch.0) (nat_lt (length p.values) 256) ((Decides-eqb p.cert.epoch.0 p.epoch.0).1 (h.cert_spelled.epoch ∙ sym h.own)) (lt-ltb (length p.values) 256 h.count_fits)

  piece-spelled : (e : ℕ) (p : Piece) (bytes : List ℕ) → IsSpelledPiece version e p bytes → bytes ≡ spell_piece version p
  piece-spelled e p bytes h = let t = fits-is e p bytes h in rw t (table-row e p bytes h)

  pub piece-only : (e : ℕ) (bytes rest : List ℕ) (p : Piece) → parse_piece version e bytes ≡ Good p rest → bytes ≡ spell_piece version p ++ rest
  piece-only e bytes rest p h =
      let r = was-read e bytes rest p h in
      r.parts ∙ ap (λ (z : List ℕ). z ++ rest) (piece-spelled e p (piece_row version p) r.spelled)

  piece-again : (e : ℕ) (p : Piece) (bytes rest : List ℕ) → IsSpelledPiece version e p bytes → parse_piece version e (piece_row version p ++ rest) ≡ Good p rest
  piece-again e p bytes rest h =
      let cert : parse_cert e (spell_cert p.cert ++ rest) ≡ Good p.cert rest = ap (λ (z : List ℕ). parse_cert e (z ++ rest)) (sym (cert-spelled e p.cert h.behind h.cert_spelled)) ∙ cert-again e p.cert h.behind rest h.cert_spelled in
      let values = values-again p.values h.front h.values_spelled (spell_cert p.cert ++ rest) in
      subst (λ (k : ℕ). parse_piece version k (piece_row version p ++ rest) ≡ Good p rest) h.own (both-good p rest h.count_fits values (subst (λ (k : ℕ). parse_cert k (spell_cert p.cert ++ rest) ≡ Good p.cert rest) (sym h.own) cert))

  pub piece-table : (e : ℕ) (p : Piece) (bytes : List ℕ) → (parse_piece version e bytes ≡ Good p []) ↔ IsSpelledPiece version e p bytes
  piece-table e p bytes = (
    λ h. let r = was-read e bytes [] p h in
        subst (λ (z : List ℕ). IsSpelledPiece version e p z) (sym (r.parts ∙ append-nil (piece_row version p))) r.spelled,
    λ s. ap (parse_piece version e) (table-row e p bytes s ∙ sym (append-nil (piece_row version p))) ∙ piece-again e p bytes [] s,
  )
