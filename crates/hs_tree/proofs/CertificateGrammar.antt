-- A certificate has at most one encoding, and decoding is the relation of the encoding.
use Rattle.std.proofs.Common.{◌≡◌, ◌<◌, ℕ, zero, suc, ◌^◌, ◌==◌, ◌&&◌, Bool, true, false, List, [], ◌∷◌, ◌++◌, length, refl, sym, ap, ◌∙◌, subst, inl, inr, arith}
use Rattle.std.specs.Prelude.{nat_le, nat_lt}
use Rattle.std.specs.Int.{to_be_bytes, w32}
use Rattle.std.specs.List.{flat_map}
use Rattle.std.proofs.lemmas.Bool.{le-leb, leb-true, lt-ltb, ltb-true}
use Rattle.std.proofs.lemmas.Bool.Decides.{Decides-eqb}
use Rattle.iss_base.proofs.Lists.{and-true, both}
use Rattle.iss_request.specs.Fields.{Good, IsGrammar}
use Rattle.iss_request.specs.Parsing.{Parser, ◌>>=◌, block, byte, done, number, such_that}
use Rattle.iss_request.proofs.OneSpelling.{done_good}
use Rattle.iss_request.proofs.ParserLemmas.{block_parts, byte_parts, done_parts, number_parts, test_parts, then_parts, wide32}
use Rattle.iss_sb.proofs.Fields.{few}
use Rattle.iss_sb.specs.Signers.{are_signers, parse_signers, spell_signed}
use Rattle.iss_sb.proofs.SignerGrammar.{signers-again, signers-are, signers-fit, signers-parts}
use Rattle.hs_tree.specs.declared.certificates.Certificate.{Certificate}
use Rattle.hs_tree.specs.declared.certificates.Certificate.TheVariants.{Root, Votes}
use Rattle.iss_sb.specs.declared.signers.Signed.{Signed}
use Rattle.hs_tree.specs.Certificates.{AreSpelledVotes, IsSpelledCertificate, are_votes, fits, is_phase, no_certificate, parse_certificate, parse_votes, root_row, spell_certificate, votes_row}
use Rattle.hs_tree.proofs.Rows.{Again, Never, Whole, block-field, by-same, byte-field, byte-never, first-never, glue, last-again, never-same, number-field, then-again, then-never}

-- ---- Which certificates have an encoding

fits-is : (phases view phase : ℕ) (d : List ℕ) (votes : List Signed) (bytes : List ℕ) → AreSpelledVotes phases view phase d votes bytes → fits phases view phase d votes ≡ true
fits-is phases view phase d votes bytes h =
    both _ _ (both _ _ (lt-ltb 0 view h.view_low) (lt-ltb view (2 ^ 32) h.view_fits))
    (both _ _ (both _ _ (both _ _ (le-leb 1 phase h.phase_low) (le-leb phase phases h.phase_fits)) ((Decides-eqb (length d) 32).1 h.digest_fits))
    (both _ _ (lt-ltb (length votes) 256 h.count_fits) (signers-fit 0 votes h.signers)))

fits-of : (phases view phase : ℕ) (d : List ℕ) (votes : List Signed) → fits phases view phase d votes ≡ true → AreSpelledVotes phases view phase d votes (votes_row view phase d votes)
fits-of phases view phase d votes h =
    let a = and-true (nat_lt 0 view && nat_lt view (2 ^ 32)) _ h in
    let v = and-true (nat_lt 0 view) (nat_lt view (2 ^ 32)) a.0 in
    let b = and-true (is_phase phases phase && (length d == 32)) (are_votes votes) a.1 in
    let q = and-true (is_phase phases phase) (length d == 32) b.0 in
    let k = and-true (nat_le 1 phase) (nat_le phase phases) q.0 in
    let c = and-true (nat_lt (length votes) 256) (are_signers 0 votes) b.1 in
    record {
      view_low = ltb-true 0 view v.0;
      view_fits = ltb-true view (2 ^ 32) v.1;
      phase_low = leb-true 1 phase k.0;
      phase_fits = leb-true phase phases k.1;
      digest_fits = (Decides-eqb (length d) 32).0 q.1;
      count_fits = ltb-true (length votes) 256 c.0;
      signers = signers-are 0 votes c.1;
      row = refl;
    }

-- ---- The parsers, field by field

module _ (phases : ℕ) where
  abbrev pub make : ℕ → ℕ → List ℕ → List Signed → Certificate
  make view phase d votes = Votes view phase d votes

  abbrev pub after_count : ℕ → ℕ → List ℕ → ℕ → Parser Certificate
  after_count view phase d count = parse_signers count 0 >>= λ votes. done (make view phase d votes)

  abbrev pub after_digest : ℕ → ℕ → List ℕ → Parser Certificate
  after_digest view phase d = such_that few byte >>= after_count view phase d

  abbrev pub after_phase : ℕ → ℕ → Parser Certificate
  after_phase view phase = block 32 >>= after_digest view phase

  pub parse_votes-is : (less : ℕ) → parse_votes phases (suc less) ≡ (such_that (is_phase phases) byte >>= after_phase (suc less))
  unfolding parse_votes
  parse_votes-is less = refl

  pub parse_root-is : parse_votes phases 0 ≡ done Root
  unfolding parse_votes
  parse_root-is = refl

  pub parse_certificate-is : parse_certificate phases ≡ (number w32 >>= parse_votes phases)
  unfolding parse_certificate
  parse_certificate-is = refl

  -- ---- What the relation gives is decoded

  behind-again : (less phase : ℕ) (d : List ℕ) (votes : List Signed) (bytes : List ℕ) → AreSpelledVotes phases (suc less) phase d votes bytes →
      Again (phase ∷ d ++ length votes ∷ flat_map spell_signed votes) (parse_votes phases (suc less)) (Votes (suc less) phase d votes)
  behind-again less phase d votes bytes h =
      let c : Certificate = Votes (suc less) phase d votes in
      let text = flat_map spell_signed votes in
      let signers = last-again (parse_signers (length votes) 0) (make (suc less) phase d) text votes (signers-again 0 votes h.signers) in
      let count = then-again (such_that few byte) (after_count (suc less) phase d) (length votes ∷ []) text (length votes) c (byte-field few (length votes) (lt-ltb (length votes) 256 h.count_fits)) signers in
      let digest = then-again (block 32) (after_digest (suc less) phase) d (length votes ∷ text) d c (block-field 32 d h.digest_fits) count in
      let is = both _ _ (le-leb 1 phase h.phase_low) (le-leb phase phases h.phase_fits) in
      by-same (phase ∷ d ++ length votes ∷ text) (parse_votes phases (suc less)) _ c (parse_votes-is less) (then-again (such_that (is_phase phases) byte) (after_phase (suc less)) (phase ∷ []) (d ++ length votes ∷ text) phase c (byte-field (is_phase phases) phase is) digest)

  votes-again : (view phase : ℕ) (d : List ℕ) (votes : List Signed) (bytes : List ℕ) → AreSpelledVotes phases view phase d votes bytes →
      Again (phase ∷ d ++ length votes ∷ flat_map spell_signed votes) (parse_votes phases view) (Votes view phase d votes)
  votes-again zero phase d votes bytes h = let low = h.view_low in absurd (omega (arith, low))
  votes-again (suc less) phase d votes bytes h = behind-again less phase d votes bytes h

  pub certificate-again : (c : Certificate) (bytes : List ℕ) → IsSpelledCertificate phases c bytes → Again bytes (parse_certificate phases) c
  certificate-again Root bytes h =
      let read = then-again (number w32) (parse_votes phases) root_row [] 0 Root (number-field w32 (2 ^ 32) wide32 0 (omega arith)) (by-same [] (parse_votes phases 0) (done Root) Root parse_root-is (λ rest. done_good Root rest)) in
      subst (λ (z : List ℕ). Again z (parse_certificate phases) Root) (sym h) (by-same root_row (parse_certificate phases) _ Root parse_certificate-is read)
  certificate-again (Votes view phase d votes) bytes h =
      let c : Certificate = Votes view phase d votes in
      let read = then-again (number w32) (parse_votes phases) (to_be_bytes w32 view) (phase ∷ d ++ length votes ∷ flat_map spell_signed votes) view c (number-field w32 (2 ^ 32) wide32 view h.view_fits) (votes-again view phase d votes bytes h) in
      subst (λ (z : List ℕ). Again z (parse_certificate phases) c) (sym h.row) (by-same (votes_row view phase d votes) (parse_certificate phases) _ c parse_certificate-is read)

  -- ---- What is decoded is in the relation

  pub record IsCertificate (bytes rest : List ℕ) (c : Certificate) : Type 0 where
    pub front : List ℕ
    pub spelled : IsSpelledCertificate phases c front
    pub parts : bytes ≡ front ++ rest

  behind-parts : (view : ℕ) (bytes mid rest : List ℕ) (c : Certificate) → view < 2 ^ 32 → bytes ≡ to_be_bytes w32 view ++ mid → parse_votes phases view mid ≡ Good c rest → IsCertificate bytes rest c
  behind-parts zero bytes mid rest c below front h =
      let none : done Root mid ≡ Good c rest = rw parse_root-is at h in
      let d = done_parts Root c mid rest none in
      subst (λ (z : Certificate). IsCertificate bytes rest z) d.0 (record { front = root_row; spelled = refl; parts = front ∙ ap (λ (x : List ℕ). root_row ++ x) d.1 })
  behind-parts (suc less) bytes mid rest c below front h =
      let a = then_parts (such_that (is_phase phases) byte) (after_phase (suc less)) mid rest c (rw (parse_votes-is less) at h) in
      let b = then_parts (block 32) (after_digest (suc less) a.thing) a.mid rest c a.second in
      let n = then_parts (such_that few byte) (after_count (suc less) a.thing b.thing) b.mid rest c b.second in
      let v = then_parts (parse_signers n.thing 0) (λ votes. done (make (suc less) a.thing b.thing votes)) n.mid rest c n.second in
      let d = done_parts (Votes (suc less) a.thing b.thing v.thing) c v.mid rest v.second in
      let phase = test_parts (is_phase phases) byte mid a.mid a.thing a.first in
      let range = and-true (nat_le 1 a.thing) (nat_le a.thing phases) phase.1 in
      let digest = block_parts 32 a.mid b.mid b.thing b.first in
      let count = test_parts few byte b.mid n.mid n.thing n.first in
      let votes = signers-parts n.thing 0 n.mid v.mid v.thing v.first in
      let text = flat_map spell_signed v.thing in
      let small : length v.thing < 256 = subst (λ (k : ℕ). k < 256) (sym votes.many) (ltb-true n.thing 256 count.1) in
      let counted : b.mid ≡ (length v.thing ∷ text) ++ rest = byte_parts b.mid n.mid n.thing count.0 ∙ ap (λ (k : ℕ). k ∷ n.mid) (sym votes.many) ∙ ap (λ (x : List ℕ). length v.thing ∷ x) (votes.parts ∙ ap (λ (x : List ℕ). text ++ x) d.1) in
      let inner : mid ≡ (a.thing ∷ b.thing ++ length v.thing ∷ text) ++ rest = byte_parts mid a.mid a.thing phase.0 ∙ ap (λ (x : List ℕ). a.thing ∷ x) (glue b.thing (length v.thing ∷ text) a.mid b.mid rest digest.parts counted) in
      subst (λ (z : Certificate). IsCertificate bytes rest z) d.0 (record {
        front = votes_row (suc less) a.thing b.thing v.thing;
        spelled = record { view_low = omega arith; view_fits = below; phase_low = leb-true 1 a.thing range.0; phase_fits = leb-true a.thing phases range.1; digest_fits = digest.len; count_fits = small; signers = votes.signers; row = refl };
        parts = glue (to_be_bytes w32 (suc less)) (a.thing ∷ b.thing ++ length v.thing ∷ text) bytes mid rest front inner;
      })

  pub certificate-parts : (bytes rest : List ℕ) (c : Certificate) → parse_certificate phases bytes ≡ Good c rest → IsCertificate bytes rest c
  certificate-parts bytes rest c h =
      let a = then_parts (number w32) (parse_votes phases) bytes rest c (rw parse_certificate-is at h) in
      let view = number_parts w32 (2 ^ 32) wide32 bytes a.mid a.thing a.first in
      behind-parts a.thing bytes a.mid rest c view.below view.parts a.second

  -- ---- Encodings

  pub certificate-spelled : (c : Certificate) (bytes : List ℕ) → IsSpelledCertificate phases c bytes → bytes ≡ spell_certificate phases c
  certificate-spelled Root bytes h = h
  certificate-spelled (Votes view phase d votes) bytes h = rw (fits-is phases view phase d votes bytes h) h.row

  none : Never no_certificate (parse_certificate phases)
  none =
      let phase = first-never (such_that (is_phase phases) byte) (after_phase 1) (0 ∷ []) [] (byte-never (is_phase phases) 0 refl) in
      never-same no_certificate (parse_certificate phases) _ parse_certificate-is
      (then-never (number w32) (parse_votes phases) (to_be_bytes w32 1) (0 ∷ []) 1 (number-field w32 (2 ^ 32) wide32 1 (omega arith)) (never-same (0 ∷ []) (parse_votes phases 1) _ (parse_votes-is 0) phase))

  pub certificate-whole : (c : Certificate) → Whole (spell_certificate phases c) (parse_certificate phases) c
  certificate-whole Root = inl (certificate-again Root root_row refl)
  certificate-whole (Votes view phase d votes) = go (fits phases view phase d votes) refl
    where
      go : (b : Bool) → fits phases view phase d votes ≡ b → Whole (spell_certificate phases (Votes view phase d votes)) (parse_certificate phases) (Votes view phase d votes)
      go true q = inl (rw q (certificate-again (Votes view phase d votes) (votes_row view phase d votes) (fits-of phases view phase d votes q)))
      go false q = inr (rw q none)

  pub certificate-grammar : IsGrammar (spell_certificate phases) (parse_certificate phases)
  certificate-grammar = record {
    only = λ bytes rest c h. let r = certificate-parts bytes rest c h in r.parts ∙ ap (λ (x : List ℕ). x ++ rest) (certificate-spelled c r.front r.spelled);
    whole = certificate-whole;
  }
