-- Certificates and ViewChanges have one encoding.
use Rattle.std.proofs.Common.{◌≡◌, ℕ, ◌&&◌, Bool, true, List, ◌∷◌, ◌++◌, length, append_assoc, refl, sym, ap, ◌∙◌, subst}
use Rattle.std.specs.Prelude.{nat_le}
use Rattle.std.specs.Int.{to_be_bytes, w16, w64}
use Rattle.std.specs.List.{flat_map}
use Rattle.iss_base.proofs.Lists.{and-true, both}
use Rattle.iss_request.specs.Fields.{Good}
use Rattle.iss_request.specs.Formats.{is_signature, spell_value}
use Rattle.iss_request.specs.Parsing.{number}
use Rattle.iss_request.proofs.OneSpelling.{done_good, signature_again, signature_parts}
use Rattle.iss_request.proofs.ParserLemmas.{done_parts, test_parts, test_passed, then_good, then_parts}
use Rattle.iss_sb.specs.Signers.{are_signers, is_signer, parse_signed, signer_of, spell_signed}
use Rattle.iss_sb.proofs.Ascending.{IsExact, IsText, ascending-again, ascending-parts, in-front}
use Rattle.iss_sb.proofs.SignerGrammar.{signed-exact}
use Rattle.pbft_wire.specs.declared.messages.Certificate.{Certificate}
use Rattle.pbft_wire.specs.declared.messages.Change.{Change}
use Rattle.pbft_wire.specs.Certificates.{certificate_bytes, change_bytes, fits_certificate, fits_certificates, fits_change, fits_count, fits_from, fits_slot, fits_value, fits_view, parse_certificate, parse_change, slot_of}
use Rattle.pbft_wire.proofs.Fields.{count-again, count-parts, slot-again, slot-parts, value-again, value-parts, view-again, view-parts}

-- ---- regrouping

three : (a b c r : List ℕ) → (a ++ (b ++ c)) ++ r ≡ a ++ (b ++ (c ++ r))
three a b c r = simp append_assoc

pub four : (a b c d r : List ℕ) → (a ++ (b ++ (c ++ d))) ++ r ≡ a ++ (b ++ (c ++ (d ++ r)))
four a b c d r = simp append_assoc

counted : (a : List ℕ) (n : ℕ) (b c r : List ℕ) → (a ++ (n ∷ (b ++ c))) ++ r ≡ a ++ (n ∷ (b ++ (c ++ r)))
counted a n b c r = simp append_assoc

counted-four : (a b c d : List ℕ) (n : ℕ) (v r : List ℕ) →
    (a ++ (b ++ (c ++ (d ++ (n ∷ v))))) ++ r ≡ a ++ (b ++ (c ++ (d ++ (n ∷ (v ++ r)))))
counted-four a b c d n v r = simp append_assoc

pub counted-twice : (a : List ℕ) (n : ℕ) (b : List ℕ) (k : ℕ) (c d r : List ℕ) →
    (a ++ (n ∷ (b ++ (k ∷ (c ++ d))))) ++ r ≡ a ++ (n ∷ (b ++ (k ∷ (c ++ (d ++ r)))))
counted-twice a n b k c d r = simp append_assoc

module _ (version : ℕ) where
  -- ---- certificates

  certificate-again : (c : Certificate) (from : ℕ) (rest : List ℕ) → fits_from version from c ≡ true →
      parse_certificate version from (certificate_bytes version c ++ rest) ≡ Good c rest
  unfolding parse_certificate
  certificate-again c from rest e =
      let a = and-true (nat_le from c.slot.0) (fits_certificate version c) e in
      let b = and-true (fits_slot c.slot.0) (fits_view c.view && (fits_value version c.value && (is_signature c.sig && (fits_count (length c.prepares) && are_signers 0 c.prepares)))) a.1 in
      let d = and-true (fits_view c.view) (fits_value version c.value && (is_signature c.sig && (fits_count (length c.prepares) && are_signers 0 c.prepares))) b.1 in
      let f = and-true (fits_value version c.value) (is_signature c.sig && (fits_count (length c.prepares) && are_signers 0 c.prepares)) d.1 in
      let g = and-true (is_signature c.sig) (fits_count (length c.prepares) && are_signers 0 c.prepares) f.1 in
      let h = and-true (fits_count (length c.prepares)) (are_signers 0 c.prepares) g.1 in
      let votes : List ℕ = flat_map spell_signed c.prepares ++ rest in
      let after_sig : List ℕ = length c.prepares ∷ votes in
      let after_value : List ℕ = c.sig ++ after_sig in
      let after_view : List ℕ = spell_value version c.value ++ after_value in
      let after_slot : List ℕ = to_be_bytes w16 c.view ++ after_view in
      ap (parse_certificate version from) (counted-four (to_be_bytes w64 c.slot.0) (to_be_bytes w16 c.view) (spell_value version c.value) c.sig (length c.prepares) (flat_map spell_signed c.prepares) rest) ∙
      then_good _ _ _ after_slot rest c.slot.0 c (test_passed (λ s. nat_le from s) (number w64) _ _ c.slot.0 (slot-again c.slot.0 after_slot b.0) a.0)
      (then_good _ _ _ after_view rest c.view c (view-again c.view after_view d.0)
      (then_good _ _ _ after_value rest c.value c (value-again version c.value after_value f.0)
      (then_good _ _ _ after_sig rest c.sig c (signature_again c.sig after_sig g.0)
      (then_good _ _ _ votes rest (length c.prepares) c (count-again (length c.prepares) votes h.0)
      (then_good _ _ _ rest rest c.prepares c (ascending-again parse_signed signer_of is_signer spell_signed signed-exact c.prepares 0 rest h.1) (done_good c rest))))))

  abbrev IsCertificate : ℕ → List ℕ → List ℕ → Certificate → Type 0
  IsCertificate from bytes rest c = IsText (fits_from version from c) (certificate_bytes version c) bytes rest

  certificate-parts : (from : ℕ) (bytes rest : List ℕ) (x : Certificate) →
      parse_certificate version from bytes ≡ Good x rest → IsCertificate from bytes rest x
  unfolding parse_certificate
  certificate-parts from bytes rest x e =
      let a = then_parts _ _ bytes rest x e in
      let b = then_parts _ _ a.mid rest x a.second in
      let c = then_parts _ _ b.mid rest x b.second in
      let d = then_parts _ _ c.mid rest x c.second in
      let f = then_parts _ _ d.mid rest x d.second in
      let g = then_parts _ _ f.mid rest x f.second in
      let made : Certificate = record { slot = record { 0 = a.thing }; view = b.thing; value = c.thing; sig = d.thing; prepares = g.thing } in
      let ends = done_parts made x g.mid rest g.second in
      let first = test_parts (λ s. nat_le from s) (number w64) bytes a.mid a.thing a.first in
      let slot = slot-parts bytes a.mid a.thing first.0 in
      let view = view-parts a.mid b.mid b.thing b.first in
      let value = value-parts version b.mid c.mid c.thing c.first in
      let sig = signature_parts c.mid d.mid d.thing d.first in
      let many = count-parts d.mid f.mid f.thing f.first in
      let votes = ascending-parts parse_signed signer_of is_signer spell_signed signed-exact f.thing 0 f.mid g.mid g.thing g.first in
      let text : List ℕ = flat_map spell_signed g.thing in
      let same : f.thing ≡ length g.thing = sym votes.counted in
      let end_ : d.mid ≡ length g.thing ∷ (text ++ rest) = many.parts ∙ ap (λ (n : ℕ). n ∷ f.mid) same ∙ ap (λ (z : List ℕ). length g.thing ∷ z) (votes.parts ∙ in-front text ends.1) in
      let behind : a.mid ≡ to_be_bytes w16 b.thing ++ (spell_value version c.thing ++ (d.thing ++ (length g.thing ∷ (text ++ rest)))) = view.parts ∙ in-front (to_be_bytes w16 b.thing) (value.parts ∙ in-front (spell_value version c.thing) (sig.parts ∙ in-front d.thing end_)) in
      let low : fits_count (length g.thing) ≡ true = subst (λ (n : ℕ). fits_count n ≡ true) same many.fits in
      subst (λ (z : Certificate). IsCertificate from bytes rest z) ends.0 (record {
        parts = slot.parts ∙ in-front (to_be_bytes w64 a.thing) behind ∙ sym (counted-four (to_be_bytes w64 a.thing) (to_be_bytes w16 b.thing) (spell_value version c.thing) d.thing (length g.thing) text rest);
        fits = both _ _ first.1 (both _ _ slot.fits (both _ _ view.fits (both _ _ value.fits (both _ _ sig.shape (both _ _ low votes.fits)))));
      })

  certificate-exact : IsExact (parse_certificate version) (fits_from version) (certificate_bytes version)
  certificate-exact = record { again = certificate-again; parts = certificate-parts }

  -- ---- ViewChanges

  abbrev pub fits_one : Change → Bool
  fits_one x = fits_change version x.view x.certificates x.sig

  abbrev pub text_one : Change → List ℕ
  text_one x = change_bytes version x.view x.certificates x.sig

  pub change-again : (x : Change) (rest : List ℕ) → fits_one x ≡ true →
      parse_change version x.node.0 (text_one x ++ rest) ≡ Good x rest
  unfolding parse_change
  change-again x rest e =
      let cs : List Certificate = x.certificates in
      let a = and-true (fits_view x.view) ((fits_count (length cs) && fits_certificates version 0 cs) && is_signature x.sig) e in
      let b = and-true (fits_count (length cs) && fits_certificates version 0 cs) (is_signature x.sig) a.1 in
      let d = and-true (fits_count (length cs)) (fits_certificates version 0 cs) b.0 in
      let sig : List ℕ = x.sig ++ rest in
      let all : List ℕ = flat_map (certificate_bytes version) cs ++ sig in
      ap (parse_change version x.node.0) (counted (to_be_bytes w16 x.view) (length cs) (flat_map (certificate_bytes version) cs) x.sig rest) ∙
      then_good _ _ _ (length cs ∷ all) rest x.view x (view-again x.view (length cs ∷ all) a.0)
      (then_good _ _ _ all rest (length cs) x (count-again (length cs) all d.0)
      (then_good _ _ _ sig rest cs x (ascending-again (parse_certificate version) slot_of (fits_from version) (certificate_bytes version) certificate-exact cs 0 sig d.1)
      (then_good _ _ _ rest rest x.sig x (signature_again x.sig rest b.1) (done_good x rest))))

  pub record IsChange (node : ℕ) (bytes rest : List ℕ) (x : Change) : Type 0 where
    pub parts : bytes ≡ text_one x ++ rest
    pub fits : fits_one x ≡ true
    pub by : x.node.0 ≡ node

  pub change-parts : (node : ℕ) (bytes rest : List ℕ) (x : Change) → parse_change version node bytes ≡ Good x rest →
      IsChange node bytes rest x
  unfolding parse_change
  change-parts node bytes rest x e =
      let a = then_parts _ _ bytes rest x e in
      let b = then_parts _ _ a.mid rest x a.second in
      let c = then_parts _ _ b.mid rest x b.second in
      let d = then_parts _ _ c.mid rest x c.second in
      let made : Change = record { node = record { 0 = node }; view = a.thing; certificates = c.thing; sig = d.thing } in
      let ends = done_parts made x d.mid rest d.second in
      let view = view-parts bytes a.mid a.thing a.first in
      let many = count-parts a.mid b.mid b.thing b.first in
      let all = ascending-parts (parse_certificate version) slot_of (fits_from version) (certificate_bytes version) certificate-exact b.thing 0 b.mid c.mid c.thing c.first in
      let sig = signature_parts c.mid d.mid d.thing d.first in
      let text : List ℕ = flat_map (certificate_bytes version) c.thing in
      let same : b.thing ≡ length c.thing = sym all.counted in
      let behind : a.mid ≡ length c.thing ∷ (text ++ (d.thing ++ rest)) = many.parts ∙ ap (λ (n : ℕ). n ∷ b.mid) same ∙ ap (λ (z : List ℕ). length c.thing ∷ z) (all.parts ∙ in-front text (sig.parts ∙ in-front d.thing ends.1)) in
      let low : fits_count (length c.thing) ≡ true = subst (λ (n : ℕ). fits_count n ≡ true) same many.fits in
      subst (λ (z : Change). IsChange node bytes rest z) ends.0 (record {
        parts = view.parts ∙ in-front (to_be_bytes w16 a.thing) behind ∙ sym (counted (to_be_bytes w16 a.thing) (length c.thing) text d.thing rest);
        fits = both _ _ view.fits (both _ _ (both _ _ low all.fits) sig.shape);
        by = refl;
      })
