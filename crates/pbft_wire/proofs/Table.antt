-- A message has an encoding exactly if the table relates it to these bytes.
use Rattle.std.proofs.Common.{◌≡◌, ◌↔◌, ℕ, suc, ◌^◌, ◌==◌, ◌&&◌, Bool, true, List, [], ◌∷◌, ◌++◌, length, append-nil, refl, sym, ap, ◌∙◌, subst}
use Rattle.std.specs.Prelude.{nat_le}
use Rattle.std.specs.Int.{to_be_bytes, w16, w64}
use Rattle.std.specs.List.{flat_map, list_all}
use Rattle.std.proofs.lemmas.Bool.{eq-eqb, eqb-true, leb-true, le-leb, lt-ltb, ltb-true}
use Rattle.iss_base.proofs.Lists.{and-true, both}
use Rattle.iss_request.specs.Fields.{Good}
use Rattle.iss_request.specs.Formats.{is_signature, spell_value}
use Rattle.iss_sb.specs.Signers.{are_signers, spell_signed}
use Rattle.iss_sb.proofs.Ascending.{in-front}
use Rattle.iss_sb.proofs.SignerGrammar.{signers-are, signers-fit}
use Rattle.pbft_wire.specs.declared.messages.Certificate.{Certificate}
use Rattle.pbft_wire.specs.declared.messages.Change.{Change}
use Rattle.pbft_wire.specs.declared.messages.Message.{Message}
use Rattle.pbft_wire.specs.declared.messages.Body.{Body}
use Rattle.pbft_wire.specs.declared.messages.Body.TheVariants.{PrePrepare as Pre_prepare_body, Prepare as Prepare_body, Commit as Commit_body, ViewChange as View_change_body, NewView as New_view_body}
use Rattle.pbft_wire.specs.Certificates.{AreSpelledCertificates, IsSpelledCertificate, IsSpelledChange, certificate_bytes, change_bytes, fits_certificate, fits_certificates, fits_change, fits_count, fits_slot, fits_value, fits_view}
use Rattle.pbft_wire.specs.Messages.{AreSpelledChanges, AreSpelledSignatures, IsSpelledAt, IsSpelledMessage, IsSpelledSigned, as_is, at_bytes, fits, fits_at, fits_changes, fits_signed, message_bytes, node_change_bytes, parse, signed_bytes}
use Rattle.pbft_wire.proofs.Fields.{value-bytes, value-fits, value-spelled}
use Rattle.pbft_wire.proofs.MessageGrammar.{message-again, message-parts}

-- it has an encoding, and these bytes are it
pub record Spells (ok : Bool) (text bytes : List ℕ) : Type 0 where
  pub fits : ok ≡ true
  pub is : bytes ≡ text

module _ (version : ℕ) where
  -- ---- certificates

  certificate-table : (c : Certificate) → fits_certificate version c ≡ true →
      IsSpelledCertificate version c (certificate_bytes version c)
  certificate-table c h =
      let b = and-true (fits_slot c.slot.0) _ h in
      let d = and-true (fits_view c.view) _ b.1 in
      let f = and-true (fits_value version c.value) _ d.1 in
      let g = and-true (is_signature c.sig) _ f.1 in
      let k = and-true (fits_count (length c.prepares)) (are_signers 0 c.prepares) g.1 in
      record {
        slot_fits = ltb-true c.slot.0 (2 ^ 64) b.0;
        view_fits = ltb-true c.view (2 ^ 16) d.0;
        value = spell_value version c.value;
        value_is = value-spelled version c.value f.0;
        signed = g.0;
        few = leb-true (length c.prepares) 255 k.0;
        votes = signers-are 0 c.prepares k.1;
        row = refl;
      }

  certificate-bytes : (c : Certificate) (bytes : List ℕ) → IsSpelledCertificate version c bytes →
      Spells (fits_certificate version c) (certificate_bytes version c) bytes
  certificate-bytes c bytes h =
      let value : h.value ≡ spell_value version c.value = value-bytes version c.value h.value h.value_is in
      record {
        fits = both _ _ (lt-ltb c.slot.0 (2 ^ 64) h.slot_fits) (both _ _ (lt-ltb c.view (2 ^ 16) h.view_fits) (both _ _ (value-fits version c.value h.value h.value_is) (both _ _ h.signed (both _ _ (le-leb (length c.prepares) 255 h.few) (signers-fit 0 c.prepares h.votes)))));
        is = h.row ∙ ap (λ (z : List ℕ). to_be_bytes w64 c.slot.0 ++ (to_be_bytes w16 c.view ++ (z ++ (c.sig ++ (length c.prepares ∷ flat_map spell_signed c.prepares))))) value;
      }

  certificates-table : (from : ℕ) (cs : List Certificate) → fits_certificates version from cs ≡ true →
      AreSpelledCertificates version from cs (flat_map (certificate_bytes version) cs)
  certificates-table from [] h = refl
  certificates-table from (c ∷ cs) h =
      let t = and-true (nat_le from c.slot.0 && fits_certificate version c) (fits_certificates version (suc c.slot.0) cs) h in
      let u = and-true (nat_le from c.slot.0) (fits_certificate version c) t.0 in
      (certificate_bytes version c, flat_map (certificate_bytes version) cs, leb-true from c.slot.0 u.0, certificate-table c u.1, certificates-table (suc c.slot.0) cs t.1, refl)

  certificates-bytes : (from : ℕ) (cs : List Certificate) (bytes : List ℕ) →
      AreSpelledCertificates version from cs bytes →
      Spells (fits_certificates version from cs) (flat_map (certificate_bytes version) cs) bytes
  certificates-bytes from [] bytes h = record { fits = refl; is = h }
  certificates-bytes from (c ∷ cs) bytes h =
      let first = certificate-bytes c h.0 h.3 in
      let others = certificates-bytes (suc c.slot.0) cs h.1 h.4 in
      record {
        fits = both _ _ (both _ _ (le-leb from c.slot.0 h.2) first.fits) others.fits;
        is = h.5 ∙ ap (λ (z : List ℕ). z ++ h.1) first.is ∙ in-front (certificate_bytes version c) others.is;
      }

  -- ---- ViewChanges

  change-table : (v : ℕ) (cs : List Certificate) (sig : List ℕ) → fits_change version v cs sig ≡ true →
      IsSpelledChange version v cs sig (change_bytes version v cs sig)
  change-table v cs sig h =
      let a = and-true (fits_view v) _ h in
      let b = and-true (fits_count (length cs) && fits_certificates version 0 cs) (is_signature sig) a.1 in
      let d = and-true (fits_count (length cs)) (fits_certificates version 0 cs) b.0 in
      record {
        view_fits = ltb-true v (2 ^ 16) a.0;
        few = leb-true (length cs) 255 d.0;
        certificates = flat_map (certificate_bytes version) cs;
        certificates_are = certificates-table 0 cs d.1;
        signed = b.1;
        row = refl;
      }

  change-bytes : (v : ℕ) (cs : List Certificate) (sig bytes : List ℕ) → IsSpelledChange version v cs sig bytes →
      Spells (fits_change version v cs sig) (change_bytes version v cs sig) bytes
  change-bytes v cs sig bytes h =
      let all = certificates-bytes 0 cs h.certificates h.certificates_are in
      record {
        fits = both _ _ (lt-ltb v (2 ^ 16) h.view_fits) (both _ _ (both _ _ (le-leb (length cs) 255 h.few) all.fits) h.signed);
        is = h.row ∙ ap (λ (z : List ℕ). to_be_bytes w16 v ++ (length cs ∷ (z ++ sig))) all.is;
      }

  changes-table : (from : ℕ) (xs : List Change) → fits_changes version from xs ≡ true →
      AreSpelledChanges version from xs (flat_map (node_change_bytes version) xs)
  changes-table from [] h = refl
  changes-table from (x ∷ xs) h =
      let t = and-true (nat_le from x.node.0 && fits_change version x.view x.certificates x.sig) (fits_changes version (suc x.node.0) xs) h in
      let u = and-true (nat_le from x.node.0) (fits_change version x.view x.certificates x.sig) t.0 in
      (change_bytes version x.view x.certificates x.sig, flat_map (node_change_bytes version) xs, leb-true from x.node.0 u.0, change-table x.view x.certificates x.sig u.1, changes-table (suc x.node.0) xs t.1, refl)

  changes-bytes : (from : ℕ) (xs : List Change) (bytes : List ℕ) → AreSpelledChanges version from xs bytes →
      Spells (fits_changes version from xs) (flat_map (node_change_bytes version) xs) bytes
  changes-bytes from [] bytes h = record { fits = refl; is = h }
  changes-bytes from (x ∷ xs) bytes h =
      let first = change-bytes x.view x.certificates x.sig h.0 h.3 in
      let others = changes-bytes (suc x.node.0) xs h.1 h.4 in
      record {
        fits = both _ _ (both _ _ (le-leb from x.node.0 h.2) first.fits) others.fits;
        is = h.5 ∙ ap (λ (z : List ℕ). x.node.0 ∷ (z ++ h.1)) first.is ∙ ap (λ (z : List ℕ). x.node.0 ∷ (change_bytes version x.view x.certificates x.sig ++ z)) others.is;
      }

  -- ---- messages

  signatures-table : (sigs : List (List ℕ)) → list_all is_signature sigs ≡ true →
      AreSpelledSignatures sigs (flat_map as_is sigs)
  signatures-table [] h = refl
  signatures-table (sig ∷ sigs) h = let t = and-true (is_signature sig) (list_all is_signature sigs) h in (flat_map as_is sigs, t.0, signatures-table sigs t.1, refl)

  signatures-bytes : (sigs : List (List ℕ)) (bytes : List ℕ) → AreSpelledSignatures sigs bytes →
      Spells (list_all is_signature sigs) (flat_map as_is sigs) bytes
  signatures-bytes [] bytes h = record { fits = refl; is = h }
  signatures-bytes (sig ∷ sigs) bytes h =
      let others = signatures-bytes sigs h.0 h.2 in
      record { fits = both _ _ h.1 others.fits; is = h.3 ∙ in-front sig others.is }

  at-table : (kind v s : ℕ) (d sig : List ℕ) → fits_at v s d sig ≡ true →
      IsSpelledAt kind v s d sig (kind ∷ at_bytes v s (d ++ sig))
  at-table kind v s d sig h =
      let a = and-true (fits_view v) (fits_slot s && ((length d == 32) && is_signature sig)) h in
      let b = and-true (fits_slot s) ((length d == 32) && is_signature sig) a.1 in
      let c = and-true (length d == 32) (is_signature sig) b.1 in
      record { view_fits = ltb-true v (2 ^ 16) a.0; slot_fits = ltb-true s (2 ^ 64) b.0; long = eqb-true (length d) 32 c.0; signed = c.1; row = refl }

  at-bytes : (kind v s : ℕ) (d sig bytes : List ℕ) → IsSpelledAt kind v s d sig bytes →
      Spells (fits_at v s d sig) (kind ∷ at_bytes v s (d ++ sig)) bytes
  at-bytes kind v s d sig bytes h = record {
    fits = both _ _ (lt-ltb v (2 ^ 16) h.view_fits) (both _ _ (lt-ltb s (2 ^ 64) h.slot_fits) (both _ _ (eq-eqb (length d) 32 h.long) h.signed));
    is = h.row;
  }

  message-table : (body : Body) (sig : List ℕ) → fits_signed version body sig ≡ true → IsSpelledSigned version body sig (signed_bytes version body sig)
  message-table (Pre_prepare_body v slot x) sig h =
      let a = and-true (fits_view v) (fits_slot slot.0 && (fits_value version x && is_signature sig)) h in
      let b = and-true (fits_slot slot.0) (fits_value version x && is_signature sig) a.1 in
      let c = and-true (fits_value version x) (is_signature sig) b.1 in
      (ltb-true v (2 ^ 16) a.0, ltb-true slot.0 (2 ^ 64) b.0, c.1, (spell_value version x, value-spelled version x c.0, refl))
  message-table (Prepare_body v slot d) sig h = at-table 2 v slot.0 d sig h
  message-table (Commit_body v slot d) sig h = at-table 3 v slot.0 d sig h
  message-table (View_change_body v cs) sig h = (change_bytes version v cs sig, change-table v cs sig h, refl)
  message-table (New_view_body v xs sigs) sig h =
      let a = and-true (fits_view v) _ h in
      let b = and-true (fits_count (length xs) && fits_changes version 0 xs) _ a.1 in
      let c = and-true (fits_count (length xs)) (fits_changes version 0 xs) b.0 in
      let d = and-true (fits_count (length sigs) && list_all is_signature sigs) (is_signature sig) b.1 in
      let f = and-true (fits_count (length sigs)) (list_all is_signature sigs) d.0 in
      record {
        view_fits = ltb-true v (2 ^ 16) a.0;
        few = leb-true (length xs) 255 c.0;
        changes = flat_map (node_change_bytes version) xs;
        changes_are = changes-table 0 xs c.1;
        few_signatures = leb-true (length sigs) 255 f.0;
        signatures = flat_map as_is sigs;
        signatures_are = signatures-table sigs f.1;
        signed = d.1;
        row = refl;
      }

  pre_prepare-row : (v s : ℕ) (sig value spelled : List ℕ) → value ≡ spelled →
      (1 ∷ (to_be_bytes w16 v ++ (to_be_bytes w64 s ++ (value ++ sig)))) ≡ 1 ∷ at_bytes v s (spelled ++ sig)
  pre_prepare-row v s sig value spelled h = ap (λ (z : List ℕ). 1 ∷ at_bytes v s (z ++ sig)) h

  message-row : (body : Body) (sig bytes : List ℕ) → IsSpelledSigned version body sig bytes →
      Spells (fits_signed version body sig) (signed_bytes version body sig) bytes
  message-row (Pre_prepare_body v slot x) sig bytes h = record {
    fits = both _ _ (lt-ltb v (2 ^ 16) h.0) (both _ _ (lt-ltb slot.0 (2 ^ 64) h.1) (both _ _ (value-fits version x h.3.0 h.3.1) h.2));
    is = h.3.2 ∙ pre_prepare-row v slot.0 sig h.3.0 (spell_value version x) (value-bytes version x h.3.0 h.3.1);
  }
  message-row (Prepare_body v slot d) sig bytes h = at-bytes 2 v slot.0 d sig bytes h
  message-row (Commit_body v slot d) sig bytes h = at-bytes 3 v slot.0 d sig bytes h
  message-row (View_change_body v cs) sig bytes h =
      let change = change-bytes v cs sig h.0 h.1 in
      record { fits = change.fits; is = h.2 ∙ ap (λ (z : List ℕ). 4 ∷ z) change.is }
  message-row (New_view_body v xs sigs) sig bytes h =
      let all = changes-bytes 0 xs h.changes h.changes_are in
      let signed = signatures-bytes sigs h.signatures h.signatures_are in
      record {
        fits = both _ _ (lt-ltb v (2 ^ 16) h.view_fits) (both _ _ (both _ _ (le-leb (length xs) 255 h.few) all.fits) (both _ _ (both _ _ (le-leb (length sigs) 255 h.few_signatures) signed.fits) h.signed));
        is = h.row ∙ ap (λ (z : List ℕ). 5 ∷ (to_be_bytes w16 v ++ (length xs ∷ (z ++ (length sigs ∷ (h.signatures ++ sig)))))) all.is
            ∙ ap (λ (z : List ℕ). 5 ∷ (to_be_bytes w16 v ++ (length xs ∷ (flat_map (node_change_bytes version) xs ++ (length sigs ∷ (z ++ sig)))))) signed.is;
      }

  -- bytes decode as a message exactly if the table relates the two
  pub message-related : (msg : Message) (bytes : List ℕ) →
      (parse version bytes ≡ Good msg []) ↔ IsSpelledMessage version msg bytes
  message-related msg bytes = (
    (λ h.
        let t = message-parts version bytes [] msg h in
        subst (λ (z : List ℕ). IsSpelledMessage version msg z) (sym (t.parts ∙ append-nil (message_bytes version msg))) (message-table msg.body msg.sig t.fits)),
    (λ h.
        let r = message-row msg.body msg.sig bytes h in
        ap (parse version) (r.is ∙ sym (append-nil (message_bytes version msg))) ∙ message-again version msg [] r.fits),
  )
