-- A list of signers: what is encoded decodes again, and what decodes was encoded so.
use Rattle.std.proofs.Common.{◌≡◌, ℕ, suc, true, List, [], ◌∷◌, ◌++◌, length, refl, ap, ◌∙◌, subst}
use Rattle.std.specs.Prelude.{nat_le}
use Rattle.std.specs.List.{flat_map}
use Rattle.std.proofs.lemmas.Bool.{le-leb, leb-true}
use Rattle.iss_base.proofs.Lists.{and-true, both}
use Rattle.iss_request.specs.Fields.{Good}
use Rattle.iss_request.specs.Formats.{is_signature}
use Rattle.iss_request.specs.Parsing.{byte}
use Rattle.iss_request.proofs.OneSpelling.{done_good, signature_again, signature_parts}
use Rattle.iss_request.proofs.ParserLemmas.{byte_again, byte_parts, done_parts, test_parts, test_passed, then_good, then_parts}
use Rattle.iss_sb.specs.declared.signers.Signed.{Signed}
use Rattle.iss_sb.specs.Signers.{AreSigners, are_signers, is_signer, parse_signed, parse_signers, signer_of, spell_signed}
use Rattle.iss_sb.proofs.Ascending.{IsExact, IsText, ascending-again, ascending-parts, in-front}

-- ---- the test, and the same as a relation

pub signers-fit : (from : ℕ) (xs : List Signed) → AreSigners from xs → are_signers from xs ≡ true
signers-fit from [] h = refl
signers-fit from (x ∷ xs) h = both (is_signer from x) (are_signers (suc x.by.0) xs) (both (nat_le from x.by.0) (is_signature x.sig) (le-leb from x.by.0 h.0) h.1) (signers-fit (suc x.by.0) xs h.2)

pub signers-are : (from : ℕ) (xs : List Signed) → are_signers from xs ≡ true → AreSigners from xs
signers-are from [] h = tt
signers-are from (x ∷ xs) h =
    let a = and-true (is_signer from x) (are_signers (suc x.by.0) xs) h in
    let b = and-true (nat_le from x.by.0) (is_signature x.sig) a.0 in
    (leb-true from x.by.0 b.0, b.1, signers-are (suc x.by.0) xs a.1)

-- ---- one of them

signed-again : (x : Signed) (from : ℕ) (rest : List ℕ) → is_signer from x ≡ true → parse_signed from (spell_signed x ++ rest) ≡ Good x rest
unfolding parse_signed
signed-again x from rest e =
    let u = and-true (nat_le from x.by.0) (is_signature x.sig) e in
    then_good _ _ _ (x.sig ++ rest) rest x.by.0 x (test_passed (λ n. nat_le from n) byte _ _ x.by.0 (byte_again x.by.0 (x.sig ++ rest)) u.0)
    (then_good _ _ _ rest rest x.sig x (signature_again x.sig rest u.1) (done_good x rest))

signed-parts : (from : ℕ) (bytes rest : List ℕ) (x : Signed) → parse_signed from bytes ≡ Good x rest → IsText (is_signer from x) (spell_signed x) bytes rest
unfolding parse_signed
signed-parts from bytes rest x e =
    let a = then_parts _ _ bytes rest x e in
    let b = then_parts _ _ a.mid rest x a.second in
    let made : Signed = record { by = record { 0 = a.thing }; sig = b.thing } in
    let d = done_parts made x b.mid rest b.second in
    let by = test_parts (λ n. nat_le from n) byte bytes a.mid a.thing a.first in
    let sig = signature_parts a.mid b.mid b.thing b.first in
    subst (λ (z : Signed). IsText (is_signer from z) (spell_signed z) bytes rest) d.0 (record {
      parts = byte_parts bytes a.mid a.thing by.0 ∙ ap (λ (z : List ℕ). a.thing ∷ z) (sig.parts ∙ in-front b.thing d.1);
      fits = both _ _ by.1 sig.shape;
    })

pub signed-exact : IsExact parse_signed is_signer spell_signed
signed-exact = record { again = signed-again; parts = signed-parts }

-- ---- all of them

pub signers-again : (from : ℕ) (xs : List Signed) → AreSigners from xs → (rest : List ℕ) → parse_signers (length xs) from (flat_map spell_signed xs ++ rest) ≡ Good xs rest
signers-again from xs h rest = ascending-again parse_signed signer_of is_signer spell_signed signed-exact xs from rest (signers-fit from xs h)

pub record WereSigners (from count : ℕ) (bytes rest : List ℕ) (xs : List Signed) : Type 0 where
  pub signers : AreSigners from xs
  pub many : length xs ≡ count
  pub parts : bytes ≡ flat_map spell_signed xs ++ rest

pub signers-parts : (count from : ℕ) (bytes rest : List ℕ) (xs : List Signed) → parse_signers count from bytes ≡ Good xs rest → WereSigners from count bytes rest xs
signers-parts count from bytes rest xs h =
    let a = ascending-parts parse_signed signer_of is_signer spell_signed signed-exact count from bytes rest xs h in
    record { signers = signers-are from xs a.fits; many = a.counted; parts = a.parts }
