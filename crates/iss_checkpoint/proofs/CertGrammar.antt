-- A certificate has at most one encoding, and bytes decode to a certificate exactly if the table relates them.
use Rattle.std.proofs.Common.{◌≡◌, ◌↔◌, inl, inr, ℕ, ◌<◌, ◌^◌, ◌==◌, ◌&&◌, Bool, true, false, List, [], ◌∷◌, ◌++◌, length, replicate, append_assoc, append-nil, refl, sym, ap, ◌∙◌, subst, ◌⊎◌, arith}
use Rattle.std.specs.Prelude.{nat_le, nat_lt}
use Rattle.std.specs.Int.{to_be_bytes, w64}
use Rattle.std.specs.List.{flat_map}
use Rattle.std.proofs.lemmas.Bool.{lt-ltb, ltb-true}
use Rattle.std.proofs.lemmas.Bool.Decides.{Decides-eqb}
use Rattle.iss_base.proofs.Lists.{and-true, both}
use Rattle.iss_request.specs.Fields.{Good, IsBad, IsReadAgain}
use Rattle.iss_request.specs.Formats.{parse_signature}
use Rattle.iss_request.specs.Parsing.{Parser, ◌>>=◌, block, byte, done, number, such_that}
use Rattle.iss_request.proofs.OneSpelling.{done_good}
use Rattle.iss_request.proofs.ParserLemmas.{block_again, block_parts, byte_again, byte_parts, done_parts, first_bad, number_again, number_parts, test_parts, test_passed, then_bad, then_good, then_parts, wide64}
use Rattle.iss_sb.specs.Ascending.{ascending}
use Rattle.iss_sb.specs.Signers.{are_signers, parse_signed, parse_signers, spell_signed}
use Rattle.iss_sb.proofs.Fields.{few}
use Rattle.iss_sb.proofs.SignerGrammar.{signers-again, signers-are, signers-fit, signers-parts}
use Rattle.iss_checkpoint.specs.declared.votes.Cert.{Cert}
use Rattle.iss_sb.specs.declared.signers.Signed.{Signed}
use Rattle.iss_checkpoint.specs.Certificates.{IsSpelledCert, cert_fits, cert_row, no_cert, parse_cert, spell_cert}
use Rattle.iss_checkpoint.proofs.VoteGrammar.{low-never}

-- ---- the parsers, field by field

abbrev pub made : ℕ → List ℕ → ℕ → List Signed → Cert
made e chain requests signers = record { epoch = record { 0 = e }; chain = chain; requests = requests; signers = signers }

abbrev pub after_count : ℕ → List ℕ → ℕ → ℕ → Parser Cert
after_count e chain requests count = parse_signers count 0 >>= λ signers. done (made e chain requests signers)

abbrev pub after_requests : ℕ → List ℕ → ℕ → Parser Cert
after_requests e chain requests = such_that few byte >>= after_count e chain requests

abbrev pub after_chain : ℕ → List ℕ → Parser Cert
after_chain e chain = number w64 >>= after_requests e chain

pub parse_cert-is : (e : ℕ) → parse_cert e ≡ (block 32 >>= after_chain e)
unfolding parse_cert
parse_cert-is e = refl

-- two equal parsers give equal results
same-parser : {A : Type 0} (p q : Parser A) (bytes : List ℕ) → p ≡ q → p bytes ≡ q bytes
same-parser p q bytes e = ap (λ f. f bytes) e

-- ---- what fits

fits-is : (e : ℕ) (c : Cert) (bytes : List ℕ) → IsSpelledCert e c bytes → cert_fits c ≡ true
fits-is e c bytes h =
    both (length c.chain == 32) _ ((Decides-eqb (length c.chain) 32).1 h.chain_fits)
    (both (nat_lt c.requests (2 ^ 64)) _ (lt-ltb c.requests (2 ^ 64) h.count_fits)
    (both (nat_lt (length c.signers) 256) (are_signers 0 c.signers) (lt-ltb (length c.signers) 256 h.signers_fit) (signers-fit 0 c.signers h.signers)))

fits-of : (c : Cert) → cert_fits c ≡ true → IsSpelledCert c.epoch.0 c (cert_row c)
fits-of c h =
    let k = and-true (length c.chain == 32) (nat_lt c.requests (2 ^ 64) && (nat_lt (length c.signers) 256 && are_signers 0 c.signers)) h in
    let n = and-true (nat_lt c.requests (2 ^ 64)) (nat_lt (length c.signers) 256 && are_signers 0 c.signers) k.1 in
    let s = and-true (nat_lt (length c.signers) 256) (are_signers 0 c.signers) n.1 in
    record {
      epoch = refl;
      chain_fits = (Decides-eqb (length c.chain) 32).0 k.0;
      count_fits = ltb-true c.requests (2 ^ 64) n.0;
      signers_fit = ltb-true (length c.signers) 256 s.0;
      signers = signers-are 0 c.signers s.1;
      row = refl;
    }

row-flat : (chain count text rest : List ℕ) (n : ℕ) → (chain ++ (count ++ (n ∷ text))) ++ rest ≡ chain ++ (count ++ (n ∷ (text ++ rest)))
row-flat chain count text rest n = append_assoc chain (count ++ (n ∷ text)) rest ∙ ap (λ (z : List ℕ). chain ++ z) (append_assoc count (n ∷ text) rest)

pub row-again : (e : ℕ) (c : Cert) (bytes rest : List ℕ) → IsSpelledCert e c bytes → parse_cert c.epoch.0 (cert_row c ++ rest) ≡ Good c rest
row-again e c bytes rest h =
    let at = c.epoch.0 in
    let count = to_be_bytes w64 c.requests in
    let text = flat_map spell_signed c.signers in
    let many = length c.signers in
    let behind : List ℕ = many ∷ (text ++ rest) in
    let all : List ℕ = c.chain ++ (count ++ behind) in
    let last = then_good (parse_signers many 0) (λ signers. done (made at c.chain c.requests signers)) (text ++ rest) rest rest c.signers c (signers-again 0 c.signers h.signers rest) (done_good c rest) in
    let third = then_good (such_that few byte) (after_count at c.chain c.requests) behind (text ++ rest) rest many c (test_passed few byte behind (text ++ rest) many (byte_again many (text ++ rest)) (lt-ltb many 256 h.signers_fit)) last in
    let second = then_good (number w64) (after_requests at c.chain) (count ++ behind) behind rest c.requests c (number_again w64 (2 ^ 64) wide64 c.requests behind h.count_fits) third in
    let first = then_good (block 32) (after_chain at) all (count ++ behind) rest c.chain c (block_again c.chain (count ++ behind) 32 h.chain_fits) second in
    ap (parse_cert at) (row-flat c.chain count text rest many) ∙ same-parser (parse_cert at) (block 32 >>= after_chain at) all (parse_cert-is at) ∙ first

-- ---- one signer, whose signature has height 1: no certificate

abbrev ones : ℕ
ones = 72340172838076673

one-never : (rest : List ℕ) → IsBad (parse_signers 1 0 (1 ∷ (1 ∷ rest)))
unfolding parse_signed ascending
one-never rest =
    let k = low-never 1 refl rest in
    let by = test_passed (λ n. nat_le 0 n) byte (1 ∷ (1 ∷ rest)) (1 ∷ rest) 1 (byte_again 1 (1 ∷ rest)) refl in
    (_, first_bad _ _ _ _ (then_bad _ _ _ (1 ∷ rest) 1 k.0 by (first_bad parse_signature _ (1 ∷ rest) k.0 k.1)))

never : (e : ℕ) (rest : List ℕ) → IsBad (parse_cert e (no_cert ++ rest))
never e rest =
    let chain : List ℕ = replicate 32 1 in
    let count : List ℕ = to_be_bytes w64 ones in
    let text : List ℕ = 1 ∷ (1 ∷ rest) in
    let k = one-never rest in
    let last = first_bad (parse_signers 1 0) (λ signers. done (made e chain ones signers)) text k.0 k.1 in
    let third = then_bad (such_that few byte) (after_count e chain ones) (1 ∷ text) text 1 k.0 (test_passed few byte (1 ∷ text) text 1 (byte_again 1 text) refl) last in
    let second = then_bad (number w64) (after_requests e chain) (count ++ (1 ∷ text)) (1 ∷ text) ones _ (number_again w64 (2 ^ 64) wide64 ones (1 ∷ text) (omega arith)) third in
    let first = then_bad (block 32) (after_chain e) (chain ++ (count ++ (1 ∷ text))) (count ++ (1 ∷ text)) chain _ (block_again chain (count ++ (1 ∷ text)) 32 refl) second in
    (_, same-parser (parse_cert e) (block 32 >>= after_chain e) (no_cert ++ rest) (parse_cert-is e) ∙ first)

-- ---- what decodes

record WasRead (e : ℕ) (bytes rest : List ℕ) (c : Cert) : Type 0 where
  spelled : IsSpelledCert e c (cert_row c)
  parts : bytes ≡ cert_row c ++ rest

was-read : (e : ℕ) (bytes rest : List ℕ) (c : Cert) → parse_cert e bytes ≡ Good c rest → WasRead e bytes rest c
was-read e bytes rest c h =
    let a = then_parts (block 32) (after_chain e) bytes rest c (rw (parse_cert-is e) at h) in
    let n = then_parts (number w64) (after_requests e a.thing) a.mid rest c a.second in
    let k = then_parts (such_that few byte) (after_count e a.thing n.thing) n.mid rest c n.second in
    let s = then_parts (parse_signers k.thing 0) (λ signers. done (made e a.thing n.thing signers)) k.mid rest c k.second in
    let d = done_parts (made e a.thing n.thing s.thing) c s.mid rest s.second in
    let chain = block_parts 32 bytes a.mid a.thing a.first in
    let requests = number_parts w64 (2 ^ 64) wide64 a.mid n.mid n.thing n.first in
    let count = test_parts few byte n.mid k.mid k.thing k.first in
    let read = signers-parts k.thing 0 k.mid s.mid s.thing s.first in
    let text = flat_map spell_signed s.thing in
    let number = to_be_bytes w64 n.thing in
    let small : length s.thing < 256 = subst (λ (z : ℕ). z < 256) (sym read.many) (ltb-true k.thing 256 count.1) in
    let behind : n.mid ≡ length s.thing ∷ (text ++ rest) = byte_parts n.mid k.mid k.thing count.0 ∙ ap (λ (z : ℕ). z ∷ k.mid) (sym read.many) ∙ ap (λ (z : List ℕ). length s.thing ∷ z) (read.parts ∙ ap (λ (z : List ℕ). text ++ z) d.1) in
    let flat : bytes ≡ a.thing ++ (number ++ (length s.thing ∷ (text ++ rest))) = chain.parts ∙ ap (λ (z : List ℕ). a.thing ++ z) (requests.parts ∙ ap (λ (z : List ℕ). number ++ z) behind) in
    subst (λ (z : Cert). WasRead e bytes rest z) d.0 (record {
      spelled = record { epoch = refl; chain_fits = chain.len; count_fits = requests.below; signers_fit = small; signers = read.signers; row = refl };
      parts = flat ∙ sym (row-flat a.thing number text rest (length s.thing));
    })

-- ---- the grammar, and the table

pub cert-spelled : (e : ℕ) (c : Cert) (bytes : List ℕ) → IsSpelledCert e c bytes → bytes ≡ spell_cert c
cert-spelled e c bytes h = let t = fits-is e c bytes h in rw t h.row

pub cert-only : (e : ℕ) (bytes rest : List ℕ) (c : Cert) → parse_cert e bytes ≡ Good c rest → bytes ≡ spell_cert c ++ rest
cert-only e bytes rest c h =
    let r = was-read e bytes rest c h in
    r.parts ∙ ap (λ (z : List ℕ). z ++ rest) (cert-spelled e c (cert_row c) r.spelled)

-- the decoded certificate is of the epoch, as the table has it
pub cert-related : (e : ℕ) (bytes rest : List ℕ) (c : Cert) → parse_cert e bytes ≡ Good c rest → IsSpelledCert e c (spell_cert c)
cert-related e bytes rest c h =
    let r = was-read e bytes rest c h in
    subst (λ (z : List ℕ). IsSpelledCert e c z) (cert-spelled e c (cert_row c) r.spelled) r.spelled

pub cert-whole : (c : Cert) → IsReadAgain spell_cert (parse_cert c.epoch.0) c ⊎ ((rest : List ℕ) → IsBad (parse_cert c.epoch.0 (spell_cert c ++ rest)))
cert-whole c = go (cert_fits c) refl
  where
    go : (b : Bool) → cert_fits c ≡ b → IsReadAgain spell_cert (parse_cert c.epoch.0) c ⊎ ((rest : List ℕ) → IsBad (parse_cert c.epoch.0 (spell_cert c ++ rest)))
    go true q = inl (λ rest. rw q (row-again c.epoch.0 c (cert_row c) rest (fits-of c q)))
    go false q = inr (λ rest. rw q (never c.epoch.0 rest))

-- what the table relates decodes again, whatever follows
pub cert-again : (e : ℕ) (c : Cert) (bytes rest : List ℕ) → IsSpelledCert e c bytes → parse_cert e (bytes ++ rest) ≡ Good c rest
cert-again e c bytes rest h =
    ap (λ (z : List ℕ). parse_cert e (z ++ rest)) h.row ∙ subst (λ (k : ℕ). parse_cert k (cert_row c ++ rest) ≡ Good c rest) h.epoch (row-again e c bytes rest h)

pub cert-table : (e : ℕ) (c : Cert) (bytes : List ℕ) → (parse_cert e bytes ≡ Good c []) ↔ IsSpelledCert e c bytes
cert-table e c bytes = (
  λ h. let r = was-read e bytes [] c h in
      let is = r.spelled in
      record { epoch = is.epoch; chain_fits = is.chain_fits; count_fits = is.count_fits; signers_fit = is.signers_fit; signers = is.signers; row = r.parts ∙ append-nil (cert_row c) },
  λ s. ap (parse_cert e) (sym (append-nil bytes)) ∙ cert-again e c bytes [] s,
)
