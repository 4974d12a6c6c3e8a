-- The signatures of clients on requests.
use Rattle.std.proofs.Common.{◌≡◌, ◌↔◌, ℕ, ◌+◌, ◌^◌, ◌<◌, ◌≤◌, Bool, true, ◌&&◌, not, nat_le, nat_lt, List, ◌++◌, length, length-append, take, sym, ap, ◌∙◌, subst, arith}
use Rattle.std.proofs.Math.Seq.{take-append_seam}
use Rattle.std.proofs.lemmas.Bool.{le-leb, lt-ltb}
use Rattle.std.proofs.lemmas.Slice.{take-put_mid}
use borrow.Rule.Slice.PartMut.{put_mid}
use Rattle.iss_base.proofs.Lists.{same-test}
use Rattle.iss_keys.proofs.DirectoryLemmas.{verified-by}
use Rattle.iss_keys.specs.Directories.{DirectoryView, VerifiesBy}
use Rattle.iss_keys.specs.VerifiedBy.{is_verified_by}
use Rattle.iss_rules.specs.Concrete.{is_signed_by, keys_of, request_statement, rules_of}
use Rattle.iss_rules.specs.Judge.{any}
use Rattle.iss_request.specs.declared.requests.Request.{Request}
use Rattle.iss_request.specs.declared.setups.Setup.{Setup}

-- A buffer begins with eight bytes, then the payload.
pub statement-put : (head rest piece payload : List ℕ) (k : ℕ) → length head ≡ 8 → piece ≡ payload → take (8 + length payload) (put_mid 8 k (head ++ rest) piece) ≡ head ++ payload
statement-put head rest piece payload k eight same =
    let room : 8 ≤ length (head ++ rest) = omega (arith, length-append head rest, eight) in
    take-put_mid 8 k (head ++ rest) piece (8 + length payload) (ap (λ (z : List ℕ). 8 + length z) (sym same)) room
    ∙ ap (λ (z : List ℕ). z ++ piece) (subst (λ (n : ℕ). take n (head ++ rest) ≡ head) eight (take-append_seam head rest))
    ∙ ap (λ (z : List ℕ). head ++ z) same

-- The directory verifies the statement if and only if the request is signed.
pub signed-is : (d : DirectoryView) (q : Request) (statement sig : List ℕ) (b : Bool) → q.id.number < 2 ^ 32 → length q.payload ≤ 256 → statement ≡ request_statement q.id q.payload → sig ≡ q.sig →
    ((b ≡ true) ↔ VerifiesBy d.clients q.id.client statement sig) → b ≡ is_signed_by d q
signed-is d q statement sig b small few is same h =
    let fits : nat_lt q.id.number (2 ^ 32) ≡ true = lt-ltb q.id.number (2 ^ 32) small in
    let short : nat_le (length q.payload) 256 ≡ true = le-leb (length q.payload) 256 few in
    let there : (b ≡ true) ↔ VerifiesBy d.clients q.id.client (request_statement q.id q.payload) q.sig =
    subst (λ (z : List ℕ). (b ≡ true) ↔ VerifiesBy d.clients q.id.client (request_statement q.id q.payload) z) same
    (subst (λ (z : List ℕ). (b ≡ true) ↔ VerifiesBy d.clients q.id.client z sig) is h) in
    same-test b (is_verified_by d.clients q.id.client (request_statement q.id q.payload) q.sig) there
    (verified-by d.clients q.id.client (request_statement q.id q.payload) q.sig)
    ∙ sym (ap (λ (z : Bool). z && (nat_le (length q.payload) 256 && is_verified_by d.clients q.id.client (request_statement q.id q.payload) q.sig)) fits
    ∙ ap (λ (z : Bool). z && is_verified_by d.clients q.id.client (request_statement q.id q.payload) q.sig) short)

-- The directory of a set-up agrees with the set-up's rules.
pub under-setup : {b : Bool} (s : Setup) (d : DirectoryView) (batch : List Request) → d ≡ keys_of s →
    any (λ (q : Request). not (is_signed_by d q)) batch ≡ b → any (λ (q : Request). not ((rules_of s).signed q)) batch ≡ b
under-setup {b} s d batch is h = subst (λ (z : DirectoryView). any (λ (q : Request). not (is_signed_by z q)) batch ≡ b) is h
