-- Reading field by field is what the parsers do.
use Rattle.std.proofs.Common.{◌≡◌, ◌≢◌, ◌<◌, ℕ, zero, suc, true, false, refl, subst, arith}
use Rattle.iss_base.proofs.Lists.{eqb-other}
use Rattle.iss_request.specs.Fields.{IsRead, IsUnreadable, Reading}
use Rattle.iss_request.specs.Parsing.{Parser, ◌>>=◌, byte, done, number, such_that}
use Rattle.iss_request.proofs.Readings.{read_done, read_passed, read_then, unread_failed, unread_first, unread_tested, unread_then}
use Rattle.std.specs.Int.{w32}
use Rattle.hs_tree.specs.declared.certificates.Certificate.{Certificate}
use Rattle.hs_tree.specs.declared.certificates.Certificate.TheVariants.{Root}
use Rattle.hs_tree.specs.declared.messages.Body.{Body}
use Rattle.hs_tree.specs.Certificates.{is_phase, parse_certificate, parse_votes}
use Rattle.hs_tree.specs.Messages.{fields_of, is_message, parse_body, parse_vote}
use Rattle.hs_tree.proofs.CertificateGrammar.{after_phase, parse_certificate-is, parse_root-is, parse_votes-is}

-- two parsers that are equal
pub by-same : {A : Type 0} (p q : Parser A) {a b : Reading} {x : A} → p ≡ q → IsRead q a b x → IsRead p a b x
by-same p q e h = rw e h

pub un-same : {A : Type 0} (p q : Parser A) {a : Reading} {at : ℕ} → p ≡ q → IsUnreadable q a at → IsUnreadable p a at
un-same p q e h = rw e h

-- ---- Certificates

module _ (phases : ℕ) where
  pub behind : (view : ℕ) → 0 < view → parse_votes phases view ≡ (such_that (is_phase phases) byte >>= after_phase phases view)
  behind zero h = absurd (omega (arith, h))
  behind (suc less) h = parse_votes-is phases less

  pub root-read : {a b : Reading} (view : ℕ) → view ≡ 0 → IsRead (number w32) a b view → IsRead (parse_certificate phases) a b Root
  root-read {a} {b} view e h =
      let first : IsRead (number w32) a b 0 = subst (λ (z : ℕ). IsRead (number w32) a b z) e h in
      by-same (parse_certificate phases) (number w32 >>= parse_votes phases) (parse_certificate-is phases)
      (read_then (number w32) (parse_votes phases) first (by-same (parse_votes phases 0) (done Root) (parse_root-is phases) (read_done Root b)))

  pub votes-read : {a b c : Reading} (view : ℕ) (x : Certificate) → IsRead (number w32) a b view → IsRead (parse_votes phases view) b c x → IsRead (parse_certificate phases) a c x
  votes-read view x h k = by-same (parse_certificate phases) (number w32 >>= parse_votes phases) (parse_certificate-is phases) (read_then (number w32) (parse_votes phases) h k)

  pub view-unread : {a : Reading} {at : ℕ} → IsUnreadable (number w32) a at → IsUnreadable (parse_certificate phases) a at
  view-unread h = un-same (parse_certificate phases) (number w32 >>= parse_votes phases) (parse_certificate-is phases) (unread_first (number w32) (parse_votes phases) h)

  pub votes-unread : {a b : Reading} (view : ℕ) {at : ℕ} → IsRead (number w32) a b view → IsUnreadable (parse_votes phases view) b at → IsUnreadable (parse_certificate phases) a at
  votes-unread view h k = un-same (parse_certificate phases) (number w32 >>= parse_votes phases) (parse_certificate-is phases) (unread_then (number w32) (parse_votes phases) h k)

-- ---- Bodies

module _ (phases v : ℕ) where
  pub number-unread : {a : Reading} {at : ℕ} → IsUnreadable byte a at → IsUnreadable (parse_body phases v) a at
  unfolding parse_body
  number-unread h = unread_first (such_that (is_message phases) byte) (fields_of phases v) (unread_tested (is_message phases) byte h)

  pub unknown-unread : {a b : Reading} (n : ℕ) → is_message phases n ≡ false → IsRead byte a b n → IsUnreadable (parse_body phases v) a a.at
  unfolding parse_body
  unknown-unread n k h = unread_first (such_that (is_message phases) byte) (fields_of phases v) (unread_failed (is_message phases) byte h k)

  pub fields-read : {a b c : Reading} (n : ℕ) (x : Body) (q : Parser Body) → fields_of phases v n ≡ q → is_message phases n ≡ true → IsRead byte a b n → IsRead q b c x → IsRead (parse_body phases v) a c x
  unfolding parse_body
  fields-read n x q e t h r = read_then (such_that (is_message phases) byte) (fields_of phases v) (read_passed (is_message phases) byte h t) (by-same (fields_of phases v n) q e r)

  pub fields-unread : {a b : Reading} (n : ℕ) {at : ℕ} (q : Parser Body) → fields_of phases v n ≡ q → is_message phases n ≡ true → IsRead byte a b n → IsUnreadable q b at → IsUnreadable (parse_body phases v) a at
  unfolding parse_body
  fields-unread n q e t h r = unread_then (such_that (is_message phases) byte) (fields_of phases v) (read_passed (is_message phases) byte h t) (un-same (fields_of phases v n) q e r)

  -- if the number is none of the others, the body is a vote
  pub vote-fields : (n : ℕ) → n ≢ 1 → n ≢ 2 → n ≢ 3 → n ≢ 4 → n ≢ 5 → fields_of phases v n ≡ parse_vote phases
  vote-fields n a b c d e =
      let one = eqb-other n 1 a in
      let two = eqb-other n 2 b in
      let three = eqb-other n 3 c in
      let four = eqb-other n 4 d in
      let five = eqb-other n 5 e in
      rw (one, two, three, four, five) refl
