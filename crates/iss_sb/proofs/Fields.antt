-- A message's number, digests and counts, read field by field.
use Rattle.std.proofs.Common.{◌≡◌, ◌<◌, ℕ, Bool, true, false, List, subst}
use Rattle.std.specs.Prelude.{nat_lt}
use Rattle.std.proofs.lemmas.Bool.{lt-ltb}
use Rattle.iss_request.specs.Fields.{Good, Bad, IsRead, IsUnreadable, Reading}
use Rattle.iss_request.specs.Parsing.{Parser, ◌>>=◌, byte, such_that}
use Rattle.iss_request.proofs.Readings.{read_passed, read_then, unread_failed, unread_first, unread_tested, unread_then}

-- bytes that decode are not also faulty
pub good-bad : {A : Type 0} (x : A) (rest : List ℕ) (at : ℕ) → Good x rest ≡ Bad at → ⊥
good-bad x rest at h = cc

-- ---- a count, which is a byte's

abbrev pub few : ℕ → Bool
few n = nat_lt n 256

pub count-read : {a b : Reading} (n : ℕ) → n < 256 → IsRead byte a b n → IsRead (such_that few byte) a b n
count-read n lt h = read_passed few byte h (lt-ltb n 256 lt)

pub count-unread : {a : Reading} {at : ℕ} → IsUnreadable byte a at → IsUnreadable (such_that few byte) a at
count-unread h = unread_tested few byte h

-- ---- a number that passes a test, and the fields after it

module _ {M : Type 0} (known : ℕ → Bool) (fields : ℕ → Parser M) where
  pub number-unread : {a : Reading} {at : ℕ} → IsUnreadable byte a at → IsUnreadable (such_that known byte >>= fields) a at
  number-unread h = unread_first (such_that known byte) fields (unread_tested known byte h)

  pub other-unread : {a b : Reading} (n : ℕ) → known n ≡ false → IsRead byte a b n → IsUnreadable (such_that known byte >>= fields) a a.at
  other-unread n k h = unread_first (such_that known byte) fields (unread_failed known byte h k)

  number-passed : {a b : Reading} (n k : ℕ) → n ≡ k → known k ≡ true → IsRead byte a b n → IsRead (such_that known byte) a b k
  number-passed {a} {b} n k e t h = read_passed known byte (subst (λ (z : ℕ). IsRead byte a b z) e h) t

  pub kind-read : {a b c : Reading} (n k : ℕ) (m : M) → n ≡ k → known k ≡ true → IsRead byte a b n → IsRead (fields k) b c m → IsRead (such_that known byte >>= fields) a c m
  kind-read n k m e t h r = read_then (such_that known byte) fields (number-passed n k e t h) r

  pub kind-unread : {a b : Reading} (n k : ℕ) {at : ℕ} → n ≡ k → known k ≡ true → IsRead byte a b n → IsUnreadable (fields k) b at → IsUnreadable (such_that known byte >>= fields) a at
  kind-unread n k e t h u = unread_then (such_that known byte) fields (number-passed n k e t h) u
