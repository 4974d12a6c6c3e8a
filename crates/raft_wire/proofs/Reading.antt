-- Reading field by field is what the parsers do.
use Rattle.std.proofs.Common.{◌≡◌, ◌≢◌, ◌<◌, ◌≤◌, ℕ, Bool, false, ◌==◌, refl, inl, inr, ◌⊎◌, arith}
use Rattle.std.proofs.lemmas.Bool.{cases_lt, le-leb, lt-leb}
use Rattle.std.specs.Prelude.{nat_le}
use Rattle.iss_request.specs.Fields.{IsRead, IsUnreadable, Reading}
use Rattle.iss_request.specs.Parsing.{Parser, byte, done, such_that}
use Rattle.iss_request.proofs.Readings.{read_done, read_passed, read_then, unread_failed, unread_first, unread_tested}
use Rattle.raft_wire.specs.Messages.{is_known, parse_flag}

-- ---- Flags

abbrev to_one : ℕ → Bool
to_one n = nat_le n 1

abbrev made-flag : ℕ → Parser Bool
made-flag n = done (n == 1)

pub flag-read : {a b : Reading} (n : ℕ) → n ≤ 1 → IsRead byte a b n → IsRead parse_flag a b (n == 1)
unfolding parse_flag
flag-read {a} {b} n le h = read_then (such_that to_one byte) made-flag (read_passed to_one byte h (le-leb n 1 le)) (read_done (n == 1) b)

pub flag-unread : {a : Reading} {at : ℕ} → IsUnreadable byte a at → IsUnreadable parse_flag a at
unfolding parse_flag
flag-unread h = unread_first (such_that to_one byte) made-flag (unread_tested to_one byte h)

pub no-flag : {a b : Reading} (n : ℕ) → 1 < n → IsRead byte a b n → IsUnreadable parse_flag a a.at
unfolding parse_flag
no-flag n lt h = unread_first (such_that to_one byte) made-flag (unread_failed to_one byte h (lt-leb n 1 lt))

-- ---- Unknown numbers

pub not-known : (n : ℕ) → n ≢ 1 → n ≢ 2 → n ≢ 3 → n ≢ 4 → is_known n ≡ false
not-known n a b c d = go (cases_lt n 1)
  where
    go : (n < 1) ⊎ (1 ≤ n) → is_known n ≡ false
    go (inl lt) = let e : n ≡ 0 = omega (arith, lt) in rw e refl
    go (inr le) = let l = lt-leb n 4 (omega (arith, a, b, c, d, le)) in let o = le-leb 1 n le in rw (o, l) refl
