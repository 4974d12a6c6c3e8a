-- What parsers return on bytes with a known prefix, and what is known of bytes that were parsed.
use Rattle.std.proofs.Common.{◌≡◌, ℕ, zero, suc, ◌+◌, ◌-◌, ◌*◌, ◌/◌, ◌%◌, ◌^◌, ◌<◌, ◌≤◌, Bool, true, false, cond, ltb, leb, List, [], ◌∷◌, ◌++◌, length, get_or, take, drop, refl, sym, arith}
use Rattle.std.specs.List.{list_all}
use Rattle.std.specs.Int.{Width, w16, w32, w64, byte_len, from_be_bytes, to_be_bytes}
use Rattle.std.proofs.lemmas.Bool.{ltb-true, lt-ltb, leb-true, le-leb, lt-leb}
use Rattle.std.proofs.lemmas.List.{take_at, drop_at, take-append-drop, length-append, length-take, get_or_past}
use Rattle.std.proofs.lemmas.Nat.{be_bytes_2, be_bytes_4, be_bytes_8, from_be_bytes-to_be_bytes_2, from_be_bytes-to_be_bytes_4, from_be_bytes-to_be_bytes_8}
use Rattle.iss_base.proofs.Lists.{and-true}
pub use Rattle.iss_base.proofs.Lists.{and-true as both_true}
use Rattle.iss_request.specs.Fields.{Parsed, Good, Bad}
use Rattle.iss_request.specs.Parsing.{Parser, ◌>>=◌, done, such_that, tested, shifted, followed, byte, has_bytes, number, block, digests}

-- ---- sequences

pub then_good : {A B : Type 0} (p : Parser A) (q : A → Parser B) (bytes mid rest : List ℕ) (x : A) (y : B) →
    p bytes ≡ Good x mid → q x mid ≡ Good y rest → (p >>= q) bytes ≡ Good y rest
unfolding ◌>>=◌
then_good p q bytes mid rest x y e d = rw (e, d) refl

pub then_bad : {A B : Type 0} (p : Parser A) (q : A → Parser B) (bytes mid : List ℕ) (x : A) (at : ℕ) →
    p bytes ≡ Good x mid → q x mid ≡ Bad at → (p >>= q) bytes ≡ Bad (length bytes - length mid + at)
unfolding ◌>>=◌
then_bad p q bytes mid x at e d = rw (e, d) refl

pub first_bad : {A B : Type 0} (p : Parser A) (q : A → Parser B) (bytes : List ℕ) (at : ℕ) → p bytes ≡ Bad at →
    (p >>= q) bytes ≡ Bad at
unfolding ◌>>=◌
first_bad p q bytes at e = rw e refl

-- p was read, then q
pub record AreRead {A B : Type 0} (p : Parser A) (q : A → Parser B) (bytes rest : List ℕ) (y : B) : Type 0 where
  pub thing : A
  pub mid : List ℕ
  pub first : p bytes ≡ Good thing mid
  pub second : q thing mid ≡ Good y rest

shifted_good : {A : Type 0} (width : ℕ) (r : Parsed A) (y : A) (rest : List ℕ) → shifted width r ≡ Good y rest →
    r ≡ Good y rest
shifted_good width (Good x mid) y rest e = e
shifted_good width (Bad at) y rest e = absurd cc

followed_parts : {A B : Type 0} (p : Parser A) (q : A → Parser B) (bytes rest : List ℕ) (y : B) (size : ℕ)
    (r : Parsed A) → p bytes ≡ r → followed size r q ≡ Good y rest → AreRead p q bytes rest y
followed_parts p q bytes rest y size (Good x mid) e d =
    record { thing = x; mid = mid; first = e; second = shifted_good (size - length mid) (q x mid) y rest d }
followed_parts p q bytes rest y size (Bad at) e d = absurd cc

pub then_parts : {A B : Type 0} (p : Parser A) (q : A → Parser B) (bytes rest : List ℕ) (y : B) →
    (p >>= q) bytes ≡ Good y rest → AreRead p q bytes rest y
unfolding ◌>>=◌
then_parts p q bytes rest y e = followed_parts p q bytes rest y (length bytes) (p bytes) refl e

pub done_parts : {A : Type 0} (x y : A) (bytes rest : List ℕ) → done x bytes ≡ Good y rest → (x ≡ y) × (bytes ≡ rest)
unfolding done
done_parts x y bytes rest e = (cc, cc)

-- ---- a field with a test

pub test_passed : {A : Type 0} (test : A → Bool) (p : Parser A) (bytes rest : List ℕ) (x : A) → p bytes ≡ Good x rest →
    test x ≡ true → such_that test p bytes ≡ Good x rest
unfolding such_that
test_passed test p bytes rest x e t = rw (e, t) refl

pub test_failed : {A : Type 0} (test : A → Bool) (p : Parser A) (bytes rest : List ℕ) (x : A) → p bytes ≡ Good x rest →
    test x ≡ false → such_that test p bytes ≡ Bad 0
unfolding such_that
test_failed test p bytes rest x e t = rw (e, t) refl

pub test_bad : {A : Type 0} (test : A → Bool) (p : Parser A) (bytes : List ℕ) (at : ℕ) → p bytes ≡ Bad at →
    such_that test p bytes ≡ Bad at
unfolding such_that
test_bad test p bytes at e = rw e refl

chosen_good : {A : Type 0} (b : Bool) (at : ℕ) (x y : A) (mid rest : List ℕ) →
    cond b (Good x mid) (Bad at) ≡ Good y rest → (b ≡ true) × (x ≡ y) × (mid ≡ rest)
chosen_good true at x y mid rest e = (refl, cc, cc)
chosen_good false at x y mid rest e = absurd cc

tested_parts : {A : Type 0} (test : A → Bool) (r : Parsed A) (rest : List ℕ) (y : A) → tested test r ≡ Good y rest →
    (r ≡ Good y rest) × (test y ≡ true)
tested_parts test (Good x mid) rest y e =
    let parts = chosen_good (test x) 0 x y mid rest e in
    let same : x ≡ y = parts.1 in
    let behind : mid ≡ rest = parts.2 in
    (cc, rw (← same) parts.0)
tested_parts test (Bad at) rest y e = absurd cc

pub test_parts : {A : Type 0} (test : A → Bool) (p : Parser A) (bytes rest : List ℕ) (y : A) →
    such_that test p bytes ≡ Good y rest → (p bytes ≡ Good y rest) × (test y ≡ true)
unfolding such_that
test_parts test p bytes rest y e = tested_parts test (p bytes) rest y e

-- ---- bytes

pub byte_again : (b : ℕ) (rest : List ℕ) → byte (b ∷ rest) ≡ Good b rest
unfolding byte
byte_again b rest = refl

pub byte_short : byte [] ≡ Bad 0
unfolding byte
byte_short = refl

pub byte_parts : (bytes rest : List ℕ) (b : ℕ) → byte bytes ≡ Good b rest → bytes ≡ b ∷ rest
unfolding byte
byte_parts [] rest b e = absurd cc
byte_parts (a ∷ bytes) rest b e = cc

-- ---- numbers

abbrev is_byte : ℕ → Bool
is_byte b = ltb b 256

none_at : (i : ℕ) → get_or [] i 0 < 256
none_at i = omega (arith, get_or_past {X = ℕ} [] i 0 (omega arith))

all_at : (bs : List ℕ) → list_all is_byte bs ≡ true → (i : ℕ) → get_or bs i 0 < 256
all_at [] e i = none_at i
all_at (b ∷ bs) e zero = ltb-true b 256 (and-true (ltb b 256) (list_all is_byte bs) e).0
all_at (b ∷ bs) e (suc i) = all_at bs (and-true (ltb b 256) (list_all is_byte bs) e).1 i

pub record IsWide (w : Width) (limit : ℕ) : Type 0 where
  pub len : (n : ℕ) → length (to_be_bytes w n) ≡ byte_len w
  pub bytes : (n : ℕ) → list_all is_byte (to_be_bytes w n) ≡ true
  pub back : (bytes : List ℕ) → length bytes ≡ byte_len w → ((i : ℕ) → get_or bytes i 0 < 256) →
      to_be_bytes w (from_be_bytes w bytes) ≡ bytes
  pub again : (n : ℕ) → n < limit → from_be_bytes w (to_be_bytes w n) ≡ n
  pub below : (bytes : List ℕ) → ((i : ℕ) → get_or bytes i 0 < 256) → from_be_bytes w bytes < limit

pub wide16 : IsWide w16 (2 ^ 16)
wide16 = record {
  len = λ n. refl;
  bytes = λ n. rw (lt-ltb (n / 256 % 256) 256 (omega arith), lt-ltb (n % 256) 256 (omega arith)) refl;
  back = λ bytes len fits. be_bytes_2 bytes _ len fits refl;
  again = λ n lt. from_be_bytes-to_be_bytes_2 n lt;
  below = λ bytes fits. omega (arith, fits 0, fits 1);
}

pub wide32 : IsWide w32 (2 ^ 32)
wide32 = record {
  len = λ n. refl;
  bytes = λ n. rw (
    lt-ltb (n / 16777216 % 256) 256 (omega arith),
    lt-ltb (n / 65536 % 256) 256 (omega arith),
    lt-ltb (n / 256 % 256) 256 (omega arith),
    lt-ltb (n % 256) 256 (omega arith),
  ) refl;
  back = λ bytes len fits. be_bytes_4 bytes _ len fits refl;
  again = λ n lt. from_be_bytes-to_be_bytes_4 n lt;
  below = λ bytes fits. omega (arith, fits 0, fits 1, fits 2, fits 3);
}

mod_byte : (n : ℕ) → ltb (n % 256) 256 ≡ true
mod_byte n = lt-ltb (n % 256) 256 (omega arith)

pub wide64 : IsWide w64 (2 ^ 64)
wide64 = record {
  len = λ n. refl;
  bytes = λ n. simp mod_byte refl;
  back = λ bytes len fits. be_bytes_8 bytes _ len fits refl;
  again = λ n lt. from_be_bytes-to_be_bytes_8 n lt;
  below = λ bytes fits. omega (arith, fits 0, fits 1, fits 2, fits 3, fits 4, fits 5, fits 6, fits 7);
}

pub number_again : (w : Width) (limit : ℕ) (wide : IsWide w limit) (n : ℕ) (rest : List ℕ) → n < limit →
    number w (to_be_bytes w n ++ rest) ≡ Good n rest
unfolding number
number_again w limit wide n rest lt =
    let len = wide.len n in
    let long : leb (byte_len w) (length (to_be_bytes w n ++ rest)) ≡ true =
    le-leb _ _ (omega (arith, length-append (to_be_bytes w n) rest)) in
    rw (
      long,
      take_at (to_be_bytes w n) rest (byte_len w) len,
      drop_at (to_be_bytes w n) rest (byte_len w) len,
      wide.bytes n,
      wide.again n lt,
    ) refl

pub number_short : (w : Width) (bytes : List ℕ) → length bytes < byte_len w → number w bytes ≡ Bad 0
unfolding number
number_short w bytes lt = rw (lt-leb (byte_len w) (length bytes) lt) refl

pub record IsNumber (w : Width) (limit : ℕ) (bytes rest : List ℕ) (n : ℕ) : Type 0 where
  pub parts : bytes ≡ to_be_bytes w n ++ rest
  pub below : n < limit

pub number_parts : (w : Width) (limit : ℕ) (wide : IsWide w limit) (bytes rest : List ℕ) (n : ℕ) →
    number w bytes ≡ Good n rest → IsNumber w limit bytes rest n
unfolding number
number_parts w limit wide bytes rest n e =
    let front = take (byte_len w) bytes in
    let c = chosen_good (has_bytes (byte_len w) bytes) 0 (from_be_bytes w front) n (drop (byte_len w) bytes) rest e in
    let b = and-true (leb (byte_len w) (length bytes)) (list_all is_byte front) c.0 in
    let long : byte_len w ≤ length bytes = leb-true _ _ b.0 in
    let fits = all_at front b.1 in
    let is-n : from_be_bytes w front ≡ n = c.1 in
    let is-rest : drop (byte_len w) bytes ≡ rest = c.2 in
    let back : to_be_bytes w n ≡ front =
    rw (← is-n) (wide.back front (omega (arith, length-take (byte_len w) bytes)) fits) in
    record {
      parts = rw (back, ← is-rest) (sym (take-append-drop (byte_len w) bytes));
      below = rw (← is-n) (wide.below front fits);
    }

-- ---- blocks

pub block_again : (front rest : List ℕ) (width : ℕ) → length front ≡ width →
    block width (front ++ rest) ≡ Good front rest
unfolding block
block_again front rest width len =
    let long : leb width (length (front ++ rest)) ≡ true = le-leb _ _ (omega (arith, length-append front rest)) in
    rw (long, take_at front rest width len, drop_at front rest width len) refl

pub block_short : (width : ℕ) (bytes : List ℕ) → length bytes < width → block width bytes ≡ Bad 0
unfolding block
block_short width bytes lt = rw (lt-leb width (length bytes) lt) refl

pub record IsBlock (width : ℕ) (bytes rest front : List ℕ) : Type 0 where
  pub parts : bytes ≡ front ++ rest
  pub len : length front ≡ width

front_parts : (width at : ℕ) (bytes rest front : List ℕ) →
    cond (leb width (length bytes)) (Good (take width bytes) (drop width bytes)) (Bad at) ≡ Good front rest →
    IsBlock width bytes rest front
front_parts width at bytes rest front e =
    let c = chosen_good (leb width (length bytes)) at (take width bytes) front (drop width bytes) rest e in
    let long : width ≤ length bytes = leb-true _ _ c.0 in
    let is-front : take width bytes ≡ front = c.1 in
    let is-rest : drop width bytes ≡ rest = c.2 in
    record {
      parts = rw (← is-front, ← is-rest) (sym (take-append-drop width bytes));
      len = rw (← is-front) (omega (arith, length-take width bytes));
    }

pub block_parts : (width : ℕ) (bytes rest front : List ℕ) → block width bytes ≡ Good front rest →
    IsBlock width bytes rest front
unfolding block
block_parts width bytes rest front e = front_parts width 0 bytes rest front e

pub digests_again : (front rest : List ℕ) (count : ℕ) → length front ≡ 32 * count →
    digests count (front ++ rest) ≡ Good front rest
unfolding digests
digests_again front rest count len =
    let long : leb (32 * count) (length (front ++ rest)) ≡ true =
    le-leb _ _ (omega (arith, length-append front rest)) in
    rw (long, take_at front rest (32 * count) len, drop_at front rest (32 * count) len) refl

pub digests_short : (count : ℕ) (bytes : List ℕ) → length bytes < 32 * count →
    digests count bytes ≡ Bad (32 * (length bytes / 32))
unfolding digests
digests_short count bytes lt = rw (lt-leb (32 * count) (length bytes) lt) refl

pub digests_parts : (count : ℕ) (bytes rest front : List ℕ) → digests count bytes ≡ Good front rest →
    IsBlock (32 * count) bytes rest front
unfolding digests
digests_parts count bytes rest front e = front_parts (32 * count) (32 * (length bytes / 32)) bytes rest front e
