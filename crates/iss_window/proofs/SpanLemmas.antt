-- A client's span: its numbers, a number noted by its bit, and a span that moves past its first number.
use Rattle.std.proofs.Common.{◌≡◌, ◌≢◌, ⊎_elim, ℕ, suc, ◌+◌, ◌-◌, ◌*◌, ◌/◌, ◌%◌, ◌^◌, ◌<◌, ◌≤◌, Bool, true, false, cond, ◌&&◌, ◌||◌, eqb, nat_lt, List, refl, sym, ap, ◌∙◌, arith, w64}
use Rattle.std.proofs.lemmas.Bool.{cases_lt}
use Rattle.std.proofs.lemmas.Bool.Decides.{nat_tests}
use Rattle.std.proofs.lemmas.Nat.Bits.{bit_at-suc, bit_at_above, bit_at_set_other, bit_at_set_same, shr_and_one}
use Rattle.std.specs.Prelude.{bit_and, bit_or}
use Rattle.iss_base.proofs.Lists.{eqb-same, eqb-other, same_or_not}
use Rattle.iss_request.specs.Log.{has_id, same_id}
use Rattle.iss_request.specs.declared.ids.ReqId.{ReqId}
use Rattle.iss_window.specs.declared.spans.Span.{Span}
use Rattle.iss_window.specs.Window.{id_of}
use Rattle.iss_window.specs.Kept.{IsMoved, IsSpan, is_held, is_set}

-- ---- bits

pub bit-tested : (bits place : ℕ) → eqb (bit_and (bits / 2 ^ place) 1) 1 ≡ is_set bits place
bit-tested bits place = ap (λ b. eqb b 1) (shr_and_one bits place)

pub bit-set : (bits k i : ℕ) → k < 64 → is_set (bit_or bits (1 * 2 ^ k % 2 ^ 64)) i ≡ (eqb i k || is_set bits i)
bit-set bits k i within = ⊎_elim
    (λ (e : i ≡ k). ap (λ j. is_set (bit_or bits (1 * 2 ^ k % 2 ^ 64)) j) e ∙ ap (λ b. eqb b 1) (bit_at_set_same w64 bits k within)
    ∙ sym (ap (λ j. eqb j k || is_set bits i) e ∙ ap (λ t. t || is_set bits i) (eqb-same k)))
    (λ ne. ap (λ b. eqb b 1) (bit_at_set_other w64 bits k within i ne) ∙ sym (ap (λ t. t || is_set bits i) (eqb-other i k ne)))
    (same_or_not i k)

pub bit-next : (bits i : ℕ) → is_set (bits / 2 ^ 1) i ≡ is_set bits (i + 1)
bit-next bits i =
    let e : i + 1 ≡ suc i = omega arith in
    sym (ap (λ j. is_set bits j) e ∙ ap (λ b. eqb b 1) (bit_at-suc bits i))

pub no-bit-behind : (bits : ℕ) → bits < 2 ^ 64 → is_set bits 64 ≡ false
no-bit-behind bits small = ap (λ b. eqb b 1) (bit_at_above bits 64 64 small (omega arith))

-- ---- numbers that are held

pub held-below : (low bits y : ℕ) (s : Bool) → y < low → is_held low bits y s ≡ true
held-below low bits y s lt = let t : nat_lt y low ≡ true = grind (arith, nat_tests) in rw t refl

pub held-bit : (low bits y : ℕ) (s : Bool) → low ≤ y → y < low + 64 → is_held low bits y s ≡ is_set bits (y - low)
held-bit low bits y s le lt =
    let t : nat_lt y low ≡ false = grind (arith, nat_tests) in
    let u : nat_lt y (low + 64) ≡ true = grind (arith, nat_tests) in
    rw (t, u) refl

pub held-stray : (low bits y : ℕ) (s : Bool) → low + 64 ≤ y → is_held low bits y s ≡ s
held-stray low bits y s le =
    let t : nat_lt y low ≡ false = grind (arith, nat_tests) in
    let u : nat_lt y (low + 64) ≡ false = grind (arith, nat_tests) in
    rw (t, u) refl

pub held-first : (low bits : ℕ) (s : Bool) → is_held low bits low s ≡ is_set bits 0
held-first low bits s =
    let none : low - low ≡ 0 = omega arith in
    held-bit low bits low s (omega arith) (omega arith) ∙ ap (λ j. is_set bits j) none

-- A number is below the low watermark, among the bits, or behind them.
pub placed : (P : Type 0) (low y : ℕ) → (y < low → P) → (low ≤ y → y < low + 64 → P) → (low + 64 ≤ y → P) → P
placed P low y below among behind =
    ⊎_elim below (λ le. ⊎_elim (λ lt. among le lt) behind (cases_lt y (low + 64))) (cases_lt y low)

or-true : (a : Bool) → true ≡ (a || true)
or-true true = refl
or-true false = refl

-- one more bit is one more number
pub held-more-bits : (low bits new t y : ℕ) (s : Bool) → low ≤ t → t < low + 64 → ((i : ℕ) → is_set new i ≡ (eqb i (t - low) || is_set bits i))
    → is_held low new y s ≡ (eqb y t || is_held low bits y s)
held-more-bits low bits new t y s le lt is = placed (is_held low new y s ≡ (eqb y t || is_held low bits y s)) low y
    (λ l. held-below low new y s l ∙ or-true (eqb y t) ∙ ap (λ b. eqb y t || b) (sym (held-below low bits y s l)))
    (λ a b. held-bit low new y s a b ∙ is (y - low) ∙ ap (λ c. c || is_set bits (y - low)) (shifted y a) ∙ ap (λ c. eqb y t || c) (sym (held-bit low bits y s a b)))
    (λ g. held-stray low new y s g ∙ ap (λ c. c || s) (sym (apart g)) ∙ ap (λ c. eqb y t || c) (sym (held-stray low bits y s g)))
  where
    shifted : (y : ℕ) → low ≤ y → eqb (y - low) (t - low) ≡ eqb y t
    shifted y a = grind (arith, nat_tests)

    apart : low + 64 ≤ y → eqb y t ≡ false
    apart g = eqb-other y t (λ e. omega (arith, e, g, lt))

-- so is one more stray
pub held-more-strays : (low bits t y : ℕ) (b s : Bool) → low + 64 ≤ t → (b ≡ true → y ≡ t) → is_held low bits y (b || s) ≡ (b || is_held low bits y s)
held-more-strays low bits t y true s le is =
    let here : low + 64 ≤ y = let e = is refl in omega (arith, e, le) in
    held-stray low bits y true here
held-more-strays low bits t y false s le is = refl

-- ---- a span moves past its first number

pub moved-held : (low bits new y : ℕ) (before after stray : Bool) → is_set bits 0 ≡ true → ((i : ℕ) → i < 63 → is_set new i ≡ is_set bits (i + 1)) → is_set new 63 ≡ stray
    → (y ≡ low + 64 → before ≡ stray) → (y ≢ low + 64 → after ≡ before) → is_held (low + 1) new y after ≡ is_held low bits y before
moved-held low bits new y before after stray first next last here there = placed (is_held (low + 1) new y after ≡ is_held low bits y before) low y
    (λ l. held-below (low + 1) new y after (omega (arith, l)) ∙ sym (held-below low bits y before l))
    (λ a b. ⊎_elim (at-first a b) (among a b) (same_or_not y low))
    (λ g. ⊎_elim (at-last g) (behind g) (same_or_not y (low + 64)))
  where
    at-first : low ≤ y → y < low + 64 → y ≡ low → is_held (low + 1) new y after ≡ is_held low bits y before
    at-first a b e =
        let none : y - low ≡ 0 = omega (arith, e) in
        held-below (low + 1) new y after (omega (arith, e)) ∙ sym (held-bit low bits y before a b ∙ ap (λ j. is_set bits j) none ∙ first)

    among : low ≤ y → y < low + 64 → y ≢ low → is_held (low + 1) new y after ≡ is_held low bits y before
    among a b ne =
        let place : y - (low + 1) + 1 ≡ y - low = omega (arith, a, ne) in
        held-bit (low + 1) new y after (omega (arith, a, ne)) (omega (arith, b)) ∙ next (y - (low + 1)) (omega (arith, a, b, ne))
        ∙ ap (λ j. is_set bits j) place ∙ sym (held-bit low bits y before a b)

    at-last : low + 64 ≤ y → y ≡ low + 64 → is_held (low + 1) new y after ≡ is_held low bits y before
    at-last g e =
        let place : y - (low + 1) ≡ 63 = omega (arith, e) in
        held-bit (low + 1) new y after (omega (arith, e)) (omega (arith, e)) ∙ ap (λ j. is_set new j) place ∙ last ∙ sym (here e) ∙ sym (held-stray low bits y before g)

    behind : low + 64 ≤ y → y ≢ low + 64 → is_held (low + 1) new y after ≡ is_held low bits y before
    behind g ne = held-stray (low + 1) new y after (omega (arith, g, ne)) ∙ there ne ∙ sym (held-stray low bits y before g)

-- what is taken is one number of the client
module _ (c t : ℕ) (before after : List ReqId) (left : (id : ReqId) → has_id id after ≡ cond (same_id (id_of c t) id) false (has_id id before)) where
  stays : (id : ReqId) → same_id (id_of c t) id ≡ false → has_id id after ≡ has_id id before
  stays id e = left id ∙ ap (λ b. cond b false (has_id id before)) e

  other-number : (id : ReqId) → id.number ≢ t → has_id id after ≡ has_id id before
  other-number id ne = stays id (none (eqb c id.client) (eqb t id.number) (eqb-other t id.number (λ e. ne (sym e))))
    where
      none : (a b : Bool) → b ≡ false → (a && b) ≡ false
      none true b e = e
      none false b e = refl

  pub other-client : (id : ReqId) → id.client ≢ c → has_id id after ≡ has_id id before
  other-client id ne = stays id (ap (λ b. b && eqb t id.number) (eqb-other c id.client (λ e. ne (sym e))))

  was : (id : ReqId) → has_id id after ≡ true → (id.client ≡ c → id.number ≢ t) × (has_id id before ≡ true)
  was id h = go (same_id (id_of c t) id) refl (sym (left id) ∙ h)
    where
      same : id.client ≡ c → id.number ≡ t → same_id (id_of c t) id ≡ true
      same d f = ap (λ a. eqb c a && eqb t id.number) d ∙ ap (λ b. b && eqb t id.number) (eqb-same c) ∙ ap (λ a. eqb t a) f ∙ eqb-same t

      go : (b : Bool) → same_id (id_of c t) id ≡ b → cond b false (has_id id before) ≡ true → (id.client ≡ c → id.number ≢ t) × (has_id id before ≡ true)
      go true e k = cc
      go false e k = (λ d f. absurd (let bad : true ≡ false = sym (same d f) ∙ e in cc), k)

  -- the identity is the one that is taken
  at-taken : (id : ReqId) → id.client ≡ c → id.number ≡ t → has_id id before ≡ has_id (id_of c t) before
  at-taken id d f = ap (λ (x : ReqId). has_id x before) (λ i. record { client = d i; number = f i })

  pub step-moves : (low bits new : ℕ) (stray : Bool) → t ≡ low + 64 → stray ≡ has_id (id_of c t) before → IsSpan c low bits before → is_set bits 0 ≡ true
      → ((i : ℕ) → i < 63 → is_set new i ≡ is_set bits (i + 1)) → is_set new 63 ≡ stray
      → IsMoved c (record { low = low; bits = bits }) (record { low = low + 1; bits = new }) before after
  step-moves low bits new stray behind found h first next last = record {
    same = λ id d. moved-held low bits new id.number (has_id id before) (has_id id after) stray first next last
        (λ e. at-taken id d (e ∙ sym behind) ∙ sym found)
        (λ ne. other-number id (λ e. ne (e ∙ behind)));
    others = other-client;
    span = record {
      most = let k = h.marked 0 (omega arith) first in omega (arith, k);
      marked = λ place lt is. ⊎_elim
          (λ (l : place < 63). let k = h.marked (place + 1) (omega (arith, l)) (sym (next place l) ∙ is) in omega (arith, k))
          (λ g.
          let e : place ≡ 63 = omega (arith, lt, g) in
          let there : has_id (id_of c t) before ≡ true = sym found ∙ sym last ∙ sym (ap (λ j. is_set new j) e) ∙ is in
          let k : t < 2 ^ 32 = h.numbers (id_of c t) refl there in
          omega (arith, e, k, behind))
          (cases_lt place 63);
      behind = λ id d there.
          let (ne, k) = was id there in
          let le = h.behind id d k in
          let ne : id.number ≢ t = ne d in
          omega (arith, le, ne, behind);
      numbers = λ id d there. h.numbers id d (was id there).1;
    };
  }

-- ---- several moves

pub moved-none : (c : ℕ) (s : Span) (strays : List ReqId) → IsSpan c s.low s.bits strays → IsMoved c s s strays strays
moved-none c s strays h = record { same = λ id d. refl; others = λ id ne. refl; span = h }

pub moved-more : (c : ℕ) (s t u : Span) (xs ys zs : List ReqId) → IsMoved c s t xs ys → IsMoved c t u ys zs → IsMoved c s u xs zs
moved-more c s t u xs ys zs a b = record {
  same = λ id d. b.same id d ∙ a.same id d;
  others = λ id ne. b.others id ne ∙ a.others id ne;
  span = b.span;
}
