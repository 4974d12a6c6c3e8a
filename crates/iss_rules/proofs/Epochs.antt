-- Where epochs start, in a log and in longer ones. Epochs may differ in length.
use Rattle.std.proofs.Common.{◌≡◌, inl, inr, ℕ, suc, zero, ◌+◌, ◌*◌, ◌≤◌, ◌<◌, List, ◌++◌, length, refl, sym, ap, ap₂, ◌∙◌, arith, le_trans, le_antisymm, suc-mul, eq-or-lt_of_le}
use Rattle.std.proofs.lemmas.Bool.Decides.{leb_tells}
use Rattle.iss_base.specs.Lists.{Extends, oldest}
use Rattle.iss_base.proofs.Lists.{oldest-append, oldest-extends, oldest-part, length-oldest, extends-length}
use Rattle.iss_request.specs.declared.requests.Value.{Value}
use Rattle.iss_rules.specs.Past.{start_of, cut_at, climb, epoch_at, before_at}
use Rattle.iss_rules.specs.Rules.{Rules}

pub start-next : (R : Rules) (log : List Value) (e : ℕ) → start_of R log e ≤ start_of R log (suc e)
start-next R log e = omega arith

pub start-mono : (R : Rules) (log : List Value) (d e : ℕ) → d ≤ e → start_of R log d ≤ start_of R log e
start-mono R log zero zero h = omega arith
start-mono R log (suc d) zero h = absurd (omega arith)
start-mono R log d (suc e) h = elim (eq-or-lt_of_le h) [
  | inl q ↦ rw q (omega arith)
  | inr lt ↦ le_trans (start-mono R log d e (omega (arith, lt))) (start-next R log e)
]

-- the starts that lie in a log are those of each longer one
pub start-agree : (R : Rules) (newer a : List Value) (e : ℕ) → start_of R a e ≤ length a → start_of R (newer ++ a) e ≡ start_of R a e
start-agree R newer a zero h = refl
start-agree R newer a (suc e) h =
    let le : start_of R a e ≤ length a = le_trans (start-next R a e) h in
    let ih : start_of R (newer ++ a) e ≡ start_of R a e = start-agree R newer a e le in
    let cut : oldest (start_of R (newer ++ a) e) (newer ++ a) ≡ oldest (start_of R a e) a =
    ap (λ (n : ℕ). oldest n (newer ++ a)) ih ∙ oldest-append (start_of R a e) newer a le in
    ap₂ (λ (n : ℕ) (xs : List Value). n + R.slots xs e) ih cut

pub start-back : (R : Rules) (newer a : List Value) (e : ℕ) → start_of R (newer ++ a) e ≤ length a → start_of R (newer ++ a) e ≡ start_of R a e
start-back R newer a zero h = refl
start-back R newer a (suc e) h =
    let le : start_of R (newer ++ a) e ≤ length a = le_trans (start-next R (newer ++ a) e) h in
    let ih : start_of R (newer ++ a) e ≡ start_of R a e = start-back R newer a e le in
    let cut : oldest (start_of R (newer ++ a) e) (newer ++ a) ≡ oldest (start_of R a e) a =
    oldest-append (start_of R (newer ++ a) e) newer a le ∙ ap (λ (n : ℕ). oldest n a) ih in
    ap₂ (λ (n : ℕ) (xs : List Value). n + R.slots xs e) ih cut

pub start-extends : (R : Rules) (a b : List Value) (e : ℕ) → Extends a b → start_of R a e ≤ length a → start_of R b e ≡ start_of R a e
start-extends R a b e x h = rw x.1 (start-agree R x.0 a e h)

pub start-within : (R : Rules) (a b : List Value) (e : ℕ) → Extends a b → start_of R b e ≤ length a → start_of R b e ≡ start_of R a e
start-within R a b e x h = let h2 : start_of R (x.0 ++ a) e ≤ length a = rw x.1 at h in rw x.1 (start-back R x.0 a e h2)

pub cut-extends : (R : Rules) (a b : List Value) (e : ℕ) → Extends a b → start_of R a e ≤ length a → cut_at R b e ≡ cut_at R a e
cut-extends R a b e x h = ap (λ (n : ℕ). oldest n b) (start-extends R a b e x h) ∙ oldest-extends (start_of R a e) a b x h

pub length-cut : (R : Rules) (log : List Value) (e : ℕ) → start_of R log e ≤ length log → length (cut_at R log e) ≡ start_of R log e
length-cut R log e h = length-oldest (start_of R log e) log h

-- the length of the log before an epoch is the epoch's start
pub start-cut : (R : Rules) (log : List Value) (e : ℕ) → start_of R log e ≤ length log → start_of R (cut_at R log e) e ≡ length (cut_at R log e)
start-cut R log e h =
    let len : length (cut_at R log e) ≡ start_of R log e = length-cut R log e h in
    sym (start-within R (cut_at R log e) log e (oldest-part (start_of R log e) log) (omega (arith, len))) ∙ sym len

climb-low : (R : Rules) (log : List Value) (n e : ℕ) → start_of R log e ≤ length log → start_of R log (climb R log n e) ≤ length log
climb-low R log zero e h = h
climb-low R log (suc n) e h = elim (leb_tells (start_of R log (suc e)) (length log)) [
  | inl t ↦ rw t.0 (climb-low R log n (suc e) t.1)
  | inr t ↦ rw t.0 h
]

-- the epoch of a slot has begun
pub epoch-low : (R : Rules) (log : List Value) → start_of R log (epoch_at R log) ≤ length log
epoch-low R log = climb-low R log (length log) 0 (omega arith)

module _ (R : Rules) (some : (log : List Value) (e : ℕ) → 0 < R.slots log e) where
  at-least : (log : List Value) (e : ℕ) → e ≤ start_of R log e
  at-least log zero = omega arith
  at-least log (suc e) = omega (arith, at-least log e, some (oldest (start_of R log e) log) e)

  climb-high : (log : List Value) (n e : ℕ) → length log ≤ e + n → length log < start_of R log (suc (climb R log n e))
  climb-high log zero e h = omega (arith, at-least log (suc e))
  climb-high log (suc n) e h = elim (leb_tells (start_of R log (suc e)) (length log)) [
    | inl t ↦ rw t.0 (climb-high log n (suc e) (omega arith))
    | inr t ↦ rw t.0 t.1
  ]

  -- and the next one has not
  pub epoch-high : (log : List Value) → length log < start_of R log (suc (epoch_at R log))
  epoch-high log = climb-high log (length log) 0 (omega arith)

  pub epoch-unique : (log : List Value) (e : ℕ) → start_of R log e ≤ length log → length log < start_of R log (suc e) → epoch_at R log ≡ e
  epoch-unique log e low high = le_antisymm
      (elim (leb_tells (epoch_at R log) e) [ inl t ↦ t.1 | inr t ↦ absurd (omega (arith, start-mono R log (suc e) (epoch_at R log) t.1, epoch-low R log)) ])
      (elim (leb_tells e (epoch_at R log)) [ inl t ↦ t.1 | inr t ↦ absurd (omega (arith, start-mono R log (suc (epoch_at R log)) e t.1, epoch-high log)) ])

  -- later slots are of the same or a later epoch
  pub epoch-mono : (low older : List Value) → Extends low older → epoch_at R low ≤ epoch_at R older
  epoch-mono low older x = elim (leb_tells (epoch_at R low) (epoch_at R older)) [
    | inl t ↦ t.1
    | inr t ↦
        let in_low : start_of R low (suc (epoch_at R older)) ≤ length low =
        le_trans (start-mono R low (suc (epoch_at R older)) (epoch_at R low) t.1) (epoch-low R low) in
        let same : start_of R older (suc (epoch_at R older)) ≡ start_of R low (suc (epoch_at R older)) =
        start-extends R low older (suc (epoch_at R older)) x in_low in
        absurd (omega (arith, epoch-high older, same, in_low, extends-length low older x))
  ]

  -- a value of an earlier epoch is before the later epoch
  pub epoch-below : (low older : List Value) → Extends low older → epoch_at R low < epoch_at R older → length low < start_of R older (epoch_at R older)
  epoch-below low older x lt = elim (leb_tells (start_of R older (epoch_at R older)) (length low)) [
    | inr t ↦ t.1
    | inl t ↦
        let same : start_of R older (epoch_at R older) ≡ start_of R low (epoch_at R older) = start-within R low older (epoch_at R older) x t.1 in
        absurd (omega (arith, same, t.1, start-mono R low (suc (epoch_at R low)) (epoch_at R older) lt, epoch-high low))
  ]

  -- values of one epoch have the same log before it
  pub before-same : (low older : List Value) → Extends low older → epoch_at R low ≡ epoch_at R older → before_at R low ≡ before_at R older
  before-same low older x q = sym (cut-extends R low older (epoch_at R low) x (epoch-low R low)) ∙ ap (λ (e : ℕ). cut_at R older e) q

pub start-most : (R : Rules) → ((log : List Value) (e : ℕ) → R.slots log e ≤ R.most) → (log : List Value) (e : ℕ) → start_of R log e ≤ e * R.most
start-most R most log zero = omega arith
start-most R most log (suc e) = rw suc-mul (omega (arith, start-most R most log e, most (oldest (start_of R log e) log) e))
