-- A piece with one value for each slot of a node's epoch fills the epoch.
use Rattle.std.proofs.Common.{◌≡◌, inl, inr, ℕ, suc, ◌+◌, ◌-◌, ◌*◌, ◌≤◌, ◌<◌, Bool, true, false, cond, eqb, List, [], ◌∷◌, ◌++◌, length, Some, None, refl, sym, ap, ap₂, ◌∙◌, subst, arith, suc-mul}
use Rattle.std.proofs.lemmas.Bool.Decides.{leb_tells}
use Rattle.iss_base.specs.Lists.{Chain, Extends, nth, oldest}
use Rattle.iss_base.proofs.Lists.{chain-part, eqb-same, extends-length, extends-next, extends-trans, first-cases, first-some, is-eq, none-some, nth-some, oldest-all, oldest-extends, oldest-part}
use Rattle.iss_request.specs.declared.requests.Value.{Value}
use Rattle.iss_sb.specs.Evidence.{Module, delivered}
use Rattle.iss_rules.specs.Past.{Past, Piece, adopted_at, adopts, before, before_at, cell, cut_at, epoch_at, leader_at, log_of, params_at, start_of}
use Rattle.iss_rules.proofs.Logs.{IsLog, Later, Settled, grow-far, log-chain, log-kept, log-later, logs-meet}
use Rattle.iss_rules.specs.Rules.{Rules}
use Rattle.iss_rules.proofs.Ending.{HasSlots}
use Rattle.iss_rules.proofs.Epochs.{cut-extends, epoch-low, epoch-unique, length-cut, start-cut, start-extends, start-most}

pub adopts-later : (R : Rules) {Msg : Type 0} (c : Past Msg) (piece : Piece) → Settled R c → Later R c (adopts c piece)
adopts-later R c piece h =
    record { epoch = omega arith; here = λ l. ([], refl); there = λ e l ne. refl; adopted = (piece ∷ [], refl); settled = h.all }

-- with a piece of its epoch, what was adopted is of epochs before the next
pub adopts-settled : (R : Rules) {Msg : Type 0} (c : Past Msg) (piece : Piece) → piece.epoch ≡ c.epoch → Settled R c → Settled R (adopts c piece)
adopts-settled R c piece same h = record {
  all = λ e k v q. elim (first-cases (adopted_at c.adopted e k) (cond (eqb piece.epoch e) (nth piece.values k) None) v q) [
    | inl x ↦ let lt = h.all e k v x in omega (arith, lt)
    | inr x ↦ go e k v (eqb piece.epoch e) refl x.1
  ];
}
  where
    go : (e k : ℕ) (v : Value) (b : Bool) → eqb piece.epoch e ≡ b → cond b (nth piece.values k) None ≡ Some v → e < suc c.epoch
    go e k v true y z = let is = is-eq piece.epoch e y in omega (arith, is, same)
    go e k v false y z = absurd (none-some v z)

module _ {Msg : Type 0} (R : Rules) (slots : HasSlots R) (M : Module Msg) (i : ℕ) (c : Past Msg) (settled : Settled R c)
    (reached : start_of R (log_of R M i c) c.epoch ≤ length (log_of R M i c)) (piece : Piece) (epoch : piece.epoch ≡ c.epoch)
    (complete : length piece.values ≡ R.slots (before R M i c piece.epoch) piece.epoch) where
  abbrev t : Past Msg
  t = adopts c piece

  abbrev start_log : List Value
  start_log = before R M i c piece.epoch

  later : Later R c t
  later = adopts-later R c piece settled

  -- where the epoch starts, and its log before
  reached_e : start_of R (log_of R M i c) piece.epoch ≤ length (log_of R M i c)
  reached_e = rw epoch reached

  start_length : length start_log ≡ start_of R (log_of R M i c) piece.epoch
  start_length = length-cut R (log_of R M i c) piece.epoch reached_e

  start_start : start_of R start_log piece.epoch ≡ length start_log
  start_start = start-cut R (log_of R M i c) piece.epoch reached_e

  -- a log that holds the epoch's start and not yet its end
  pub in_epoch : (xs : List Value) → Extends start_log xs → length xs < length start_log + length piece.values →
      (start_of R xs piece.epoch ≡ length start_log) × (epoch_at R xs ≡ piece.epoch)
  in_epoch xs x lt =
      let st : start_of R xs piece.epoch ≡ length start_log = start-extends R start_log xs piece.epoch x (omega (arith, start_start)) ∙ start_start in
      let cut : oldest (start_of R xs piece.epoch) xs ≡ start_log =
      ap (λ (n : ℕ). oldest n xs) st ∙
      (oldest-extends (length start_log) start_log xs x (omega arith) ∙ oldest-all (length start_log) start_log (omega arith)) in
      let next : start_of R xs (suc piece.epoch) ≡ length start_log + R.slots start_log piece.epoch =
      ap₂ (λ (n : ℕ) (ys : List Value). n + R.slots ys piece.epoch) st cut in
      let long : length start_log ≤ length xs = extends-length start_log xs x in
      (st, epoch-unique R slots.some xs piece.epoch (omega (arith, st, long)) (omega (arith, next, lt, complete)))

  abbrev end : ℕ
  end = length start_log + length piece.values

  -- no cell of the epoch is empty
  full : (xs : List Value) → IsLog R M i t xs → length xs < end → cell R M i t xs ≡ None → ⊥
  full xs h lt none =
      let log = log_of R M i c in
      let logt : IsLog R M i t log = log-kept R M i c t later log (log-chain R M i c) in
      elim (leb_tells (suc (length xs)) (length log)) [
        | inl y ↦
            let x = extends-next xs log (logs-meet R M i t xs log h logt (omega (arith, y.1))) y.1 in
            let k : Chain (λ o u. cell R M i t o ≡ Some u) (x.1.0 ++ (x.0 ∷ xs)) = rw x.1.1 at logt in
            let q : cell R M i t xs ≡ Some x.0 = (chain-part (λ o u. cell R M i t o ≡ Some u) x.1.0 x.0 xs k).1 in
            let z : None ≡ Some x.0 = sym none ∙ q in
            cc
        | inr y ↦
            let longer : Extends log xs = logs-meet R M i t log xs logt h (omega (arith, y.1)) in
            let part : Extends start_log xs = extends-trans start_log log xs (oldest-part (start_of R log piece.epoch) log) longer in
            let e = in_epoch xs part lt in
            let bf : length (before_at R xs) ≡ length start_log =
            length-cut R xs (epoch_at R xs) (epoch-low R xs) ∙ (ap (λ (n : ℕ). start_of R xs n) e.1 ∙ e.0) in
            let n = nth-some piece.values (length xs - length (before_at R xs)) (omega (arith, bf, lt, extends-length start_log xs part)) in
            let here : cond (eqb piece.epoch (epoch_at R xs)) (nth piece.values (length xs - length (before_at R xs))) None ≡ Some n.0 =
            subst (λ (b : Bool). cond b (nth piece.values (length xs - length (before_at R xs))) None ≡ Some n.0)
            (sym (ap (λ (n : ℕ). eqb piece.epoch n) e.1 ∙ eqb-same piece.epoch)) n.1 in
            first-some (delivered M (params_at R xs) i (c.evidence (epoch_at R xs) (leader_at R xs)) (length xs))
            (adopted_at c.adopted (epoch_at R xs) (length xs - length (before_at R xs)))
            (cond (eqb piece.epoch (epoch_at R xs)) (nth piece.values (length xs - length (before_at R xs))) None) n.0 here none
      ]

  reach_end : end ≤ length (log_of R M i t)
  reach_end = grow-far R M i t end full (suc (suc c.epoch) * R.most) [] tt
      (let a : start_of R (log_of R M i c) piece.epoch ≤ piece.epoch * R.most = start-most R slots.most (log_of R M i c) piece.epoch in
      let b : R.slots start_log piece.epoch ≤ R.most = slots.most start_log piece.epoch in
      let d : piece.epoch * R.most ≡ c.epoch * R.most = ap (λ (n : ℕ). n * R.most) epoch in
      let f : suc (suc c.epoch) * R.most ≡ c.epoch * R.most + R.most + R.most =
      suc-mul (suc c.epoch) R.most ∙ ap (λ (n : ℕ). n + R.most) (suc-mul c.epoch R.most) in
      omega (arith, a, b, d, f, start_length, complete))

  -- the log holds all of the epoch
  pub adopted-far : start_of R (log_of R M i t) (suc c.epoch) ≤ length (log_of R M i t)
  adopted-far =
      let grown : Extends (log_of R M i c) (log_of R M i t) = log-later R M i c t later in
      let st : start_of R (log_of R M i t) piece.epoch ≡ start_of R (log_of R M i c) piece.epoch =
      start-extends R (log_of R M i c) (log_of R M i t) piece.epoch grown reached_e in
      let cut : cut_at R (log_of R M i t) piece.epoch ≡ start_log = cut-extends R (log_of R M i c) (log_of R M i t) piece.epoch grown reached_e in
      let next : start_of R (log_of R M i t) (suc piece.epoch) ≡ start_of R (log_of R M i c) piece.epoch + R.slots start_log piece.epoch =
      ap₂ (λ (n : ℕ) (ys : List Value). n + R.slots ys piece.epoch) st cut in
      subst (λ (n : ℕ). start_of R (log_of R M i t) (suc n) ≤ length (log_of R M i t)) epoch (omega (arith, next, reach_end, start_length, complete))
