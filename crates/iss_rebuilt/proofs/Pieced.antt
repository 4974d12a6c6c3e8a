-- A past that has adopted the epochs of a log has that log.
use Rattle.std.proofs.Common.{◌≡◌, inl, inr, ℕ, zero, suc, ◌+◌, ◌-◌, ◌*◌, ◌≤◌, ◌<◌, cond, eqb, List, [], ◌∷◌, ◌++◌, length, length-append, reverse, Option, Some, None, refl, sym, ap, ◌∙◌, subst, arith, eq-or-lt_of_le, le_trans, mul-le-mul_right}
use Rattle.std.proofs.lemmas.Bool.Decides.{leb_tells}
use Rattle.iss_base.specs.Lists.{Extends, first_of, nth, oldest, push_all}
use Rattle.iss_base.proofs.Lists.{ends-same, eqb-other, eqb-same, extends-length, extends-refl, extends-tail, extends-trans, first_of-none, length-over, nth-some, oldest-holds, oldest-part, over-at}
use Rattle.iss_request.specs.declared.requests.Value.{Value}
use Rattle.iss_sb.specs.Evidence.{Module}
use Rattle.iss_rules.specs.Past.{Piece, adopted_at, before_at, cell, cut_at, epoch_at, grow, grown, log_of, start_of}
use Rattle.iss_rules.specs.Rules.{Rules}
use Rattle.iss_rules.proofs.Ending.{HasSlots}
use Rattle.iss_rules.proofs.Epochs.{cut-extends, epoch-high, epoch-low, epoch-unique, length-cut, start-cut, start-extends, start-mono, start-most, start-within}
use Rattle.iss_rules.proofs.Logs.{IsLog}
use Rattle.iss_rules.proofs.Longest.{grow-resume}
use Rattle.iss_rules.proofs.Reversed.{over-turned}
use Rattle.iss_model.specs.Frames.{Frame}
use Rattle.iss_model.specs.Node.{joined, values_of}
use Rattle.iss_model.proofs.Casts.{joined-newer}
use Rattle.iss_rebuilt.specs.Storable.{adopted_of, past_of}
use Rattle.iss_rebuilt.specs.Reading.{adopts_epochs}
use Rattle.iss_rebuilt.specs.Stored.{epochs_of}

-- parts of a list that end as it does, and are as long
same-end : {A : Type 0} (a b l : List A) → Extends a l → Extends b l → length a ≡ length b → a ≡ b
same-end a b l x y len =
    let q : x.0 ++ a ≡ y.0 ++ b = sym x.1 ∙ y.1 in
    let n : length x.0 + length a ≡ length y.0 + length b = sym (length-append x.0 a) ∙ (ap (λ (t : List _). length t) q ∙ length-append y.0 b) in
    (ends-same x.0 y.0 a b (omega (arith, n, len)) q).1

module _ {Msg : Type 0} (W : Frame Msg) (slots : HasSlots W.rules) (me : ℕ) where
  abbrev pieces : List Value → ℕ → List Piece
  pieces log n = adopted_of W log n

  pub adopting : (log : List Value) (m k : ℕ) → adopts_epochs (past_of W log m) (epochs_of W log m k) ≡ past_of W log (m + k)
  adopting log m zero = ap (λ (n : ℕ). past_of W log n) (let q : m ≡ m + 0 = omega arith in q)
  adopting log m (suc k) = adopting log (suc m) k ∙ ap (λ (n : ℕ). past_of W log n) (let q : suc m + k ≡ m + suc k = omega arith in q)

  pub pieces-none : (log : List Value) (n e k : ℕ) → n ≤ e → adopted_at (pieces log n) e k ≡ None
  pieces-none log zero e k le = refl
  pieces-none log (suc n) e k le =
      let lower : adopted_at (pieces log n) e k ≡ None = pieces-none log n e k (omega (arith, le)) in
      let other : eqb n e ≡ _ = eqb-other n e (λ q. absurd (omega (arith, le, q))) in
      ap (λ (o : Option Value). first_of o (cond (eqb n e) (nth (values_of W.rules log n) k) None)) lower
      ∙ ap (λ b. cond b (nth (values_of W.rules log n) k) None) other

  pub pieces-at : (log : List Value) (n e k : ℕ) → e < n → adopted_at (pieces log n) e k ≡ nth (values_of W.rules log e) k
  pieces-at log zero e k lt = absurd (omega (arith, lt))
  pieces-at log (suc n) e k lt = elim (eq-or-lt_of_le (let le : e ≤ n = omega (arith, lt) in le)) [
    | inl q ↦
        let lower : adopted_at (pieces log n) e k ≡ None = pieces-none log n e k (omega (arith, q)) in
        let here : eqb n e ≡ _ = ap (λ (m : ℕ). eqb n m) q ∙ eqb-same n in
        ap (λ (o : Option Value). first_of o (cond (eqb n e) (nth (values_of W.rules log n) k) None)) lower
        ∙ (ap (λ b. cond b (nth (values_of W.rules log n) k) None) here
        ∙ ap (λ (m : ℕ). nth (values_of W.rules log m) k) (sym q))
    | inr less ↦
        let lower = pieces-at log n e k less in
        let other : eqb n e ≡ _ = eqb-other n e (λ q. absurd (omega (arith, less, q))) in
        ap (λ b. first_of (adopted_at (pieces log n) e k) (cond b (nth (values_of W.rules log n) k) None)) other
        ∙ (first_of-none (adopted_at (pieces log n) e k) ∙ lower)
  ]

  module _ (log : List Value) (n : ℕ) (far : start_of W.rules log n ≤ length log) where
    abbrev R : Rules
    R = W.rules

    abbrev M : Module Msg
    M = W.spec

    start-far : (e : ℕ) → e ≤ n → start_of R log e ≤ length log
    start-far e le = le_trans (start-mono R log e n le) far

    -- the values of an epoch lead from one cut of the log to the next
    pub epoch-over : (e : ℕ) → e < n → push_all (values_of R log e) (cut_at R log e) ≡ cut_at R log (suc e)
    epoch-over e lt =
        let low = cut_at R log e in
        let part : Extends low log = oldest-part (start_of R log e) log in
        let len : length low ≡ start_of R log e = length-cut R log e (start-far e (omega (arith, lt))) in
        let rise = start-mono R log e (suc e) (omega arith) in
        let x : Extends low (cut_at R log (suc e)) =
        subst (λ (t : List Value). Extends low (oldest (start_of R log (suc e)) t)) (sym part.1) (oldest-holds (start_of R log (suc e)) part.0 low (omega (arith, len, rise))) in
        let values : values_of R log e ≡ reverse x.0 =
        ap (λ (t : List Value). reverse (joined (length low) t)) x.1 ∙ ap (λ (t : List Value). reverse t) (joined-newer x.0 low) in
        ap (λ (vs : List Value). push_all vs low) values ∙ (over-turned x.0 low ∙ sym x.1)

    -- each value of the log before epoch n stands in its cell
    cell-is : (older : List Value) (v : Value) → Extends (v ∷ older) log → length older < start_of R log n → cell R M me (past_of W log n) older ≡ Some v
    cell-is older v x lt =
        let e : ℕ = epoch_at R older in
        let part : Extends older log = extends-tail v older log x in
        let low = epoch-low R older in
        let start : start_of R log e ≡ start_of R older e = start-extends R older log e part low in
        let before : cut_at R log e ≡ before_at R older = cut-extends R older log e part low in
        let below : e < n = elim (leb_tells n e) [
          | inl t ↦ absurd (omega (arith, start-mono R log n e t.1, start, low, lt))
          | inr t ↦ t.1
        ] in
        let high : length older < start_of R log (suc e) = elim (leb_tells (start_of R log (suc e)) (length older)) [
          | inl t ↦ let same = start-within R older log (suc e) part t.1 in absurd (omega (arith, same, t.1, epoch-high R slots.some older))
          | inr t ↦ t.1
        ] in
        let whole = epoch-over e below in
        let cut_len : length (cut_at R log e) ≡ start_of R log e = length-cut R log e (start-far e (omega (arith, below))) in
        let next_len : length (cut_at R log (suc e)) ≡ start_of R log (suc e) = length-cut R log (suc e) (start-far (suc e) (omega (arith, below))) in
        let before_len : length (before_at R older) ≡ length (cut_at R log e) = ap (λ (t : List Value). length t) (sym before) in
        let lens : length (cut_at R log (suc e)) ≡ length (values_of R log e) + length (cut_at R log e) =
        ap (λ (t : List Value). length t) (sym whole) ∙ length-over (values_of R log e) (cut_at R log e) in
        let k : ℕ = length older - length (before_at R older) in
        let some = nth-some (values_of R log e) k (omega (arith, lens, next_len, high, before_len, cut_len, start, low)) in
        let there = over-at (values_of R log e) (cut_at R log e) k some.0 some.1 in
        let in_cut : Extends (some.0 ∷ there.0) (cut_at R log (suc e)) = subst (λ (t : List Value). Extends (some.0 ∷ there.0) t) whole there.1 in
        let in_log : Extends (some.0 ∷ there.0) log =
        extends-trans (some.0 ∷ there.0) (cut_at R log (suc e)) log in_cut (oldest-part (start_of R log (suc e)) log) in
        let len_there = there.2 in
        let long : length (some.0 ∷ there.0) ≡ length (v ∷ older) = omega (arith, len_there, before_len, cut_len, start, low) in
        let same : some.0 ∷ there.0 ≡ v ∷ older = same-end (some.0 ∷ there.0) (v ∷ older) log in_log x long in
        let value : some.0 ≡ v = cc in
        pieces-at log n e k below ∙ (some.1 ∙ ap (λ (u : Value). Some u) value)

    is-log : (xs : List Value) → Extends xs (cut_at R log n) → IsLog R M me (past_of W log n) xs
    is-log [] x = tt
    is-log (v ∷ older) x =
        let in_log : Extends (v ∷ older) log = extends-trans (v ∷ older) (cut_at R log n) log x (oldest-part (start_of R log n) log) in
        let len : length (cut_at R log n) ≡ start_of R log n = length-cut R log n far in
        let long = extends-length (v ∷ older) (cut_at R log n) x in
        (is-log older (extends-tail v older (cut_at R log n) x), cell-is older v in_log (omega (arith, len, long)))

    -- and nothing behind it
    top-none : cell R M me (past_of W log n) (cut_at R log n) ≡ None
    top-none =
        let top : List Value = cut_at R log n in
        let len : start_of R top n ≡ length top = start-cut R log n far in
        let more : 0 < R.slots (oldest (start_of R top n) top) n = slots.some (oldest (start_of R top n) top) n in
        let here : epoch_at R top ≡ n = epoch-unique R slots.some top n (omega (arith, len)) (omega (arith, len, more)) in
        pieces-none log n (epoch_at R top) (length top - length (before_at R top)) (omega (arith, here))

    stays : (m : ℕ) → grow R M me (past_of W log n) m (cut_at R log n) ≡ cut_at R log n
    stays zero = refl
    stays (suc m) = ap (λ (o : Option Value). grown o (cut_at R log n) (grow R M me (past_of W log n) m)) top-none

    pub log-is : log_of R M me (past_of W log n) ≡ cut_at R log n
    log-is =
        let top : List Value = cut_at R log n in
        let len : length top ≡ start_of R log n = length-cut R log n far in
        let most = start-most R slots.most log n in
        let room : length top ≤ suc n * R.most = le_trans (omega (arith, len, most)) (mul-le-mul_right R.most (let q : n ≤ suc n = omega arith in q)) in
        let m : ℕ = suc n * R.most - length top in
        let q : length top + m ≡ suc n * R.most = omega (arith, room) in
        ap (λ (k : ℕ). grow R M me (past_of W log n) k []) (sym q)
        ∙ (grow-resume R M me (past_of W log n) top (is-log top (extends-refl top)) m ∙ stays m)

    pub reached : start_of R (log_of R M me (past_of W log n)) n ≤ length (log_of R M me (past_of W log n))
    reached = subst (λ (t : List Value). start_of R t n ≤ length t) (sym log-is) (let len = start-cut R log n far in omega (arith, len))
