-- A node's log is the longest of its logs, and continues each of them.
use Rattle.std.proofs.Common.{◌≡◌, inl, inr, ℕ, suc, zero, ◌+◌, ◌-◌, ◌*◌, ◌≤◌, ◌<◌, List, [], ◌∷◌, ◌++◌, length, Option, Some, None, refl, sym, ap, ◌∙◌, arith}
use Rattle.std.proofs.lemmas.Bool.Decides.{leb_tells}
use Rattle.iss_base.specs.Lists.{Chain, Extends}
use Rattle.iss_base.proofs.Lists.{chain-part, extends-next, first-cases}
use Rattle.iss_request.specs.declared.requests.Value.{Value}
use Rattle.iss_sb.specs.Evidence.{Module, delivered}
use Rattle.iss_rules.specs.Past.{Past, adopted_at, before_at, cell, epoch_at, grow, grown, leader_at, log_of, params_at}
use Rattle.iss_rules.proofs.Logs.{IsLog, log-chain, logs-meet}
use Rattle.iss_rules.specs.Rules.{Rules}
use Rattle.iss_rules.proofs.Epochs.{epoch-high, start-most, start-mono}

-- a log continues each of its prefixes
pub grow-resume : (R : Rules) {Msg : Type 0} (M : Module Msg) (me : ℕ) (c : Past Msg) (log : List Value) → IsLog R M me c log → (m : ℕ) →
    grow R M me c (length log + m) [] ≡ grow R M me c m log
grow-resume R M me c [] h m = ap (λ (n : ℕ). grow R M me c n []) (let q : 0 + m ≡ m = omega arith in q)
grow-resume R M me c (v ∷ older) h m =
    let more : length (v ∷ older) + m ≡ length older + suc m = omega arith in
    ap (λ (n : ℕ). grow R M me c n []) more ∙ (grow-resume R M me c older h.0 (suc m) ∙ ap (λ (o : Option Value). grown o older (grow R M me c m)) h.1)

-- no cell after the node's epoch is filled
pub record Bounded {Msg : Type 0} (c : Past Msg) : Type 0 where
  pub evidence : (e l : ℕ) → c.epoch < e → c.evidence e l ≡ []
  pub adopted : (e k : ℕ) (v : Value) → adopted_at c.adopted e k ≡ Some v → e < c.epoch

pub cell-epoch : (R : Rules) {Msg : Type 0} (M : Module Msg) (me : ℕ) (c : Past Msg) → Bounded c → (xs : List Value) (v : Value) →
    cell R M me c xs ≡ Some v → epoch_at R xs ≤ c.epoch
cell-epoch R M me c b xs v h = elim (leb_tells (epoch_at R xs) c.epoch) [
  | inl t ↦ t.1
  | inr t ↦
      let none : c.evidence (epoch_at R xs) (leader_at R xs) ≡ [] = b.evidence (epoch_at R xs) (leader_at R xs) t.1 in
      elim (first-cases (delivered M (params_at R xs) me (c.evidence (epoch_at R xs) (leader_at R xs)) (length xs))
      (adopted_at c.adopted (epoch_at R xs) (length xs - length (before_at R xs))) v h) [
        | inl a ↦ let k : delivered M (params_at R xs) me [] (length xs) ≡ Some v = rw none at a in absurd (cc)
        | inr a ↦ let k = b.adopted (epoch_at R xs) (length xs - length (before_at R xs)) v a.1 in omega (arith, k)
      ]
]

-- the slot after the log is empty
pub log-full : (R : Rules) → ((log : List Value) (e : ℕ) → 0 < R.slots log e) → ((log : List Value) (e : ℕ) → R.slots log e ≤ R.most) →
    {Msg : Type 0} (M : Module Msg) (me : ℕ) (c : Past Msg) → Bounded c → cell R M me c (log_of R M me c) ≡ None
log-full R some most M me c b = go (suc c.epoch * R.most) [] tt (omega arith)
  where
    go : (n : ℕ) (log : List Value) → IsLog R M me c log → suc c.epoch * R.most ≤ length log + n → cell R M me c (grow R M me c n log) ≡ None
    go zero log h le = stop (cell R M me c log) refl
      where
        stop : (o : Option Value) → cell R M me c log ≡ o → o ≡ None
        stop None q = refl
        stop (Some v) q =
            let e : epoch_at R log ≤ c.epoch = cell-epoch R M me c b log v q in
            absurd (omega (
              arith,
              epoch-high R some log,
              start-mono R log (suc (epoch_at R log)) (suc c.epoch) (omega (arith, e)),
              start-most R most log
                  (suc c.epoch),
              le,
            ))
    go (suc n) log h le = next (λ (v : Value) (k : IsLog R M me c (v ∷ log)). go n (v ∷ log) k (omega (arith, le))) (cell R M me c log) refl
      where
        next : ((v : Value) → IsLog R M me c (v ∷ log) → cell R M me c (grow R M me c n (v ∷ log)) ≡ None) → (o : Option Value) → cell R M me c log ≡ o →
            cell R M me c (grown o log (grow R M me c n)) ≡ None
        next ih None q = q
        next ih (Some v) q = ih v (h, q)

-- so it is the longest
pub longest : (R : Rules) → ((log : List Value) (e : ℕ) → 0 < R.slots log e) → ((log : List Value) (e : ℕ) → R.slots log e ≤ R.most) →
    {Msg : Type 0} (M : Module Msg) (me : ℕ) (c : Past Msg) → Bounded c → (xs : List Value) → IsLog R M me c xs → Extends xs (log_of R M me c)
longest R some most M me c b xs h = elim (leb_tells (length xs) (length (log_of R M me c))) [
  | inl t ↦ logs-meet R M me c xs (log_of R M me c) h (log-chain R M me c) t.1
  | inr t ↦
      let log = log_of R M me c in
      let x = extends-next log xs (logs-meet R M me c log xs (log-chain R M me c) h (omega (arith, t.1))) t.1 in
      let k : Chain (λ o u. cell R M me c o ≡ Some u) (x.1.0 ++ (x.0 ∷ log)) = rw x.1.1 at h in
      let q : cell R M me c log ≡ Some x.0 = (chain-part (λ o u. cell R M me c o ≡ Some u) x.1.0 x.0 log k).1 in
      let z : None ≡ Some x.0 = sym (log-full R some most M me c b) ∙ q in
      absurd (cc)
]
