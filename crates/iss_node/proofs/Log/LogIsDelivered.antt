-- The slots of a node's epoch, and the log that they form.
use Rattle.std.proofs.Common.{arith, inl, inr, ◌≡◌, ℕ, zero, suc, ◌+◌, ◌-◌, ◌*◌, ◌<◌, ◌≤◌, List, [], ◌∷◌, ◌++◌, Option, Some, None, length, length-append, reverse, refl, sym, ap, ◌∙◌, subst, append_assoc, slice_get}
use Rattle.std.proofs.lemmas.Bool.Decides.{leb_tells}
use Rattle.std.proofs.lemmas.List.{append-nil, length-reverse, reverse-append}
use Rattle.iss_base.specs.Lists.{Chain, Extends, first_of, oldest}
use Rattle.iss_base.proofs.Lists.{chain-part, extends-cons, extends-length, extends-next, first_of-none, oldest-all, oldest-extends}
use Rattle.iss_layout.proofs.FairLemmas.{few_nodes}
use Rattle.iss_log.specs.LogState.{LogState, ahead_at, value_at}
use Rattle.iss_rules.specs.Concrete.{rules_of}
use Rattle.iss_rules.specs.Past.{Past, adopted_at, before_at, cell, cut_at, epoch_at, log_of, start_of}
use Rattle.iss_rules.proofs.Logs.{IsLog, log-chain}
use Rattle.iss_rules.proofs.Ending.{HasSlots}
use Rattle.iss_rules.proofs.Epochs.{epoch-high, epoch-unique, start-mono}
use Rattle.iss_rules.proofs.Longest.{Bounded, cell-epoch, longest}
use Rattle.iss_node.specs.State.{slot_value}
use Rattle.iss_request.specs.Setup.{IsGoodSetup}
use Rattle.iss_request.specs.declared.requests.Value.{Value}
use Rattle.iss_request.specs.declared.setups.Setup.{Setup}
use Rattle.iss_sb.specs.Evidence.{Module, delivered}

-- ---- where epochs start

pub start-is : (s : Setup) (log : List Value) (e : ℕ) → start_of (rules_of s) log e ≡ e * s.epoch
start-is s log zero = omega arith
start-is s log (suc e) = let h = start-is s log e in omega (arith, h)

pub has-slots : (s : Setup) → IsGoodSetup s → HasSlots (rules_of s)
has-slots s good = record {
  some = λ log e. let few = few_nodes s good in let low = good.epoch_low in let some : 0 < s.epoch = omega (arith, few.0, low) in some;
  most = λ log e. let most : s.epoch ≤ s.epoch = omega arith in most;
}

at_end : {A : Type 0} (xs : List A) (y : A) (ys : List A) → slice_get (xs ++ y ∷ ys) (length xs) ≡ Some y
at_end [] y ys = refl
at_end (x ∷ xs) y ys = at_end xs y ys

-- ---- the cells of an epoch, over the log before it

module _ (s : Setup) (good : IsGoodSetup s) {Msg : Type 0} (m : Module Msg) (me : ℕ) (d : Past Msg) (e : ℕ) (bf : List Value) (len : length bf ≡ e * s.epoch) where
  in-epoch : (k f : ℕ) (before : List Value) → f ≡ e → before ≡ bf →
      first_of (delivered m ((rules_of s).params before f ((rules_of s).leader before f k)) me (d.evidence f ((rules_of s).leader before f k)) k) (adopted_at d.adopted f (k - length before))
      ≡ first_of (slot_value (rules_of s) m me bf (record d { epoch = e }) k) (adopted_at d.adopted e (k - length bf))
  in-epoch k f before he hf =
      ap (λ (z : ℕ). first_of (delivered m ((rules_of s).params before z ((rules_of s).leader before z k)) me (d.evidence z ((rules_of s).leader before z k)) k) (adopted_at d.adopted z (k - length before))) he
      ∙ ap (λ (y : List Value). first_of (delivered m ((rules_of s).params y e ((rules_of s).leader y e k)) me (d.evidence e ((rules_of s).leader y e k)) k) (adopted_at d.adopted e (k - length y))) hf

  -- A slot of the epoch has what the instances delivered, or else what was adopted.
  pub epoch-cell : (older : List Value) → Extends bf older → length older < e * s.epoch + s.epoch →
      cell (rules_of s) m me d older ≡ first_of (slot_value (rules_of s) m me bf (record d { epoch = e }) (length older)) (adopted_at d.adopted e (length older - length bf))
  epoch-cell older x lt =
      let long = extends-length bf older x in
      let at = start-is s older e in
      let next = start-is s older (suc e) in
      let low : start_of (rules_of s) older e ≤ length older = omega (arith, at, len, long) in
      let high : length older < start_of (rules_of s) older (suc e) = omega (arith, next, lt) in
      let same : epoch_at (rules_of s) older ≡ e = epoch-unique (rules_of s) (has-slots s good).some older e low high in
      let within : length bf ≤ length bf = omega arith in
      let q : before_at (rules_of s) older ≡ bf =
      ap (λ (k : ℕ). cut_at (rules_of s) older k) same ∙ ap (λ (n : ℕ). oldest n older) (at ∙ sym len)
      ∙ oldest-extends (length bf) bf older x within ∙ oldest-all (length bf) bf within in
      in-epoch (length older) (epoch_at (rules_of s) older) (before_at (rules_of s) older) same q

-- ---- a log is extended

module _ (s : Setup) {Msg : Type 0} (m : Module Msg) (me : ℕ) (d : Past Msg) (bf : List Value) (log : LogState)
    (holds : (front : List Value) → Extends bf (reverse front) → (v : Value) → value_at log (length front) ≡ Some v → cell (rules_of s) m me d (reverse front) ≡ Some v) where
  here : (front more : List Value) (v : Value) → log.entries ≡ front ++ v ∷ more → value_at log (length front) ≡ Some v
  here front more v e =
      let g : slice_get log.entries (length front) ≡ Some v = ap (λ (xs : List Value). slice_get xs (length front)) e ∙ at_end front v more in
      ap (λ (o : Option Value). first_of o (ahead_at log.ahead (length front))) g

  -- The log as far as the slots agree with the model's cells.
  pub goes-on : (more front : List Value) → log.entries ≡ front ++ more → Extends bf (reverse front) → IsLog (rules_of s) m me d (reverse front) → Extends bf (reverse log.entries) × IsLog (rules_of s) m me d (reverse log.entries)
  goes-on [] front e x h =
      let is : front ≡ log.entries = sym (e ∙ append-nil front) in
      (subst (λ (xs : List Value). Extends bf (reverse xs)) is x, subst (λ (xs : List Value). IsLog (rules_of s) m me d (reverse xs)) is h)
  goes-on (v ∷ more) front e x h =
      let longer : log.entries ≡ (front ++ v ∷ []) ++ more = e ∙ sym (append_assoc front (v ∷ []) more) in
      let turned : reverse (front ++ v ∷ []) ≡ v ∷ reverse front = reverse-append front (v ∷ []) in
      goes-on more (front ++ v ∷ []) longer
      (subst (λ (xs : List Value). Extends bf xs) (sym turned) (extends-cons bf (reverse front) v x))
      (subst (λ (xs : List Value). IsLog (rules_of s) m me d xs) (sym turned) (h, holds front x v (here front more v e)))

-- ---- the cells of the node's own epoch

module _ (s : Setup) (good : IsGoodSetup s) {Msg : Type 0} (m : Module Msg) (me : ℕ) (d : Past Msg) (b : Bounded d) (bf : List Value) (len : length bf ≡ d.epoch * s.epoch) where
  pub nothing-adopted : (i : ℕ) → adopted_at d.adopted d.epoch i ≡ None
  nothing-adopted i = go (adopted_at d.adopted d.epoch i) refl
    where
      go : (o : Option Value) → adopted_at d.adopted d.epoch i ≡ o → adopted_at d.adopted d.epoch i ≡ None
      go None q = q
      go (Some v) q = let lt = b.adopted d.epoch i v q in absurd (omega (arith, lt))

  pub own-cell : (older : List Value) → Extends bf older → length older < d.epoch * s.epoch + s.epoch → cell (rules_of s) m me d older ≡ slot_value (rules_of s) m me bf d (length older)
  own-cell older x lt =
      epoch-cell s good m me d d.epoch bf len older x lt
      ∙ ap (λ (o : Option Value). first_of (slot_value (rules_of s) m me bf d (length older)) o) (nothing-adopted (length older - length bf))
      ∙ first_of-none (slot_value (rules_of s) m me bf d (length older))

  -- No cell after the epoch is filled.
  pub past-end : (older : List Value) → d.epoch * s.epoch + s.epoch ≤ length older → cell (rules_of s) m me d older ≡ None
  past-end older le = go (cell (rules_of s) m me d older) refl
    where
      go : (o : Option Value) → cell (rules_of s) m me d older ≡ o → cell (rules_of s) m me d older ≡ None
      go None q = q
      go (Some v) q =
          let e : epoch_at (rules_of s) older ≤ d.epoch = cell-epoch (rules_of s) m me d b older v q in
          let high = epoch-high (rules_of s) (has-slots s good).some older in
          let mono = start-mono (rules_of s) older (suc (epoch_at (rules_of s) older)) (suc d.epoch) (omega (arith, e)) in
          let next = start-is s older (suc d.epoch) in
          absurd (omega (arith, high, mono, next, le))

  -- If no slot is filled right after a log, it is the node's log.
  pub log-ends : (xs : List Value) → IsLog (rules_of s) m me d xs → cell (rules_of s) m me d xs ≡ None → log_of (rules_of s) m me d ≡ xs
  log-ends xs h none = go (longest (rules_of s) (has-slots s good).some (has-slots s good).most m me d b xs h)
    where
      go : Extends xs (log_of (rules_of s) m me d) → log_of (rules_of s) m me d ≡ xs
      go ([], q) = q
      go (v ∷ newer, q) =
          let n = ap (λ (t : List Value). length t) q in
          let k : length (newer ++ xs) ≡ length newer + length xs = length-append newer xs in
          let lt : length xs < length (log_of (rules_of s) m me d) = omega (arith, n, k) in
          let x = extends-next xs (log_of (rules_of s) m me d) (v ∷ newer, q) lt in
          let c : Chain (λ o u. cell (rules_of s) m me d o ≡ Some u) (x.1.0 ++ (x.0 ∷ xs)) = subst (λ (t : List Value). Chain (λ o u. cell (rules_of s) m me d o ≡ Some u) t) x.1.1 (log-chain (rules_of s) m me d) in
          let p = (chain-part (λ o u. cell (rules_of s) m me d o ≡ Some u) x.1.0 x.0 xs c).1 in
          let z : None ≡ Some x.0 = sym none ∙ p in
          absurd (cc)

  module _ (log : LogState)
      (cells : (k : ℕ) → d.epoch * s.epoch ≤ k → k < d.epoch * s.epoch + s.epoch → value_at log k ≡ slot_value (rules_of s) m me bf d k)
      (outside : (k : ℕ) → d.epoch * s.epoch + s.epoch ≤ k → value_at log k ≡ None)
      (hole : value_at log (length log.entries) ≡ None) where
    -- The cell right after a prefix of the log.
    behind : (front : List Value) → Extends bf (reverse front) → (o : Option Value) → value_at log (length front) ≡ o → cell (rules_of s) m me d (reverse front) ≡ o
    behind front x o is =
        let n = length-reverse front in
        let long = extends-length bf (reverse front) x in
        elim (leb_tells (d.epoch * s.epoch + s.epoch) (length front)) [
          | inl t ↦
              let over : d.epoch * s.epoch + s.epoch ≤ length (reverse front) = omega (arith, n, t.1) in
              past-end (reverse front) over ∙ sym (outside (length front) t.1) ∙ is
          | inr t ↦
              let lt : length (reverse front) < d.epoch * s.epoch + s.epoch = omega (arith, n, t.1) in
              let low : d.epoch * s.epoch ≤ length front = omega (arith, n, long, len) in
              own-cell (reverse front) x lt ∙ ap (λ (k : ℕ). slot_value (rules_of s) m me bf d k) n ∙ sym (cells (length front) low t.1) ∙ is
        ]

    -- The log is what the slots hold, starting from a prefix.
    pub log-is : (front more : List Value) → log.entries ≡ front ++ more → Extends bf (reverse front) → IsLog (rules_of s) m me d (reverse front) → log_of (rules_of s) m me d ≡ reverse log.entries
    log-is front more e x h = let all = goes-on s m me d bf log (λ part y v is. behind part y (Some v) is) more front e x h in log-ends (reverse log.entries) all.1 (behind log.entries all.0 None hole)
