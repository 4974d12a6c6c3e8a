-- The log of one core: each value is in its cell, and the log grows with the histories.
use Rattle.std.proofs.Common.{◌≡◌, ◌≢◌, inl, inr, ℕ, suc, zero, ◌+◌, ◌-◌, ◌*◌, ◌≤◌, ◌<◌, List, [], ◌∷◌, ◌++◌, length, Option, Some, None, refl, sym, ◌∙◌, arith, append_assoc, mul-le-mul_right}
use Rattle.std.proofs.lemmas.Bool.Decides.{leb_tells}
use Rattle.iss_base.specs.Lists.{Extends, Chain}
use Rattle.iss_base.proofs.Lists.{extends-refl, chains-meet, first-cases, same_or_not, set_at2-cons, set_at2-other}
use Rattle.iss_request.specs.declared.requests.Value.{Value}
use Rattle.iss_sb.specs.declared.effects.Input.{Input}
use Rattle.iss_sb.specs.declared.effects.Params.{Params}
use Rattle.iss_sb.specs.Evidence.{Item, Module, delivered}
use Rattle.iss_rules.specs.Past.{Past, Piece, adopted_at, before, before_at, cell, epoch_at, grow, grown, leader_at, log_of, made_in, params_at, start_of, takes, initial_history}
use Rattle.iss_rules.specs.Rules.{Rules}
use Rattle.iss_rules.proofs.Epochs.{cut-extends}

abbrev pub IsLog : {Msg : Type 0} → Rules → Module Msg → ℕ → Past Msg → List Value → Type 0
IsLog R M me c = Chain (λ older v. cell R M me c older ≡ Some v)

-- a longer history delivers what a shorter one did
pub delivered-append : {Msg : Type 0} (M : Module Msg) (p : Params) (me : ℕ) (newer xs : List (Item Msg)) (s : ℕ) (v : Value) →
    delivered M p me xs s ≡ Some v → delivered M p me (newer ++ xs) s ≡ Some v
delivered-append M p me [] xs s v h = h
delivered-append M p me (x ∷ newer) xs s v h =
    let k : delivered M p me (newer ++ xs) s ≡ Some v = delivered-append M p me newer xs s v h in
    rw k refl

pub adopted-append : (newer ps : List Piece) (e k : ℕ) (v : Value) → adopted_at ps e k ≡ Some v → adopted_at (newer ++ ps) e k ≡ Some v
adopted-append [] ps e k v h = h
adopted-append (p ∷ newer) ps e k v h = let q : adopted_at (newer ++ ps) e k ≡ Some v = adopted-append newer ps e k v h in rw q refl

-- d is later than c: histories grew in the current epoch only, and newly adopted values are of earlier epochs
pub record Later (R : Rules) {Msg : Type 0} (c d : Past Msg) : Type 0 where
  pub epoch : c.epoch ≤ d.epoch
  pub here : (l : ℕ) → (newer : List (Item Msg)) × (d.evidence c.epoch l ≡ newer ++ c.evidence c.epoch l)
  pub there : (e l : ℕ) → e ≢ c.epoch → d.evidence e l ≡ c.evidence e l
  pub adopted : (newer : List Piece) × (d.adopted ≡ newer ++ c.adopted)
  pub settled : (e k : ℕ) (v : Value) → adopted_at c.adopted e k ≡ Some v → e < c.epoch

pub evidence-later : (R : Rules) {Msg : Type 0} (c d : Past Msg) → Later R c d → (e l : ℕ) →
    (newer : List (Item Msg)) × (d.evidence e l ≡ newer ++ c.evidence e l)
evidence-later R {Msg} c d h e l = elim (same_or_not e c.epoch) [ inl q ↦ rw q (h.here l) | inr ne ↦ ([], h.there e l ne) ]

pub delivered-later : (R : Rules) {Msg : Type 0} (M : Module Msg) (p : Params) (me : ℕ) (c d : Past Msg) → Later R c d → (e l s : ℕ) (v : Value) →
    delivered M p me (c.evidence e l) s ≡ Some v → delivered M p me (d.evidence e l) s ≡ Some v
delivered-later R M p me c d h e l s v k = let g = evidence-later R c d h e l in rw g.1 (delivered-append M p me g.0 (c.evidence e l) s v k)

pub cell-later : (R : Rules) {Msg : Type 0} (M : Module Msg) (me : ℕ) (c d : Past Msg) → Later R c d → (older : List Value) (v : Value) →
    cell R M me c older ≡ Some v → cell R M me d older ≡ Some v
cell-later R M me c d h older v k =
    let e = epoch_at R older in
    let l = leader_at R older in
    elim (first-cases (delivered M (params_at R older) me (c.evidence e l) (length older))
    (adopted_at c.adopted e (length older - length (before_at R older))) v k) [
      | inl a ↦ let b : delivered M (params_at R older) me (d.evidence e l) (length older) ≡ Some v =
          delivered-later R M (params_at R older) me c d h e l (length older) v a in rw b refl
      | inr a ↦
          let lt : e < c.epoch = h.settled e (length older - length (before_at R older)) v a.1 in
          let none : delivered M (params_at R older) me (d.evidence e l) (length older) ≡ None = rw (h.there e l (omega (arith, lt))) a.0 in
          let some : adopted_at d.adopted e (length older - length (before_at R older)) ≡ Some v =
          rw h.adopted.1 (adopted-append h.adopted.0 c.adopted e (length older - length (before_at R older)) v a.1) in
          rw none some
    ]

pub log-kept : (R : Rules) {Msg : Type 0} (M : Module Msg) (me : ℕ) (c d : Past Msg) → Later R c d → (xs : List Value) → IsLog R M me c xs → IsLog R M me d xs
log-kept R M me c d h [] k = tt
log-kept R M me c d h (v ∷ older) k = (log-kept R M me c d h older k.0, cell-later R M me c d h older v k.1)

pub grow-chain : (R : Rules) {Msg : Type 0} (M : Module Msg) (me : ℕ) (c : Past Msg) (n : ℕ) (log : List Value) → IsLog R M me c log →
    IsLog R M me c (grow R M me c n log)
grow-chain R M me c zero log h = h
grow-chain R M me c (suc n) log h = go (grow-chain R M me c n) (cell R M me c log) refl
  where
    go : ((more : List Value) → IsLog R M me c more → IsLog R M me c (grow R M me c n more)) → (o : Option Value) → cell R M me c log ≡ o →
        IsLog R M me c (grown o log (grow R M me c n))
    go ih None e = h
    go ih (Some v) e = ih (v ∷ log) (h, e)

pub log-chain : (R : Rules) {Msg : Type 0} (M : Module Msg) (me : ℕ) (c : Past Msg) → IsLog R M me c (log_of R M me c)
log-chain R M me c = grow-chain R M me c (suc c.epoch * R.most) [] tt

pub grow-extends : (R : Rules) {Msg : Type 0} (M : Module Msg) (me : ℕ) (c : Past Msg) (n : ℕ) (log : List Value) → Extends log (grow R M me c n log)
grow-extends R M me c zero log = extends-refl log
grow-extends R M me c (suc n) log = go (grow-extends R M me c n) (cell R M me c log)
  where
    go : ((more : List Value) → Extends more (grow R M me c n more)) → (o : Option Value) → Extends log (grown o log (grow R M me c n))
    go ih None = extends-refl log
    go ih (Some v) = let x = ih (v ∷ log) in (x.0 ++ v ∷ [], x.1 ∙ sym (append_assoc x.0 (v ∷ []) log))

pub grow-later : (R : Rules) {Msg : Type 0} (M : Module Msg) (me : ℕ) (c d : Past Msg) → Later R c d → (n m : ℕ) → n ≤ m → (log : List Value) →
    Extends (grow R M me c n log) (grow R M me d m log)
grow-later R M me c d h zero m le log = grow-extends R M me d m log
grow-later R M me c d h (suc n) zero le log = absurd (omega arith)
grow-later R M me c d h (suc n) (suc m) le log = go (grow-later R M me c d h n m (omega arith)) (cell R M me c log) refl
  where
    go : ((more : List Value) → Extends (grow R M me c n more) (grow R M me d m more)) → (o : Option Value) → cell R M me c log ≡ o →
        Extends (grown o log (grow R M me c n)) (grow R M me d (suc m) log)
    go ih None e = grow-extends R M me d (suc m) log
    go ih (Some v) e = let k : cell R M me d log ≡ Some v = cell-later R M me c d h log v e in rw k (ih (v ∷ log))

pub log-later : (R : Rules) {Msg : Type 0} (M : Module Msg) (me : ℕ) (c d : Past Msg) → Later R c d → Extends (log_of R M me c) (log_of R M me d)
log-later R M me c d h = grow-later R M me c d h (suc c.epoch * R.most) (suc d.epoch * R.most) (mul-le-mul_right R.most (omega (arith, h.epoch))) []

pub before-later : (R : Rules) {Msg : Type 0} (M : Module Msg) (me : ℕ) (c d : Past Msg) (e : ℕ) → Later R c d →
    start_of R (log_of R M me c) e ≤ length (log_of R M me c) → before R M me d e ≡ before R M me c e
before-later R M me c d e h le = cut-extends R (log_of R M me c) (log_of R M me d) e (log-later R M me c d h) le

-- two logs of one core
pub logs-meet : (R : Rules) {Msg : Type 0} (M : Module Msg) (me : ℕ) (c : Past Msg) (a b : List Value) → IsLog R M me c a → IsLog R M me c b →
    length a ≤ length b → Extends a b
logs-meet R M me c a b = let P : List Value → Value → Type 0 = λ older v. cell R M me c older ≡ Some v in chains-meet P P (λ older v u _ _ p q. cc) a b

-- what later moves share
pub record Settled (R : Rules) {Msg : Type 0} (c : Past Msg) : Type 0 where
  pub all : (e k : ℕ) (v : Value) → adopted_at c.adopted e k ≡ Some v → e < c.epoch

pub later-refl : (R : Rules) {Msg : Type 0} (c : Past Msg) → Settled R c → Later R c c
later-refl R c h = record { epoch = omega arith; here = λ l. ([], refl); there = λ e l ne. refl; adopted = ([], refl); settled = h.all }

pub takes-later : (R : Rules) {Msg : Type 0} (M : Module Msg) (me : ℕ) (c : Past Msg) (l : ℕ) (input : Input Msg) (leaf : ℕ) → Settled R c →
    Later R c (takes R M me c l input leaf)
takes-later R M me c l input leaf h = record {
  epoch = omega arith;
  here = set_at2-cons c.evidence c.epoch l (record { input = input; leaf = leaf; made = made_in R M me c l input leaf }) c.epoch;
  there = λ e k ne. set_at2-other c.evidence c.epoch l _ e k (inl ne);
  adopted = ([], refl);
  settled = h.all;
}

-- a log without an empty cell below n reaches n
pub grow-far : (R : Rules) {Msg : Type 0} (M : Module Msg) (me : ℕ) (d : Past Msg) (n : ℕ) →
    ((xs : List Value) → IsLog R M me d xs → length xs < n → cell R M me d xs ≡ None → ⊥) → (fuel : ℕ) (log : List Value) → IsLog R M me d log →
    n ≤ length log + fuel → n ≤ length (grow R M me d fuel log)
grow-far R M me d n full zero log h le = omega arith
grow-far R M me d n full (suc k) log h le = go (grow-far R M me d n full k) (cell R M me d log) refl
  where
    go : ((more : List Value) → IsLog R M me d more → n ≤ length more + k → n ≤ length (grow R M me d k more)) → (o : Option Value) → cell R M me d log ≡ o →
        n ≤ length (grown o log (grow R M me d k))
    go ih None e = elim (leb_tells n (length log)) [ inl t ↦ t.1 | inr t ↦ absurd (full log h t.1 e) ]
    go ih (Some v) e = ih (v ∷ log) (h, e) (omega (arith, le))

newborn-empty : (R : Rules) {Msg : Type 0} (M : Module Msg) (me n : ℕ) → grow R M me initial_history n [] ≡ []
newborn-empty R M me zero = refl
newborn-empty R M me (suc n) = refl

pub newborn-log : (R : Rules) {Msg : Type 0} (M : Module Msg) (me : ℕ) → log_of R M me initial_history ≡ []
newborn-log R M me = newborn-empty R M me _
