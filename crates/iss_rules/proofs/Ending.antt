-- The end of an epoch: the log is unchanged, and the next epoch starts at its end.
use Rattle.std.proofs.Common.{◌≡◌, inl, inr, ℕ, suc, ◌+◌, ◌≤◌, ◌<◌, true, List, [], ◌∷◌, ◌++◌, length, length-append, refl, sym, ap, ◌∙◌, subst, arith, le_antisymm, true≢false}
use Rattle.std.proofs.lemmas.Bool.Decides.{leb_tells}
use Rattle.iss_base.specs.Lists.{Extends}
use Rattle.iss_base.proofs.Lists.{extends-length, oldest-all, oldest-part}
use Rattle.iss_request.specs.declared.requests.Value.{Value}
use Rattle.iss_sb.specs.Evidence.{Module}
use Rattle.iss_rules.specs.Past.{Past, advanced, before_own, cut_at, ended_log, epoch_at, is_complete, log_of, start_of}
use Rattle.iss_rules.proofs.Logs.{IsLog, Later, Settled, log-chain, log-later}
use Rattle.iss_rules.specs.Rules.{Rules}
use Rattle.iss_rules.proofs.Epochs.{epoch-high, start-mono, start-within}
use Rattle.iss_rules.proofs.Longest.{Bounded, cell-epoch, longest}

-- epochs have slots, and no more than the bound
pub record HasSlots (R : Rules) : Type 0 where
  pub some : (log : List Value) (e : ℕ) → 0 < R.slots log e
  pub most : (log : List Value) (e : ℕ) → R.slots log e ≤ R.most

pub advanced-later : (R : Rules) {Msg : Type 0} (c : Past Msg) → Settled R c → Later R c (advanced c)
advanced-later R c h = record { epoch = omega arith; here = λ l. ([], refl); there = λ e l ne. refl; adopted = ([], refl); settled = h.all }

extends-both : (a b : List Value) → Extends a b → Extends b a → b ≡ a
extends-both a b ([], q) y = q
extends-both a b (v ∷ newer, q) y =
    let n = ap (λ (t : List Value). length t) q in
    let k : length (newer ++ a) ≡ length newer + length a = length-append newer a in
    absurd (omega (arith, n, k, extends-length b a y))

module _ (R : Rules) (h : HasSlots R) {Msg : Type 0} (M : Module Msg) (me : ℕ) (c : Past Msg) (b : Bounded c) where
  -- the end of an epoch does not change the log
  pub advanced-log : log_of R M me (advanced c) ≡ log_of R M me c
  advanced-log = extends-both (log_of R M me c) (log_of R M me (advanced c))
      (log-later R M me c (advanced c) (advanced-later R c (record { all = b.adopted })))
      (longest R h.some h.most M me c b (log_of R M me (advanced c)) (log-chain R M me (advanced c)))

  -- a log holds no more than the node's epoch
  pub log-within : length (log_of R M me c) ≤ start_of R (log_of R M me c) (suc c.epoch)
  log-within = go (log_of R M me c) (log-chain R M me c)
    where
      go : (log : List Value) → IsLog R M me c log → length log ≤ start_of R log (suc c.epoch)
      go [] k = omega arith
      go (v ∷ older) k =
          let e : epoch_at R older ≤ c.epoch = cell-epoch R M me c b older v k.1 in
          let high = epoch-high R h.some older in
          let mono = start-mono R older (suc (epoch_at R older)) (suc c.epoch) (omega (arith, e)) in
          elim (leb_tells (start_of R (v ∷ older) (suc c.epoch)) (length older)) [
            | inr t ↦ omega (arith, t.1)
            | inl t ↦
                let same : start_of R (v ∷ older) (suc c.epoch) ≡ start_of R older (suc c.epoch) =
                start-within R older (v ∷ older) (suc c.epoch) (v ∷ [], refl) t.1 in
                absurd (omega (arith, t.1, same, high, mono))
          ]

  module _ (complete : is_complete R M me c ≡ true) where
    -- if the epoch is over, the log holds all of it
    pub complete-far : start_of R (log_of R M me c) (suc c.epoch) ≤ length (log_of R M me c)
    complete-far = elim (leb_tells (start_of R (log_of R M me c) (suc c.epoch)) (length (log_of R M me c))) [
      | inl t ↦ t.1
      | inr t ↦ absurd (true≢false (sym complete ∙ t.0))
    ]

    -- and no more: the next epoch starts at the log's end
    pub ended-start : start_of R (log_of R M me c) (suc c.epoch) ≡ length (log_of R M me c)
    ended-start = le_antisymm complete-far log-within

    pub ended-whole : ended_log R M me c ≡ log_of R M me c
    ended-whole = oldest-all (start_of R (log_of R M me c) (suc c.epoch)) (log_of R M me c) log-within

    -- so the log is what the next epoch has before it
    pub before-advanced : before_own R M me (advanced c) ≡ log_of R M me c
    before-advanced = ap (λ (log : List Value). cut_at R log (suc c.epoch)) advanced-log ∙ ended-whole

    pub reached-advanced : start_of R (log_of R M me (advanced c)) (suc c.epoch) ≤ length (log_of R M me (advanced c))
    reached-advanced = subst (λ (log : List Value). start_of R log (suc c.epoch) ≤ length log) (sym advanced-log) complete-far

  -- the log before the node's epoch is part of the log
  pub before-part : Extends (before_own R M me c) (log_of R M me c)
  before-part = oldest-part (start_of R (log_of R M me c) c.epoch) (log_of R M me c)
