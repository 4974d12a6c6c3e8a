-- The code's search for the commit index finds the model's.
use Rattle.std.proofs.Common.{◌≡◌, ℕ, zero, suc, ◌+◌, ◌<◌, ◌≤◌, ◌==◌, ◌&&◌, ◌||◌, Bool, true, false, cond, if◌then◌else◌, length, refl, sym, subst, ap, ◌∙◌, inl, inr, ◌⊎◌, true≢false, arith}
use Rattle.std.specs.Prelude.{max, min, nat_le, nat_lt}
use Rattle.std.proofs.lemmas.Bool.{cases_lt, and_parts, eqb-true, le-leb, leb-true, lt-ltb, ltb-true, or_cases}
use Rattle.iss_base.specs.Quorum.{count_below}
use Rattle.iss_base.proofs.Lists.{both}
use Rattle.iss_base.proofs.Quorum.{count-mono, or_right_true}
use Rattle.iss_sb.specs.declared.effects.Params.{Params}
use Rattle.sb_raft.specs.Logs.{term_at}
use Rattle.sb_raft.specs.Rules.{State, greatest, holds, may_commit}
use Rattle.sb_raft.specs.Refines.{IsHeld, IsMost, far}

-- ---- The greatest number of a range that passes a test, if any

pub greatest-of : (test : ℕ → Bool) (low k x : ℕ) → low ≤ x → (x ≤ k) ⊎ (x ≡ low) → (low < x → test x ≡ true) → ((i : ℕ) → x < i → i ≤ k → test i ≡ true → ⊥) → greatest test low k ≡ x
greatest-of test low zero x above within passes most = elim within [
  | inl le ↦ omega (arith, above, le)
  | inr e ↦ sym e
]
greatest-of test low (suc k) x above within passes most =
    go (cases_lt x (suc k)) (λ w. greatest-of test low k x above w passes (λ i l h t. most i l (omega (arith, h)) t))
  where
    lower : (b : Bool) → (nat_lt low (suc k) && test (suc k)) ≡ b → x < suc k → greatest test low k ≡ x → (if b then suc k else greatest test low k) ≡ x
    lower true q lt r = absurd (most (suc k) lt (omega arith) (and_parts (nat_lt low (suc k)) (test (suc k)) q).1)
    lower false q lt r = r

    here : (b : Bool) → (nat_lt low (suc k) && test (suc k)) ≡ b → x ≡ suc k → low < x → (if b then suc k else greatest test low k) ≡ x
    here true q e lt = sym e
    here false q e lt =
        absurd (true≢false (sym (both (nat_lt low (suc k)) (test (suc k)) (lt-ltb low (suc k) (omega (arith, e, lt))) (subst (λ (z : ℕ). test z ≡ true) e (passes lt))) ∙ q))

    nothing : (b : Bool) → (nat_lt low (suc k) && test (suc k)) ≡ b → suc k ≤ low → x ≡ low → greatest test low k ≡ x → (if b then suc k else greatest test low k) ≡ x
    nothing true q le e r = let l = ltb-true low (suc k) (and_parts (nat_lt low (suc k)) (test (suc k)) q).0 in absurd (omega (arith, l, le))
    nothing false q le e r = r

    go : (x < suc k) ⊎ (suc k ≤ x) → ((x ≤ k) ⊎ (x ≡ low) → greatest test low k ≡ x) → (if nat_lt low (suc k) && test (suc k) then suc k else greatest test low k) ≡ x
    go (inl lt) before = lower (nat_lt low (suc k) && test (suc k)) refl lt (before (inl (omega (arith, lt))))
    go (inr le) before = elim within [
      | inl w ↦ elim (cases_lt low x) [
        | inl lt ↦ here (nat_lt low (suc k) && test (suc k)) refl (omega (arith, le, w)) lt
        | inr low_le ↦ nothing (nat_lt low (suc k) && test (suc k)) refl (omega (arith, le, low_le)) (omega (arith, above, low_le)) (before (inr (omega (arith, above, low_le))))
      ]
      | inr e ↦ nothing (nat_lt low (suc k) && test (suc k)) refl (omega (arith, le, e)) e (before (inr e))
    ]

-- ---- Of the numbers that pass a test, one of least measure

pub record IsLeast (test : ℕ → Bool) (high : ℕ → ℕ) (n : ℕ) : Type 0 where
  pub at : ℕ
  pub below : at < n
  pub passes : test at ≡ true
  pub least : (k : ℕ) → k < n → test k ≡ true → high at ≤ high k

some-count : (test : ℕ → Bool) (m k : ℕ) → k < m → test k ≡ true → 1 ≤ count_below test m
some-count test zero k lt t = absurd (omega (arith, lt))
some-count test (suc m) k lt t = elim (cases_lt k m) [
  | inl l ↦ let r = some-count test m k l t in omega (arith, r)
  | inr le ↦
      let e : k ≡ m = omega (arith, lt, le) in
      let q : ◌≡◌ {A = ℕ} (cond (test m) 1 0) 1 = ap (λ (b : Bool). cond b 1 0) (subst (λ (z : ℕ). test z ≡ true) e t) in
      omega (arith, q)
]

pub least-of : (test : ℕ → Bool) (high : ℕ → ℕ) (n : ℕ) → 0 < count_below test n → IsLeast test high n
least-of test high zero h = absurd (omega (arith, h))
least-of test high (suc n) h = go (test n) refl (cases_lt 0 (count_below test n)) (least-of test high n) h
  where
    alone : count_below test n ≤ 0 → (k : ℕ) → k < n → test k ≡ true → ⊥
    alone none k lt t = let c = some-count test n k lt t in omega (arith, c, none)

    below : (k : ℕ) → k < suc n → (k < n) ⊎ (k ≡ n)
    below k lt = elim (cases_lt k n) [ inl l ↦ inl l | inr le ↦ inr (omega (arith, lt, le)) ]

    pick : test n ≡ true → IsLeast test high n → (high n < high n) ⊎ (high n ≤ high n) → IsLeast test high (suc n)
    pick t r w = choose (cases_lt (high n) (high r.at))
      where
        choose : (high n < high r.at) ⊎ (high r.at ≤ high n) → IsLeast test high (suc n)
        choose (inl lt) = record { at = n; below = omega arith; passes = t; least = λ k l q. elim (below k l) [ inl b ↦ let m = r.least k b q in omega (arith, m, lt) | inr e ↦ let m = ap high e in omega (arith, m) ] }
        choose (inr le) = record { at = r.at; below = let b = r.below in omega (arith, b); passes = r.passes; least = λ k l q. elim (below k l) [ inl b ↦ r.least k b q | inr e ↦ let m = ap high e in omega (arith, m, le) ] }

    go : (b : Bool) → test n ≡ b → (0 < count_below test n) ⊎ (count_below test n ≤ 0) → (0 < count_below test n → IsLeast test high n) → 0 < cond b 1 0 + count_below test n → IsLeast test high (suc n)
    go true t (inl some) r h = pick t (r some) (inr (omega arith))
    go true t (inr none) r h = record { at = n; below = omega arith; passes = t; least = λ k l q. elim (below k l) [ inl b ↦ absurd (alone none k b q) | inr e ↦ let m = ap high e in omega (arith, m) ] }
    go false t w r h =
        let old = r (omega (arith, h)) in
        record { at = old.at; below = let b = old.below in omega (arith, b); passes = old.passes; least = λ k l q. elim (below k l) [ inl b ↦ old.least k b q | inr e ↦ absurd (true≢false (sym q ∙ ap test e ∙ t)) ] }

-- ---- The greatest index of the log that a quorum holds

module _ (p : Params) (me : ℕ) (s : State) where
  abbrev last : ℕ
  last = length s.log

  abbrev at : ℕ → ℕ
  at = far me s

  abbrev Held : ℕ → Type 0
  Held = IsHeld p me s

  -- the greatest index among the first nodes
  pub record IsMostOf (nodes most : ℕ) : Type 0 where
    pub within : most ≤ last
    pub held_so : 1 ≤ most → Held most
    pub greatest : (k : ℕ) → k < nodes → Held (at k) → at k ≤ most

  holds-lower : (i j k : ℕ) → j ≤ i → holds me s i k ≡ true → holds me s j k ≡ true
  holds-lower i j k le h = elim (or_cases (k == me) (nat_le i (s.matched k)) h) [
    | inl q ↦ rw q refl
    | inr q ↦ let l = leb-true i (s.matched k) q in or_right_true (k == me) (nat_le j (s.matched k)) (le-leb j (s.matched k) (omega (arith, l, le)))
  ]

  pub held-lower : (i j : ℕ) → j ≤ i → Held i → Held j
  held-lower i j le h = let m = count-mono (holds me s i) (holds me s j) p.setup.n (λ k _ q. holds-lower i j k le q) in omega (arith, m, h)

  holds-far : (i k : ℕ) → i ≤ last → holds me s i k ≡ true → i ≤ at k
  holds-far i k le h = go (k == me) h
    where
      go : (b : Bool) → (b || nat_le i (s.matched k)) ≡ true → i ≤ (if b then last else min (s.matched k) last)
      go true h = le
      go false h = let l = leb-true i (s.matched k) h in omega (arith, l, le)

  far-holds : (i k : ℕ) → i ≤ at k → holds me s i k ≡ true
  far-holds i k le = go (k == me) le
    where
      go : (b : Bool) → i ≤ (if b then last else min (s.matched k) last) → (b || nat_le i (s.matched k)) ≡ true
      go true le = refl
      go false le = le-leb i (s.matched k) (omega (arith, le))

  pub most-of-all : 1 ≤ p.setup.quorum → (most : ℕ) → IsMostOf p.setup.n most → IsMost p me s most
  most-of-all some most h = record { within = h.within; held_so = h.held_so; greatest = reached }
    where
      reached : (i : ℕ) → i ≤ last → Held i → i ≤ most
      reached i le held =
          let r = least-of (holds me s i) at p.setup.n (omega (arith, some, held)) in
          let counted = count-mono (holds me s i) (holds me s (at r.at)) p.setup.n (λ k lt q. far-holds (at r.at) k (r.least k lt q)) in
          let more = h.greatest r.at r.below (omega (arith, counted, held)) in
          let low = holds-far i r.at le r.passes in
          omega (arith, more, low)

  -- ---- The greatest of the leader's term

  pub reaches : (most index : ℕ) → IsMost p me s most → index ≤ most → (s.commit < index → term_at s.log index ≡ s.term) →
      ((i : ℕ) → index < i → i ≤ most → s.commit < i → term_at s.log i ≡ s.term → ⊥) →
      max index s.commit ≡ greatest (may_commit p me s) s.commit (length s.log)
  reaches most index m le own others = sym (greatest-of (may_commit p me s) s.commit last (max index s.commit) (omega arith) (place (cases_lt s.commit index)) passes more)
    where
      place : (s.commit < index) ⊎ (index ≤ s.commit) → (max index s.commit ≤ last) ⊎ (max index s.commit ≡ s.commit)
      place (inl lt) = let w = m.within in inl (omega (arith, w, le, lt))
      place (inr low) = inr (omega (arith, low))

      passes : s.commit < max index s.commit → may_commit p me s (max index s.commit) ≡ true
      passes lt =
          let above : s.commit < index = omega (arith, lt) in
          let is : max index s.commit ≡ index = omega (arith, above) in
          let same : (term_at s.log index == s.term) ≡ true = subst (λ (z : ℕ). (z == s.term) ≡ true) (sym (own above)) (equal s.term) in
          let held = held-lower most index le (m.held_so (omega (arith, above, le))) in
          subst (λ (z : ℕ). may_commit p me s z ≡ true) (sym is)
          (both (term_at s.log index == s.term) (nat_le p.setup.quorum (count_below (holds me s index) p.setup.n)) same (le-leb p.setup.quorum (count_below (holds me s index) p.setup.n) held))
        where
          equal : (n : ℕ) → (n == n) ≡ true
          equal n = grind arith

      more : (i : ℕ) → max index s.commit < i → i ≤ last → may_commit p me s i ≡ true → ⊥
      more i above within t =
          let a = and_parts (term_at s.log i == s.term) (nat_le p.setup.quorum (count_below (holds me s i) p.setup.n)) t in
          let held = m.greatest i within (leb-true p.setup.quorum (count_below (holds me s i) p.setup.n) a.1) in
          others i (omega (arith, above)) held (omega (arith, above)) (eqb-true (term_at s.log i) s.term a.0)

  -- the loop from the greatest index that a quorum holds downwards
  abbrev IsDown : ℕ → ℕ → ℕ → Type 0
  IsDown most commit index = (index ≤ most) × ((i : ℕ) → index < i → i ≤ most → commit < i → term_at s.log i ≡ s.term → ⊥)

  pub reached-at : (most commit index : ℕ) → IsMost p me s most → commit ≡ s.commit → commit < index → term_at s.log index ≡ s.term → IsDown most commit index →
      index ≡ greatest (may_commit p me s) s.commit (length s.log)
  reached-at most commit index m is lt own d =
      let high : index ≡ max index s.commit = omega (arith, is, lt) in
      high ∙ reaches most index m d.0 (λ _. own) (λ i a w b. d.1 i a w (omega (arith, is, b)))

  pub reached-none : (most commit index : ℕ) → IsMost p me s most → commit ≡ s.commit → index ≤ commit → IsDown most commit index → commit ≡ greatest (may_commit p me s) s.commit (length s.log)
  reached-none most commit index m is le d =
      let high : commit ≡ max index s.commit = omega (arith, is, le) in
      high ∙ reaches most index m d.0 (λ lt. absurd (omega (arith, is, le, lt))) (λ i a w b. d.1 i a w (omega (arith, is, b)))
