-- What a verdict means for a batch, when the judge accepts it, and what it implies for two batches of one list.
use Rattle.std.proofs.Common.{◌≡◌, ◌≢◌, inl, inr, ℕ, suc, ◌≤◌, Bool, true, false, cond, eqb, not, List, [], ◌∷◌, ◌++◌, length, Option, Some, None, refl, sym, ap, ◌∙◌, arith, true≢false}
use Rattle.std.specs.Prelude.{nat_lt}
use Rattle.std.proofs.lemmas.Bool.Decides.{leb_tells}
use Rattle.iss_base.specs.Lists.{In, Different}
use Rattle.iss_base.proofs.Lists.{eqb-same, in_left, in_right, is-eq, neither, not-false, or-false}
use Rattle.iss_request.specs.Log.{has_id, ids, log_ids}
use Rattle.iss_request.specs.declared.ids.ReqId.{ReqId}
use Rattle.iss_request.specs.declared.ids.Slot.{Slot}
use Rattle.iss_request.specs.declared.requests.Batch.{Batch}
use Rattle.iss_request.specs.declared.requests.Request.{Request}
use Rattle.iss_request.specs.declared.requests.Value.{Value}
use Rattle.iss_rules.specs.declared.events.Refusal.{Refusal}
use Rattle.iss_rules.specs.Judge.{IsValid, any, any_marked, judge, marks}
use Rattle.iss_rules.specs.Rules.{Rules}
use Rattle.iss_rules.proofs.Ids.{has-not, ids-in, not-has}

-- each entry of an accept list was accepted given the marks of the older ones
abbrev pub Judged : Rules → List Value → ℕ → ℕ → List (Slot × Batch) → Type 0
Judged R before e l [] = Unit {0}
Judged R before e l (x ∷ xs) = Judged R before e l xs × (judge R before e l (marks xs) x.1 ≡ None)

any-none : {A : Type 0} (p : A → Bool) (xs : List A) → any p xs ≡ false → (x : A) → In x xs → p x ≡ false
any-none p [] h x i = absurd i
any-none p (y ∷ ys) h x (inl e) = rw e (or-false (p y) (any p ys) h).0
any-none p (y ∷ ys) h x (inr i) = any-none p ys (or-false (p y) (any p ys) h).1 x i

none-any : {A : Type 0} (p : A → Bool) (xs : List A) → ((x : A) → In x xs → p x ≡ false) → any p xs ≡ false
none-any p [] h = refl
none-any p (y ∷ ys) h = neither (p y) (any p ys) (h y (inl refl)) (none-any p ys (λ x i. h x (inr i)))

-- the identities are unmarked and distinct
unmarked-are : (marked xs : List ReqId) → any_marked marked xs ≡ false → ((x : ReqId) → In x xs → In x marked → ⊥) × Different xs
unmarked-are marked [] h = (λ x i. absurd i, tt)
unmarked-are marked (y ∷ ys) h =
    let k = or-false (has_id y marked) (any_marked (y ∷ marked) ys) h in
    let ih = unmarked-are (y ∷ marked) ys k.1 in
    (λ x. elim [ inl e ↦ rw e (not-has y marked k.0) | inr i ↦ λ j. ih.0 x i (inr j) ], (λ i. ih.0 y i (inl refl), ih.1))

are-unmarked : (marked xs : List ReqId) → ((x : ReqId) → In x xs → In x marked → ⊥) → Different xs → any_marked marked xs ≡ false
are-unmarked marked [] apart d = refl
are-unmarked marked (y ∷ ys) apart d = neither (has_id y marked) (any_marked (y ∷ marked) ys) (has-not y marked (apart y (inl refl)))
    (are-unmarked (y ∷ marked) ys (λ x i. elim [ inl e ↦ d.0 (rw (← e) i) | inr j ↦ apart x (inr i) j ]) d.1)

-- what each check of the judge means
pub record Accepted (R : Rules) (before : List Value) (e l : ℕ) (marked : List ReqId) (batch : Batch) : Type 0 where
  pub few : length batch ≤ R.batch
  pub owner : (q : Request) → In q batch → R.owner before e q.id ≡ l
  pub signed : (q : Request) → In q batch → R.signed q ≡ true
  pub inside : (q : Request) → In q batch → R.inside before e q.id ≡ true
  pub unordered : (q : Request) → In q batch → In q.id (log_ids before) → ⊥
  pub unmarked : (x : ReqId) → In x (ids batch) → In x marked → ⊥
  pub different : Different (ids batch)

-- no refusal means that each check passed
passed : (b : Bool) (x : Refusal) (more : Option Refusal) → cond b (Some x) more ≡ None → (b ≡ false) × (more ≡ None)
passed true x more h = absurd (cc)
passed false x more h = (refl, h)

pass : (b : Bool) (x : Refusal) (more : Option Refusal) → b ≡ false → more ≡ None → cond b (Some x) more ≡ None
pass true x more h k = absurd (true≢false h)
pass false x more h k = k

not-not : (b : Bool) → b ≡ true → not b ≡ false
not-not true h = refl
not-not false h = absurd (true≢false (sym h))

module _ (R : Rules) (before : List Value) (e l : ℕ) (marked : List ReqId) (batch : Batch) where
  abbrev foreign : Request → Bool
  foreign q = not (eqb (R.owner before e q.id) l)

  abbrev unsigned : Request → Bool
  unsigned q = not (R.signed q)

  abbrev outside : Request → Bool
  outside q = not (R.inside before e q.id)

  abbrev old : Request → Bool
  old q = has_id q.id (log_ids before)

  under : nat_lt R.batch (length batch) ≡ false → length batch ≤ R.batch
  under h = elim (leb_tells (suc R.batch) (length batch)) [ inl t ↦ absurd (true≢false (sym t.0 ∙ h)) | inr t ↦ omega (arith, t.1) ]

  pub accepted : judge R before e l marked batch ≡ None → Accepted R before e l marked batch
  accepted h =
      let a = passed _ _ _ h in
      let b = passed _ _ _ a.1 in
      let c = passed _ _ _ b.1 in
      let d = passed _ _ _ c.1 in
      let f = passed _ _ _ d.1 in
      let g = passed _ _ _ f.1 in
      let m = unmarked-are marked (ids batch) g.0 in
      record {
        few = under a.0;
        owner = λ q i. is-eq (R.owner before e q.id) l (not-false (eqb (R.owner before e q.id) l) (any-none foreign batch b.0 q i));
        signed = λ q i. not-false (R.signed q) (any-none unsigned batch c.0 q i);
        inside = λ q i. not-false (R.inside before e q.id) (any-none outside batch d.0 q i);
        unordered = λ q i. not-has q.id (log_ids before) (any-none old batch f.0 q i);
        unmarked = m.0;
        different = m.1;
      }

  -- a batch that passes each check is accepted
  pub accepts-it : Accepted R before e l marked batch → judge R before e l marked batch ≡ None
  accepts-it a =
      pass _ _ _ (elim (leb_tells (suc R.batch) (length batch)) [ inl t ↦ absurd (omega (arith, t.1, a.few)) | inr t ↦ t.0 ])
      (pass _ _ _ (none-any foreign batch (λ q i. not-not (eqb (R.owner before e q.id) l) (rw (a.owner q i) (eqb-same l))))
      (pass _ _ _ (none-any unsigned batch (λ q i. not-not (R.signed q) (a.signed q i)))
      (pass _ _ _ (none-any outside batch (λ q i. not-not (R.inside before e q.id) (a.inside q i)))
      (pass _ _ _ (none-any old batch (λ q i. has-not q.id (log_ids before) (a.unordered q i)))
      (pass _ _ _ (are-unmarked marked (ids batch) a.unmarked a.different) refl)))))

pub valid-of : (R : Rules) (before : List Value) (e l : ℕ) (marked : List ReqId) (batch : Batch) → Accepted R before e l marked batch → (q : Request) →
    In q batch → IsValid R before e q
valid-of R before e l marked batch a q i = record { signed = a.signed q i; inside = a.inside q i; unordered = a.unordered q i }

pub owner-of : (R : Rules) (before : List Value) (e l : ℕ) (marked : List ReqId) (batch : Batch) → Accepted R before e l marked batch → (x : ReqId) →
    In x (ids batch) → R.owner before e x ≡ l
owner-of R before e l marked batch a x i = let r = ids-in x batch i in rw r.2 (a.owner r.0 r.1)

pub unordered-of : (R : Rules) (before : List Value) (e l : ℕ) (marked : List ReqId) (batch : Batch) → Accepted R before e l marked batch → (x : ReqId) →
    In x (ids batch) → In x (log_ids before) → ⊥
unordered-of R before e l marked batch a x i = let r = ids-in x batch i in rw r.2 (a.unordered r.0 r.1)

-- given the marks of the older entries
pub entry-judged : (R : Rules) (before : List Value) (e l : ℕ) (xs : List (Slot × Batch)) → Judged R before e l xs → (x : Slot × Batch) → In x xs →
    (newer : List (Slot × Batch)) × (older : List (Slot × Batch)) × (xs ≡ newer ++ (x ∷ older)) × (judge R before e l (marks older) x.1 ≡ None)
entry-judged R before e l [] j x i = absurd i
entry-judged R before e l (y ∷ ys) j x (inl q) = ([], ys, ap (λ (z : Slot × Batch). z ∷ ys) (sym q), rw q j.1)
entry-judged R before e l (y ∷ ys) j x (inr i) = let r = entry-judged R before e l ys j.0 x i in
    (y ∷ r.0, r.1, ap (λ (zs : List (Slot × Batch)). y ∷ zs) r.2, r.3)

in-marks : (z : ReqId) (x : Slot × Batch) (xs : List (Slot × Batch)) → In x xs → In z (ids x.1) → In z (marks xs)
in-marks z x [] i h = absurd i
in-marks z x (y ∷ ys) (inl q) h = in_left z (ids y.1) (marks ys) (rw (← q) h)
in-marks z x (y ∷ ys) (inr i) h = in_right z (ids y.1) (marks ys) (in-marks z x ys i h)

-- an identity is at one slot of a judged list
pub one-slot : (R : Rules) (before : List Value) (e l : ℕ) (xs : List (Slot × Batch)) → Judged R before e l xs → (x y : Slot × Batch) → In x xs → In y xs →
    x.0.0 ≢ y.0.0 → (z : ReqId) → In z (ids x.1) → In z (ids y.1) → ⊥
one-slot R before e l [] j x y ix iy ne z zx zy = absurd ix
one-slot R before e l (h ∷ hs) j x y (inl p) (inl q) ne z zx zy = ne (ap (λ (t : Slot × Batch). t.0.0) (p ∙ sym q))
one-slot R before e l (h ∷ hs) j x y (inl p) (inr i) ne z zx zy = (accepted R before e l (marks hs) h.1 j.1).unmarked z (rw p at zx) (in-marks z y hs i zy)
one-slot R before e l (h ∷ hs) j x y (inr i) (inl q) ne z zx zy = (accepted R before e l (marks hs) h.1 j.1).unmarked z (rw q at zy) (in-marks z x hs i zx)
one-slot R before e l (h ∷ hs) j x y (inr i) (inr k) ne z zx zy = one-slot R before e l hs j.0 x y i k ne z zx zy
