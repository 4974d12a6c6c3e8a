-- Lists of requests that wait, are in flight, or return: no part of a step loses or duplicates one.
use Rattle.std.proofs.Common.{◌≡◌, ◌⊎◌, inl, inr, ℕ, suc, zero, ◌≤◌, ◌<◌, Bool, true, false, cond, eqb, if◌then◌else◌, nat_lt, not, List, [], ◌∷◌, ◌++◌, length, refl, sym, ap, ◌∙◌, subst, arith, true≢false}
use Rattle.std.proofs.lemmas.Bool.Decides.{leb_tells}
use Rattle.iss_base.specs.Lists.{Different, Extends, In}
use Rattle.iss_base.proofs.Lists.{different-append, different-apart, different-left, different-right, eqb-same, extends-cons, extends-refl, in_append, in_left, in_right, is-eq}
use Rattle.iss_buckets.specs.Waiting.{absent, cut, uncut}
use Rattle.iss_request.specs.Formats.{is_batch}
use Rattle.iss_request.specs.Log.{has_id, ids, log_ids}
use Rattle.iss_request.specs.declared.ids.ReqId.{ReqId}
use Rattle.iss_request.specs.declared.ids.Slot.{Slot}
use Rattle.iss_request.specs.declared.requests.Batch.{Batch}
use Rattle.iss_request.specs.declared.requests.Request.{Request}
use Rattle.iss_request.specs.declared.requests.Value.{Value}
use Rattle.iss_request.specs.declared.requests.Value.TheVariants.{Nil as Value_nil, Batch as Value_batch}
use Rattle.iss_model.specs.Node.{flown, flying, is_nil_at, joined, returned}
use Rattle.iss_model.proofs.Casts.{joined-newer}
use Rattle.iss_model.proofs.Flights.{nil-below}
use Rattle.iss_rules.proofs.Ids.{ids-append, ids-left, ids-once, ids-right, in-has, log_ids-extends}
use Rattle.iss_layout.proofs.PastLemmas.{nil-kept}

-- absent: each request is removed or left

pub absent-or : (gone : List ReqId) (qs : List Request) (x : ReqId) → In x (ids qs) → In x gone ⊎ In x (ids (absent gone qs))
absent-or gone [] x h = absurd h
absent-or gone (q ∷ qs) x h = go (absent-or gone qs x) (has_id q.id gone) refl h
  where
    go : (In x (ids qs) → In x gone ⊎ In x (ids (absent gone qs))) → (b : Bool) → has_id q.id gone ≡ b → In x (ids (q ∷ qs)) →
        In x gone ⊎ In x (ids (cond b (absent gone qs) (q ∷ absent gone qs)))
    go ih true e (inl y) = inl (in-has x gone (ap (λ (z : ReqId). has_id z gone) y ∙ e))
    go ih true e (inr k) = ih k
    go ih false e (inl y) = inr (inl y)
    go ih false e (inr k) = elim (ih k) [ inl a ↦ inl a | inr a ↦ inr (inr a) ]

-- cut and uncut: each request is in one of them

pub cut-or : (n : ℕ) (mine : Request → Bool) (qs : List Request) (x : ReqId) → In x (ids qs) → In x (ids (cut n mine qs)) ⊎ In x (ids (uncut n mine qs))
cut-or n mine [] x h = absurd h
cut-or zero mine (q ∷ qs) x h = inr h
cut-or (suc n) mine (q ∷ qs) x h = go (cut-or n mine qs x) (cut-or (suc n) mine qs x) (mine q) h
  where
    go : (In x (ids qs) → In x (ids (cut n mine qs)) ⊎ In x (ids (uncut n mine qs))) →
        (In x (ids qs) → In x (ids (cut (suc n) mine qs)) ⊎ In x (ids (uncut (suc n) mine qs))) → (b : Bool) →
        In x (ids (q ∷ qs)) → In x (ids (cond b (q ∷ cut n mine qs) (cut (suc n) mine qs))) ⊎ In x (ids (cond b (uncut n mine qs) (q ∷ uncut (suc n) mine qs)))
    go ih1 ih2 true (inl e) = inl (inl e)
    go ih1 ih2 true (inr k) = elim (ih1 k) [ inl a ↦ inl (inr a) | inr a ↦ inr a ]
    go ih1 ih2 false (inl e) = inr (inl e)
    go ih1 ih2 false (inr k) = elim (ih2 k) [ inl a ↦ inl a | inr a ↦ inr (inr a) ]

-- the values by which a log has grown

joined-is : (old new : List Value) (e : Extends old new) → joined (length old) new ≡ e.0
joined-is old new e = ap (λ (t : List Value). joined (length old) t) e.1 ∙ joined-newer e.0 old

pub joined-in : (x : ReqId) (old new : List Value) → Extends old new → In x (log_ids (joined (length old) new)) → In x (log_ids new)
joined-in x old new e i =
    let j : In x (log_ids e.0) = subst (λ (t : List Value). In x (log_ids t)) (joined-is old new e) i in
    subst (λ (t : List Value). In x (log_ids t)) (sym e.1) (front e.0 j)
  where
    front : (newer : List Value) → In x (log_ids newer) → In x (log_ids (newer ++ old))
    front [] h = absurd h
    front (v ∷ newer) h =
        elim (in_append x _ (log_ids newer) h)
        [ inl a ↦ in_left x _ (log_ids (newer ++ old)) a | inr a ↦ in_right x _ (log_ids (newer ++ old)) (front newer a) ]

pub in-longer : (x : ReqId) (old new : List Value) → Extends old new → In x (log_ids old) → In x (log_ids new)
in-longer x old new e i = subst (λ (t : List Value). In x (log_ids t)) (sym e.1) (log_ids-extends x e.0 old i)

-- a value of a log stays in longer ones
pub nil-stays : (a b : List Value) (s : ℕ) → Extends a b → s < length a → is_nil_at b s ≡ is_nil_at a s
nil-stays a b s e lt = ap (λ (t : List Value). is_nil_at t s) e.1 ∙ nil-kept e.0 a s lt

-- a batch in a log, after the values of earlier slots
pub record Stood (log : List Value) (s : ℕ) : Type 0 where
  pub older : List Value
  pub batch : Batch
  pub part : Extends (Value_batch batch ∷ older) log
  pub slot : length older ≡ s

-- a slot of a log that is not nil holds a batch
pub not-nil : (log : List Value) (s : ℕ) → s < length log → is_nil_at log s ≡ false → Stood log s
not-nil [] s lt h = absurd (omega (arith, lt))
not-nil (v ∷ older) s lt h = go (not-nil older s) (eqb s (length older)) refl h
  where
    here : (u : Value) → s ≡ length older → not (is_batch u) ≡ false → Stood (u ∷ older) s
    here Value_nil q k = absurd (true≢false k)
    here (Value_batch b) q k = record { older = older; batch = b; part = extends-refl _; slot = sym q }

    differs : eqb s (length older) ≡ false → s < length older
    differs q = elim (leb_tells (suc s) (length older)) [
      | inl t ↦ t.1
      | inr t ↦ let e : length older ≡ s = omega (arith, t.1, lt) in absurd (true≢false (sym (ap (λ (n : ℕ). eqb s n) e ∙ eqb-same s) ∙ q))
    ]

    go : (s < length older → is_nil_at older s ≡ false → Stood older s) → (b : Bool) → eqb s (length older) ≡ b →
        (if b then not (is_batch v) else is_nil_at older s) ≡ false → Stood (v ∷ older) s
    go ih true q k = here v (is-eq s (length older) q) k
    go ih false q k = let f : Stood older s = ih (differs q) k in record { older = f.older; batch = f.batch; part = extends-cons _ _ v f.part; slot = f.slot }

-- what stays in flight

pub in-flying : (n : ℕ) (fs : List (Slot × Batch)) (f : Slot × Batch) → In f (flying n fs) → In f fs × (n ≤ f.0.0)
in-flying n [] f h = absurd h
in-flying n (x ∷ fs) f h = go (in-flying n fs f) (leb_tells (suc x.0.0) n) h
  where
    go : (In f (flying n fs) → In f fs × (n ≤ f.0.0)) → ((nat_lt x.0.0 n ≡ true) × (suc x.0.0 ≤ n)) ⊎ ((nat_lt x.0.0 n ≡ false) × (n < suc x.0.0)) →
        In f (flying n (x ∷ fs)) → In f (x ∷ fs) × (n ≤ f.0.0)
    go ih (inl t) k = let k2 : In f (flying n fs) = rw t.0 at k in let r = ih k2 in (inr r.0, r.1)
    go ih (inr t) k = let k2 : In f (x ∷ flying n fs) = rw t.0 at k in
        elim k2 [ inl q ↦ (inl q, rw q (omega (arith, t.1))) | inr y ↦ let r = ih y in (inr r.0, r.1) ]

pub flown-flying : (n : ℕ) (fs : List (Slot × Batch)) (x : ReqId) → In x (flown (flying n fs)) → In x (flown fs)
flown-flying n [] x h = absurd h
flown-flying n (f ∷ fs) x h = go (flown-flying n fs x) (nat_lt f.0.0 n) h
  where
    go : (In x (flown (flying n fs)) → In x (flown fs)) → (b : Bool) → In x (flown (cond b (flying n fs) (f ∷ flying n fs))) → In x (ids f.1 ++ flown fs)
    go ih true k = in_right x (ids f.1) (flown fs) (ih k)
    go ih false k =
        elim (in_append x (ids f.1) (flown (flying n fs)) k) [ inl a ↦ in_left x (ids f.1) (flown fs) a | inr a ↦ in_right x (ids f.1) (flown fs) (ih a) ]

pub flying-once : (n : ℕ) (fs : List (Slot × Batch)) → Different (flown fs) → Different (flown (flying n fs))
flying-once n [] d = tt
flying-once n (f ∷ fs) d = go (flying-once n fs (different-right (ids f.1) (flown fs) d)) (nat_lt f.0.0 n)
  where
    go : Different (flown (flying n fs)) → (b : Bool) → Different (flown (cond b (flying n fs) (f ∷ flying n fs)))
    go ih true = ih
    go ih false = different-append (ids f.1) (flown (flying n fs)) (different-left (ids f.1) (flown fs) d) ih
        (λ x a b. different-apart (ids f.1) (flown fs) d x a (flown-flying n fs x b))

-- one more in flight
pub flown-append : (x : ReqId) (fs gs : List (Slot × Batch)) → In x (flown (fs ++ gs)) → In x (flown fs) ⊎ In x (flown gs)
flown-append x [] gs h = inr h
flown-append x (f ∷ fs) gs h = elim (in_append x (ids f.1) (flown (fs ++ gs)) h) [
  | inl a ↦ inl (in_left x (ids f.1) (flown fs) a)
  | inr a ↦ elim (flown-append x fs gs a) [ inl y ↦ inl (in_right x (ids f.1) (flown fs) y) | inr y ↦ inr y ]
]

pub flown-left : (x : ReqId) (fs gs : List (Slot × Batch)) → In x (flown fs) → In x (flown (fs ++ gs))
flown-left x [] gs h = absurd h
flown-left x (f ∷ fs) gs h =
    elim (in_append x (ids f.1) (flown fs) h)
    [ inl a ↦ in_left x (ids f.1) (flown (fs ++ gs)) a | inr a ↦ in_right x (ids f.1) (flown (fs ++ gs)) (flown-left x fs gs a) ]

pub flown-right : (x : ReqId) (fs gs : List (Slot × Batch)) → In x (flown gs) → In x (flown (fs ++ gs))
flown-right x [] gs h = h
flown-right x (f ∷ fs) gs h = in_right x (ids f.1) (flown (fs ++ gs)) (flown-right x fs gs h)

pub flown-once : (fs gs : List (Slot × Batch)) → Different (flown fs) → Different (flown gs) → ((x : ReqId) → In x (flown fs) → In x (flown gs) → ⊥) →
    Different (flown (fs ++ gs))
flown-once [] gs a b h = b
flown-once (f ∷ fs) gs a b h =
    different-append (ids f.1) (flown (fs ++ gs)) (different-left (ids f.1) (flown fs) a)
    (flown-once fs gs (different-right (ids f.1) (flown fs) a) b (λ x y z. h x (in_right x (ids f.1) (flown fs) y) z))
    (λ x y z. elim (flown-append x fs gs z) [ inl k ↦ different-apart (ids f.1) (flown fs) a x y k | inr k ↦ h x (in_left x (ids f.1) (flown fs) y) k ])

pub flown-entry : (fs : List (Slot × Batch)) (x : ReqId) → In x (flown fs) → (f : Slot × Batch) × In f fs × In x (ids f.1)
flown-entry [] x h = absurd h
flown-entry (f ∷ fs) x h = elim (in_append x (ids f.1) (flown fs) h) [ inl a ↦ (f, inl refl, a) | inr a ↦ let r = flown-entry fs x a in (r.0, inr r.1, r.2) ]

-- what returns

pub in-returned : (log : List Value) (fs : List (Slot × Batch)) (x : ReqId) → In x (ids (returned log fs)) → In x (flown fs)
in-returned log [] x h = absurd h
in-returned log (f ∷ fs) x h = go (in-returned log fs x) (is_nil_at log f.0.0) h
  where
    go : (In x (ids (returned log fs)) → In x (flown fs)) → (b : Bool) → In x (ids (cond b (f.1 ++ returned log fs) (returned log fs))) →
        In x (ids f.1 ++ flown fs)
    go ih true k = elim (ids-append x f.1 (returned log fs) k) [ inl a ↦ in_left x (ids f.1) (flown fs) a | inr a ↦ in_right x (ids f.1) (flown fs) (ih a) ]
    go ih false k = in_right x (ids f.1) (flown fs) (ih k)

pub returned-once : (log : List Value) (fs : List (Slot × Batch)) → Different (flown fs) → Different (ids (returned log fs))
returned-once log [] d = tt
returned-once log (f ∷ fs) d = go (returned-once log fs (different-right (ids f.1) (flown fs) d)) (is_nil_at log f.0.0)
  where
    go : Different (ids (returned log fs)) → (b : Bool) → Different (ids (cond b (f.1 ++ returned log fs) (returned log fs)))
    go ih true = ids-once f.1 (returned log fs) (different-left (ids f.1) (flown fs) d) ih
        (λ x a b. different-apart (ids f.1) (flown fs) d x a (in-returned log fs x b))
    go ih false = ih

-- nothing that returns is still in flight
pub returned-apart : (log : List Value) (fs : List (Slot × Batch)) → Different (flown fs) → (x : ReqId) → In x (ids (returned log fs)) →
    In x (flown (flying (length log) fs)) → ⊥
returned-apart log [] d x a b = a
returned-apart log (f ∷ fs) d x a b =
    go (returned-apart log fs (different-right (ids f.1) (flown fs) d) x) (is_nil_at log f.0.0) refl (leb_tells (suc f.0.0) (length log)) a b
  where
    go : (In x (ids (returned log fs)) → In x (flown (flying (length log) fs)) → ⊥) → (t : Bool) → is_nil_at log f.0.0 ≡ t →
        ((nat_lt f.0.0 (length log) ≡ true) × (suc f.0.0 ≤ length log)) ⊎ ((nat_lt f.0.0 (length log) ≡ false) × (length log < suc f.0.0)) →
        In x (ids (cond t (f.1 ++ returned log fs) (returned log fs))) → In x (flown (flying (length log) (f ∷ fs))) → ⊥
    go ih true q (inr t) k m = let lt : f.0.0 < length log = nil-below log f.0.0 q in absurd (omega (arith, lt, t.1))
    go ih true q (inl t) k m =
        let m2 : In x (flown (flying (length log) fs)) = rw t.0 at m in
        elim (ids-append x f.1 (returned log fs) k) [
          | inl y ↦ different-apart (ids f.1) (flown fs) d x y (flown-flying (length log) fs x m2)
          | inr y ↦ ih y m2
        ]
    go ih false q (inl t) k m = let m2 : In x (flown (flying (length log) fs)) = rw t.0 at m in ih k m2
    go ih false q (inr t) k m =
        let m2 : In x (ids f.1 ++ flown (flying (length log) fs)) = rw t.0 at m in
        elim (in_append x (ids f.1) (flown (flying (length log) fs)) m2) [
          | inl y ↦ different-apart (ids f.1) (flown fs) d x y (in-returned log fs x k)
          | inr y ↦ ih k y
        ]

-- an identity whose batch was proposed at a slot that is not nil
pub record Landed (log : List Value) (fs : List (Slot × Batch)) (x : ReqId) : Type 0 where
  pub entry : Slot × Batch
  pub flew : In entry fs
  pub within : In x (ids entry.1)
  pub low : entry.0.0 < length log
  pub is : is_nil_at log entry.0.0 ≡ false

-- what was in flight returns, is still in flight, or is in the log
pub flight-splits : (log : List Value) (fs : List (Slot × Batch)) (x : ReqId) → In x (flown fs) →
    In x (ids (returned log fs)) ⊎ (In x (flown (flying (length log) fs)) ⊎ Landed log fs x)
flight-splits log [] x h = absurd h
flight-splits log (f ∷ fs) x h =
    go (flight-splits log fs x) (is_nil_at log f.0.0) refl (leb_tells (suc f.0.0) (length log)) (in_append x (ids f.1) (flown fs) h)
  where
    on : Landed log fs x → Landed log (f ∷ fs) x
    on k = record { entry = k.entry; flew = inr k.flew; within = k.within; low = k.low; is = k.is }

    go : (In x (flown fs) → In x (ids (returned log fs)) ⊎ (In x (flown (flying (length log) fs)) ⊎ Landed log fs x)) → (t : Bool) → is_nil_at log f.0.0 ≡ t →
        ((nat_lt f.0.0 (length log) ≡ true) × (suc f.0.0 ≤ length log)) ⊎ ((nat_lt f.0.0 (length log) ≡ false) × (length log < suc f.0.0)) →
        In x (ids f.1) ⊎ In x (flown fs) →
        In x (ids (cond t (f.1 ++ returned log fs) (returned log fs))) ⊎ (In x (flown (flying (length log) (f ∷ fs))) ⊎ Landed log (f ∷ fs) x)
    go ih true q u (inl a) = inl (ids-left x f.1 (returned log fs) a)
    go ih true q (inl t) (inr a) =
        rw t.0 (elim (ih a) [ inl y ↦ inl (ids-right x f.1 (returned log fs) y) | inr y ↦ elim y [ inl z ↦ inr (inl z) | inr z ↦ inr (inr (on z)) ] ])
    go ih true q (inr t) (inr a) = let lt : f.0.0 < length log = nil-below log f.0.0 q in absurd (omega (arith, lt, t.1))
    go ih false q (inl t) (inl a) = inr (inr (record { entry = f; flew = inl refl; within = a; low = t.1; is = q }))
    go ih false q (inr t) (inl a) = rw t.0 (inr (inl (in_left x (ids f.1) (flown (flying (length log) fs)) a)))
    go ih false q (inl t) (inr a) = rw t.0 (elim (ih a) [ inl y ↦ inl y | inr y ↦ elim y [ inl z ↦ inr (inl z) | inr z ↦ inr (inr (on z)) ] ])
    go ih false q (inr t) (inr a) =
        rw t.0 (elim (ih a) [
          | inl y ↦ inl y
          | inr y ↦
              elim y [ inl z ↦ inr (inl (in_right x (ids f.1) (flown (flying (length log) fs)) z)) | inr z ↦ inr (inr (on z)) ]
        ])
