-- What a cut takes from the waiting requests, what it leaves, and what a log removes.
use Rattle.std.proofs.Common.{◌≡◌, inl, inr, ℕ, zero, suc, ◌≤◌, Bool, true, false, cond, List, [], ◌∷◌, length, refl, sym, ap, ◌∙◌, arith, true≢false}
use Rattle.iss_base.specs.Lists.{Different, In}
use Rattle.iss_request.specs.Log.{has_id, ids}
use Rattle.iss_request.specs.declared.ids.ReqId.{ReqId}
use Rattle.iss_request.specs.declared.requests.Request.{Request}
use Rattle.iss_buckets.specs.Waiting.{absent, cut, uncut}
use Rattle.iss_rules.proofs.Ids.{has-in, in-ids, ids-in}

-- absent: the requests whose identities are not among the removed ones

pub absent-in : (gone : List ReqId) (qs : List Request) (q : Request) → In q (absent gone qs) → In q qs × (In q.id gone → ⊥)
absent-in gone [] q h = absurd h
absent-in gone (r ∷ qs) q h = go (absent-in gone qs q) (has_id r.id gone) refl h
  where
    go : (In q (absent gone qs) → In q qs × (In q.id gone → ⊥)) → (b : Bool) → has_id r.id gone ≡ b → In q (cond b (absent gone qs) (r ∷ absent gone qs)) →
        In q (r ∷ qs) × (In q.id gone → ⊥)
    go ih true e k = let z = ih k in (inr z.0, z.1)
    go ih false e (inl y) = (inl y, λ z. true≢false (sym (has-in q.id gone z) ∙ (ap (λ (x : Request). has_id x.id gone) y ∙ e)))
    go ih false e (inr k) = let z = ih k in (inr z.0, z.1)

pub absent-ids : (gone : List ReqId) (qs : List Request) (x : ReqId) → In x (ids (absent gone qs)) → In x (ids qs) × (In x gone → ⊥)
absent-ids gone qs x h =
    let r = ids-in x (absent gone qs) h in
    let k = absent-in gone qs r.0 r.1 in
    rw r.2 (in-ids r.0 qs k.0, k.1)

pub absent-once : (gone : List ReqId) (qs : List Request) → Different (ids qs) → Different (ids (absent gone qs))
absent-once gone [] d = tt
absent-once gone (q ∷ qs) d = go (absent-once gone qs d.1) (has_id q.id gone)
  where
    go : Different (ids (absent gone qs)) → (b : Bool) → Different (ids (cond b (absent gone qs) (q ∷ absent gone qs)))
    go ih true = ih
    go ih false = (λ k. d.0 (absent-ids gone qs q.id k).0, ih)

-- cut: the first n that pass

pub cut-in : (n : ℕ) (mine : Request → Bool) (qs : List Request) (q : Request) → In q (cut n mine qs) → In q qs × (mine q ≡ true)
cut-in n mine [] q h = absurd h
cut-in zero mine (r ∷ qs) q h = absurd h
cut-in (suc n) mine (r ∷ qs) q h = go (cut-in n mine qs q) (cut-in (suc n) mine qs q) (mine r) refl h
  where
    go : (In q (cut n mine qs) → In q qs × (mine q ≡ true)) → (In q (cut (suc n) mine qs) → In q qs × (mine q ≡ true)) → (b : Bool) → mine r ≡ b →
        In q (cond b (r ∷ cut n mine qs) (cut (suc n) mine qs)) → In q (r ∷ qs) × (mine q ≡ true)
    go ih1 ih2 true e (inl y) = (inl y, rw y e)
    go ih1 ih2 true e (inr k) = let z = ih1 k in (inr z.0, z.1)
    go ih1 ih2 false e k = let z = ih2 k in (inr z.0, z.1)

pub cut-few : (n : ℕ) (mine : Request → Bool) (qs : List Request) → length (cut n mine qs) ≤ n
cut-few n mine [] = omega arith
cut-few zero mine (q ∷ qs) = omega arith
cut-few (suc n) mine (q ∷ qs) = go (cut-few n mine qs) (cut-few (suc n) mine qs) (mine q)
  where
    go : length (cut n mine qs) ≤ n → length (cut (suc n) mine qs) ≤ suc n → (b : Bool) → length (cond b (q ∷ cut n mine qs) (cut (suc n) mine qs)) ≤ suc n
    go ih1 ih2 true = omega (arith, ih1)
    go ih1 ih2 false = ih2

pub cut-ids : (n : ℕ) (mine : Request → Bool) (qs : List Request) (x : ReqId) → In x (ids (cut n mine qs)) → In x (ids qs)
cut-ids n mine qs x h =
    let r = ids-in x (cut n mine qs) h in
    rw r.2 (in-ids r.0 qs (cut-in n mine qs r.0 r.1).0)

pub cut-once : (n : ℕ) (mine : Request → Bool) (qs : List Request) → Different (ids qs) → Different (ids (cut n mine qs))
cut-once n mine [] d = tt
cut-once zero mine (q ∷ qs) d = tt
cut-once (suc n) mine (q ∷ qs) d = go (cut-once n mine qs d.1) (cut-once (suc n) mine qs d.1) (mine q)
  where
    go : Different (ids (cut n mine qs)) → Different (ids (cut (suc n) mine qs)) → (b : Bool) →
        Different (ids (cond b (q ∷ cut n mine qs) (cut (suc n) mine qs)))
    go ih1 ih2 true = (λ k. d.0 (cut-ids n mine qs q.id k), ih1)
    go ih1 ih2 false = ih2

-- uncut: the others

pub uncut-in : (n : ℕ) (mine : Request → Bool) (qs : List Request) (q : Request) → In q (uncut n mine qs) → In q qs
uncut-in n mine [] q h = absurd h
uncut-in zero mine (r ∷ qs) q h = h
uncut-in (suc n) mine (r ∷ qs) q h = go (uncut-in n mine qs q) (uncut-in (suc n) mine qs q) (mine r) h
  where
    go : (In q (uncut n mine qs) → In q qs) → (In q (uncut (suc n) mine qs) → In q qs) → (b : Bool) →
        In q (cond b (uncut n mine qs) (r ∷ uncut (suc n) mine qs)) → In q (r ∷ qs)
    go ih1 ih2 true k = inr (ih1 k)
    go ih1 ih2 false (inl y) = inl y
    go ih1 ih2 false (inr k) = inr (ih2 k)

pub uncut-ids : (n : ℕ) (mine : Request → Bool) (qs : List Request) (x : ReqId) → In x (ids (uncut n mine qs)) → In x (ids qs)
uncut-ids n mine qs x h =
    let r = ids-in x (uncut n mine qs) h in
    rw r.2 (in-ids r.0 qs (uncut-in n mine qs r.0 r.1))

pub uncut-once : (n : ℕ) (mine : Request → Bool) (qs : List Request) → Different (ids qs) → Different (ids (uncut n mine qs))
uncut-once n mine [] d = tt
uncut-once zero mine (q ∷ qs) d = d
uncut-once (suc n) mine (q ∷ qs) d = go (uncut-once n mine qs d.1) (uncut-once (suc n) mine qs d.1) (mine q)
  where
    go : Different (ids (uncut n mine qs)) → Different (ids (uncut (suc n) mine qs)) → (b : Bool) →
        Different (ids (cond b (uncut n mine qs) (q ∷ uncut (suc n) mine qs)))
    go ih1 ih2 true = ih1
    go ih1 ih2 false = (λ k. d.0 (uncut-ids (suc n) mine qs q.id k), ih2)

-- the two have no identity in common
pub cut-uncut-apart : (n : ℕ) (mine : Request → Bool) (qs : List Request) → Different (ids qs) → (x : ReqId) → In x (ids (cut n mine qs)) →
    In x (ids (uncut n mine qs)) → ⊥
cut-uncut-apart n mine [] d x a b = a
cut-uncut-apart zero mine (q ∷ qs) d x a b = a
cut-uncut-apart (suc n) mine (q ∷ qs) d x a b = go (cut-uncut-apart n mine qs d.1 x) (cut-uncut-apart (suc n) mine qs d.1 x) (mine q) a b
  where
    go : (In x (ids (cut n mine qs)) → In x (ids (uncut n mine qs)) → ⊥) → (In x (ids (cut (suc n) mine qs)) → In x (ids (uncut (suc n) mine qs)) → ⊥) →
        (t : Bool) →
        In x (ids (cond t (q ∷ cut n mine qs) (cut (suc n) mine qs))) → In x (ids (cond t (uncut n mine qs) (q ∷ uncut (suc n) mine qs))) → ⊥
    go ih1 ih2 true (inl e) k = d.0 (uncut-ids n mine qs q.id (rw (← e) k))
    go ih1 ih2 true (inr y) k = ih1 y k
    go ih1 ih2 false y (inl e) = d.0 (cut-ids (suc n) mine qs q.id (rw (← e) y))
    go ih1 ih2 false y (inr k) = ih2 y k
