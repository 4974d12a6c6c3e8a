-- What tests on identities mean.
use Rattle.std.proofs.Common.{◌≡◌, ◌⊎◌, inl, inr, Bool, true, false, ◌||◌, List, [], ◌∷◌, ◌++◌, refl, sym, ap, ◌∙◌, true≢false}
use Rattle.iss_base.specs.Lists.{In, Different}
use Rattle.iss_base.proofs.Lists.{in_append, in_left, in_right}
use Rattle.iss_request.specs.Log.{has_id, ids, log_ids, same_id, value_ids}
use Rattle.iss_request.specs.declared.ids.ReqId.{ReqId}
use Rattle.iss_request.specs.declared.requests.Request.{Request}
use Rattle.iss_request.specs.declared.requests.Value.{Value}
use Rattle.iss_request.proofs.Identities.{same_id-self, same_id-tells}

pub has-in : (x : ReqId) (xs : List ReqId) → In x xs → has_id x xs ≡ true
has-in x [] h = absurd h
has-in x (y ∷ ys) (inl e) = rw (← e, same_id-self x) refl
has-in x (y ∷ ys) (inr h) = let k : has_id x ys ≡ true = has-in x ys h in elim (same_id x y) as (λ b. (b || has_id x ys) ≡ true) [ true ↦ refl | false ↦ k ]

pub in-has : (x : ReqId) (xs : List ReqId) → has_id x xs ≡ true → In x xs
in-has x [] h = absurd (true≢false (sym h))
in-has x (y ∷ ys) h = go (in-has x ys) (same_id x y) refl h
  where
    go : (has_id x ys ≡ true → In x ys) → (b : Bool) → same_id x y ≡ b → (b || has_id x ys) ≡ true → In x (y ∷ ys)
    go ih true q k = inl (same_id-tells x y q)
    go ih false q k = inr (ih k)

pub not-has : (x : ReqId) (xs : List ReqId) → has_id x xs ≡ false → In x xs → ⊥
not-has x xs h i = true≢false (sym (has-in x xs i) ∙ h)

pub has-not : (x : ReqId) (xs : List ReqId) → (In x xs → ⊥) → has_id x xs ≡ false
has-not x xs h = go (has_id x xs) refl
  where
    go : (b : Bool) → has_id x xs ≡ b → b ≡ false
    go true q = absurd (h (in-has x xs q))
    go false q = refl

-- the identities of requests

pub ids-append : (x : ReqId) (qs rs : List Request) → In x (ids (qs ++ rs)) → In x (ids qs) ⊎ In x (ids rs)
ids-append x [] rs h = inr h
ids-append x (q ∷ qs) rs (inl e) = inl (inl e)
ids-append x (q ∷ qs) rs (inr h) = elim (ids-append x qs rs h) [ inl a ↦ inl (inr a) | inr b ↦ inr b ]

pub ids-left : (x : ReqId) (qs rs : List Request) → In x (ids qs) → In x (ids (qs ++ rs))
ids-left x [] rs h = absurd h
ids-left x (q ∷ qs) rs (inl e) = inl e
ids-left x (q ∷ qs) rs (inr h) = inr (ids-left x qs rs h)

pub ids-right : (x : ReqId) (qs rs : List Request) → In x (ids rs) → In x (ids (qs ++ rs))
ids-right x [] rs h = h
ids-right x (q ∷ qs) rs h = inr (ids-right x qs rs h)

pub ids-once : (qs rs : List Request) → Different (ids qs) → Different (ids rs) → ((x : ReqId) → In x (ids qs) → In x (ids rs) → ⊥) → Different (ids (qs ++ rs))
ids-once [] rs a b h = b
ids-once (q ∷ qs) rs a b h =
    (λ k. elim (ids-append q.id qs rs k) [ inl y ↦ a.0 y | inr y ↦ h q.id (inl refl) y ], ids-once qs rs a.1 b (λ x y. h x (inr y)))

pub in-ids : (q : Request) (qs : List Request) → In q qs → In q.id (ids qs)
in-ids q [] h = absurd h
in-ids q (r ∷ qs) (inl e) = inl (ap (λ (z : Request). z.id) e)
in-ids q (r ∷ qs) (inr h) = inr (in-ids q qs h)

pub ids-in : (x : ReqId) (qs : List Request) → In x (ids qs) → (q : Request) × In q qs × (x ≡ q.id)
ids-in x [] h = absurd h
ids-in x (q ∷ qs) (inl e) = (q, inl refl, e)
ids-in x (q ∷ qs) (inr h) = let r = ids-in x qs h in (r.0, inr r.1, r.2)

-- the identities of a longer log

pub log_ids-append : (x : ReqId) (newer a : List Value) → In x (log_ids (newer ++ a)) → In x (log_ids newer) ⊎ In x (log_ids a)
log_ids-append x [] a i = inr i
log_ids-append x (v ∷ newer) a i = elim (in_append x (value_ids v) (log_ids (newer ++ a)) i) [
  | inl k ↦ inl (in_left x (value_ids v) (log_ids newer) k)
  | inr k ↦ elim (log_ids-append x newer a k) [ inl y ↦ inl (in_right x (value_ids v) (log_ids newer) y) | inr y ↦ inr y ]
]

pub log_ids-extends : (z : ReqId) (newer a : List Value) → In z (log_ids a) → In z (log_ids (newer ++ a))
log_ids-extends z [] a i = i
log_ids-extends z (v ∷ newer) a i = in_right z (value_ids v) (log_ids (newer ++ a)) (log_ids-extends z newer a i)
