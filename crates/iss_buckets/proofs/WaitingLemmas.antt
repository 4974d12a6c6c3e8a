use Rattle.std.proofs.Common.{◌≡◌, ℕ, ◌+◌, ◌<◌, Bool, true, false, cond, ◌&&◌, ◌||◌, not, List, [], ◌∷◌, ◌++◌, length, take, refl, sym, ap, ◌∙◌, get_or}
use Rattle.std.proofs.lemmas.List.{take_more}
use Rattle.std.specs.List.{list_any}
use Rattle.iss_base.proofs.Lists.{or-alone}
use Rattle.iss_request.specs.Log.{same_id, has_id, ids}
use Rattle.iss_request.specs.declared.ids.ReqId.{ReqId}
use Rattle.iss_request.specs.declared.requests.Request.{Request}
use Rattle.iss_request.proofs.Identities.{any-has_id, has_id-append, same_id-flip}
use Rattle.iss_layout.specs.Layout.{Plan, is_node, bucket_owner, bucket_of}
use Rattle.iss_buckets.specs.Waiting.{may_cast, cut, uncut, absent}

-- ---- requests that are removed by identity

pub ids_more : (qs : List Request) (q : Request) → ids (qs ++ q ∷ []) ≡ ids qs ++ q.id ∷ []
ids_more [] q = refl
ids_more (x ∷ qs) q = ap (λ is. x.id ∷ is) (ids_more qs q)

pub absent_none : (qs : List Request) → absent [] qs ≡ qs
absent_none [] = refl
absent_none (q ∷ qs) = ap (λ rest. q ∷ rest) (absent_none qs)

pub absent_more : (gone : List ReqId) (x : ReqId) (qs : List Request) → absent (gone ++ x ∷ []) qs ≡ absent (x ∷ []) (absent gone qs)
absent_more gone x [] = refl
absent_more gone x (q ∷ qs) = rw (has_id-append q.id gone (x ∷ [])) (go (has_id q.id gone) (absent_more gone x qs))
  where
    go : (b : Bool) → absent (gone ++ x ∷ []) qs ≡ absent (x ∷ []) (absent gone qs)
        → cond (b || (same_id q.id x || false)) (absent (gone ++ x ∷ []) qs) (q ∷ absent (gone ++ x ∷ []) qs) ≡ absent (x ∷ []) (cond b (absent gone qs) (q ∷ absent gone qs))
    go true rest = rest
    go false rest = ap (λ qs. cond (same_id q.id x || false) qs (q ∷ qs)) rest

-- ---- marks

pub marks_more : (keys now done : List ReqId) (x id : ReqId) → list_any (λ k. same_id id k) now ≡ cond (same_id x id) true (list_any (λ k. same_id id k) keys)
    → has_id id keys ≡ has_id id done → has_id id now ≡ has_id id (done ++ x ∷ [])
marks_more keys now done x id is so_far =
    sym (any-has_id id now) ∙ is ∙ ap (λ t. cond (same_id x id) true t) (any-has_id id keys ∙ so_far) ∙ swap (same_id x id) (has_id id done)
    ∙ ap (λ t. has_id id done || t) (same_id-flip x id ∙ sym (or-alone (same_id id x))) ∙ sym (has_id-append id done (x ∷ []))
  where
    swap : (a b : Bool) → cond a true b ≡ (b || a)
    swap true true = refl
    swap true false = refl
    swap false true = refl
    swap false false = refl

pub cut_same : (p : Plan) (owner n : ℕ) (a b : List ReqId) (qs : List Request) → ((id : ReqId) → has_id id a ≡ has_id id b)
    → (cut n (may_cast p owner a) qs ≡ cut n (may_cast p owner b) qs) × (uncut n (may_cast p owner a) qs ≡ uncut n (may_cast p owner b) qs)
cut_same p owner n a b qs same =
    let tests : may_cast p owner a ≡ may_cast p owner b = λ i q. is_node owner (bucket_owner p (bucket_of p q.id)) && not (same q.id i) in
    (ap (λ (f : Request → Bool). cut n f qs) tests, ap (λ (f : Request → Bool). uncut n f qs) tests)

pub dropped_more : (old now next batch : List Request) (i : ℕ) (x : Request) → i < length batch → x ≡ get_or batch i x
    → now ≡ absent (ids (take i batch)) old → next ≡ absent (x.id ∷ []) now → next ≡ absent (ids (take (i + 1) batch)) old
dropped_more old now next batch i x within item so_far is =
    let more : take (i + 1) batch ≡ take i batch ++ x ∷ [] = take_more batch i x within ∙ ap (λ y. take i batch ++ y ∷ []) (sym item) in
    is ∙ ap (λ qs. absent (x.id ∷ []) qs) so_far ∙ sym (absent_more (ids (take i batch)) x.id old)
    ∙ ap (λ is. absent is old) (sym (ids_more (take i batch) x)) ∙ ap (λ qs. absent (ids qs) old) (sym more)

pub marked_more : (keys now marked : List ReqId) (i : ℕ) (d id : ReqId) → i < length marked
    → list_any (λ k. same_id id k) now ≡ cond (same_id (get_or marked i d) id) true (list_any (λ k. same_id id k) keys)
    → has_id id keys ≡ has_id id (take i marked) → has_id id now ≡ has_id id (take (i + 1) marked)
marked_more keys now marked i d id within is so_far =
    marks_more keys now (take i marked) (get_or marked i d) id is so_far ∙ ap (λ ks. has_id id ks) (sym (take_more marked i d within))
