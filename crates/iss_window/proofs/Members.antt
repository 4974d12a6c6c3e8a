use Rattle.std.proofs.Common.{ℕ, ◌+◌, ◌<◌, length, take, get_or, add-one, ◌≡◌, Bool, true, false, cond, List, [], ◌∷◌, ◌++◌, ◌||◌, refl, sym, ap, ◌∙◌, subst, if◌then◌else◌}
use Rattle.std.specs.Prelude.{◌&&◌, not}
use Rattle.std.proofs.Math.Seq.{take-suc}
use Rattle.std.specs.List.{list_any}
use Rattle.indexmap.specs.IndexSet.{insert_key}
use Rattle.iss_base.proofs.Lists.{or-alone, or-assoc}
pub use Rattle.iss_request.proofs.Identities.{any-has_id, has_id-append, same_id-tells}
use Rattle.iss_window.specs.Ids.{and_id, and_ids}
use Rattle.iss_request.specs.Log.{has_id, ids, same_id}
use Rattle.iss_request.specs.declared.ids.ReqId.{ReqId}
use Rattle.iss_request.specs.declared.requests.Request.{Request}
use Rattle.iss_request.proofs.Identities.{same_id-flip}

-- the set's own search is membership, and its own insertion adds
pub insert-and_id : (xs : List ReqId) (x : ReqId) → insert_key same_id xs x ≡ and_id xs x
insert-and_id xs x = ap (λ b. if b then xs else xs ++ x ∷ []) (any-has_id x xs)

or-swap : (a b c : Bool) → ((a || b) || c) ≡ ((a || c) || b)
or-swap true b c = refl
or-swap false true true = refl
or-swap false true false = refl
or-swap false false true = refl
or-swap false false false = refl

-- membership after an insertion
pub has_id-and_id : (x y : ReqId) (xs : List ReqId) → has_id x (and_id xs y) ≡ (has_id x xs || same_id x y)
has_id-and_id x y xs = go (has_id y xs) refl
  where
    there : has_id y xs ≡ true → (b : Bool) → same_id x y ≡ b → has_id x xs ≡ (has_id x xs || b)
    there h true e = let k : has_id x xs ≡ true = subst (λ (z : ReqId). has_id z xs ≡ true) (sym (same_id-tells x y e)) h in rw k refl
    there h false e = sym (or-alone (has_id x xs))

    go : (b : Bool) → has_id y xs ≡ b → has_id x (and_id xs y) ≡ (has_id x xs || same_id x y)
    go true h = ap (λ b. has_id x (if b then xs else xs ++ y ∷ [])) h ∙ there h (same_id x y) refl
    go false h = ap (λ b. has_id x (if b then xs else xs ++ y ∷ [])) h ∙ has_id-append x xs (y ∷ []) ∙ ap (λ b. has_id x xs || b) (or-alone (same_id x y))

pub has_id-and_ids : (x : ReqId) (xs : List ReqId) (qs : List Request) → has_id x (and_ids xs qs) ≡ (has_id x xs || has_id x (ids qs))
has_id-and_ids x xs [] = sym (or-alone (has_id x xs))
has_id-and_ids x xs (q ∷ qs) =
    has_id-and_ids x (and_id xs q.id) qs
    ∙ ap (λ b. b || has_id x (ids qs)) (has_id-and_id x q.id xs)
    ∙ sym (or-assoc (has_id x xs) (same_id x q.id) (has_id x (ids qs)))

without : (t h : Bool) → cond t false h ≡ (h && not t)
without true true = refl
without true false = refl
without false true = refl
without false false = refl

-- membership after a removal
pub has_id-removed : (x y : ReqId) (old new : List ReqId) → list_any (λ z. same_id x z) new ≡ cond (same_id y x) false (list_any (λ z. same_id x z) old) → has_id x new ≡ (has_id x old && not (same_id x y))
has_id-removed x y old new h =
    sym (any-has_id x new) ∙ h ∙ without (same_id y x) (list_any (λ z. same_id x z) old)
    ∙ ap (λ b. b && not (same_id y x)) (any-has_id x old)
    ∙ ap (λ b. has_id x old && not b) (same_id-flip y x)

pub and-nor : (h a b : Bool) → ((h && not a) && not b) ≡ (h && not (a || b))
and-nor true true b = refl
and-nor true false b = refl
and-nor false a b = refl

all-of : (h : Bool) → h ≡ (h && not false)
all-of true = refl
all-of false = refl

pub has_id-none-dropped : (x : ReqId) (xs : List ReqId) → has_id x xs ≡ (has_id x xs && not (has_id x []))
has_id-none-dropped x xs = all-of (has_id x xs)

-- the requests that are dropped, with one more
pub has_id-dropped : (x : ReqId) (old now new : List ReqId) (qs : List Request) (i : ℕ) (q : Request) → i < length qs → q ≡ get_or qs i q →
    has_id x now ≡ (has_id x old && not (has_id x (ids (take i qs)))) → has_id x new ≡ (has_id x now && not (same_id x q.id)) →
    has_id x new ≡ (has_id x old && not (has_id x (ids (take (i + 1) qs))))
has_id-dropped x old now new qs i q lt is h k =
    let front = take i qs in
    let e : take (i + 1) qs ≡ take i qs ++ q ∷ [] = rw add-one (take-suc qs i q lt ∙ ap (λ (y : Request). take i qs ++ y ∷ []) (sym is)) in
    k ∙ ap (λ b. b && not (same_id x q.id)) h ∙ and-nor (has_id x old) (has_id x (ids front)) (same_id x q.id)
    ∙ sym (ap (λ b. has_id x old && not b) (has_id-behind front))
    ∙ ap (λ (ys : List Request). has_id x old && not (has_id x (ids ys))) (sym e)
  where
    has_id-behind : (rs : List Request) → has_id x (ids (rs ++ q ∷ [])) ≡ (has_id x (ids rs) || same_id x q.id)
    has_id-behind [] = or-alone (same_id x q.id)
    has_id-behind (r ∷ rs) = ap (λ b. same_id x r.id || b) (has_id-behind rs) ∙ or-assoc (same_id x r.id) (has_id x (ids rs)) (same_id x q.id)
