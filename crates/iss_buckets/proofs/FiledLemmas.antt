-- Requests by arrival number: where an identity's number is, and what adding or removing a request changes.
use Rattle.std.proofs.Common.{◌≡◌, ◌≢◌, ◌⊎◌, inl, inr, ⊎_elim, ℕ, suc, ◌+◌, ◌<◌, ◌≤◌, Bool, true, false, cond, ◌||◌, eqb, List, [], ◌∷◌, ◌++◌, refl, sym, ap, ◌∙◌, subst, arith, Option, Some, None, is_some, Greater}
use Rattle.std.specs.Map.{remove_entry, values_of}
use Rattle.std.specs.BTreeMap.{insert_entry}
use Rattle.std.specs.Ordering.{is_eq, nat_cmp}
use Rattle.iss_base.specs.Lists.{In, Different, first_of}
use Rattle.iss_base.proofs.Lists.{eqb-same, eqb-other, is-eq, same_number, some-injective}
use Rattle.iss_request.specs.Log.{same_id, ids}
use Rattle.iss_request.specs.declared.ids.ReqId.{ReqId}
use Rattle.iss_request.specs.declared.requests.Request.{Request}
use Rattle.iss_request.proofs.Identities.{same_id-flip, same_id-self, same_id-tells}
use Rattle.iss_buckets.specs.Internal.Filed.{AreFiled, kept_at, number_of}
use Rattle.iss_buckets.specs.Waiting.{waits, absent}

abbrev Entries : Type 0
Entries = List (ℕ × Request)

abbrev pub without : ℕ → List (ℕ × Request) → List (ℕ × Request)
without k es = remove_entry (λ j. is_eq (nat_cmp k j)) es

-- ---- the request with an arrival number

kept_here : (e : ℕ × Request) (es : Entries) (k : ℕ) → k ≡ e.0 → kept_at (e ∷ es) k ≡ Some e.1
kept_here e es k is = rw (same_number k e.0 ∙ ap (λ j. eqb k j) (sym is) ∙ eqb-same k) refl

pub kept_later : (e : ℕ × Request) (es : Entries) (k : ℕ) → k ≢ e.0 → kept_at (e ∷ es) k ≡ kept_at es k
kept_later e es k ne = rw (same_number k e.0 ∙ eqb-other k e.0 ne) refl

pub not_below : (from : ℕ) (es : Entries) (k : ℕ) → AreFiled from es → k < from → kept_at es k ≡ None
not_below from [] k h lt = refl
not_below from (e ∷ es) k h lt = let low = h.0 in kept_later e es k (λ is. omega (arith, is, low, lt)) ∙ not_below (suc e.0) es k h.2 (omega (arith, low, lt))

pub kept_from : (from : ℕ) (es : Entries) (k : ℕ) (q : Request) → AreFiled from es → kept_at es k ≡ Some q → from ≤ k
kept_from from es k q h is = go (cases k from)
  where
    cases : (a b : ℕ) → (a < b) ⊎ (b ≤ a)
    cases a b = grind arith

    go : (k < from) ⊎ (from ≤ k) → from ≤ k
    go (inl lt) = absurd (let bad : None ≡ Some q = sym (not_below from es k h lt) ∙ is in cc)
    go (inr le) = le

head_not : (e : ℕ × Request) (es : Entries) (from k : ℕ) (q : Request) → AreFiled from (e ∷ es) → kept_at es k ≡ Some q → k ≢ e.0
head_not e es from k q h is at = let low = kept_from (suc e.0) es k q h.2 is in omega (arith, low, at)

pub kept_tail : (e : ℕ × Request) (es : Entries) (from k : ℕ) (q : Request) → AreFiled from (e ∷ es) → kept_at es k ≡ Some q → kept_at (e ∷ es) k ≡ Some q
kept_tail e es from k q h is = kept_later e es k (head_not e es from k q h is) ∙ is

-- ---- the arrival number of an identity

number_here : (e : ℕ × Request) (es : Entries) (id : ReqId) → same_id id e.1.id ≡ true → number_of (e ∷ es) id ≡ Some e.0
number_here e es id is = rw is refl

number_later : (e : ℕ × Request) (es : Entries) (id : ReqId) → same_id id e.1.id ≡ false → number_of (e ∷ es) id ≡ number_of es id
number_later e es id is = rw is refl

pub number_known : (from : ℕ) (es : Entries) (k : ℕ) (q : Request) → AreFiled from es → kept_at es k ≡ Some q → number_of es q.id ≡ Some k
number_known from [] k q h is = cc
number_known from (e ∷ es) k q h is = go (eqb k e.0) refl (number_known (suc e.0) es k q h.2)
  where
    later : (b : Bool) → same_id q.id e.1.id ≡ b → number_of es q.id ≡ Some k → number_of (e ∷ es) q.id ≡ Some k
    later true same rest = absurd (let bad : None ≡ Some k = sym h.1 ∙ ap (λ (i : ReqId). number_of es i) (sym (same_id-tells q.id e.1.id same)) ∙ rest in cc)
    later false same rest = number_later e es q.id same ∙ rest

    go : (b : Bool) → eqb k e.0 ≡ b → (kept_at es k ≡ Some q → number_of es q.id ≡ Some k) → number_of (e ∷ es) q.id ≡ Some k
    go true at rest =
        let here = is-eq k e.0 at in
        let same : e.1 ≡ q = some-injective e.1 q (sym (kept_here e es k here) ∙ is) in
        number_here e es q.id (ap (λ (r : Request). same_id q.id r.id) same ∙ same_id-self q.id) ∙ ap (λ j. Some j) (sym here)
    go false at rest =
        let ne : k ≢ e.0 = λ eq. let bad : true ≡ false = sym (eqb-same k) ∙ ap (λ j. eqb k j) eq ∙ at in cc in
        let kept : kept_at es k ≡ Some q = sym (kept_later e es k ne) ∙ is in
        later (same_id q.id e.1.id) refl (rest kept)

-- the request with a known number
pub record Found (es : List (ℕ × Request)) (id : ReqId) (k : ℕ) : Type 0 where
  pub request : Request
  pub kept : kept_at es k ≡ Some request
  pub same : same_id id request.id ≡ true

pub number_found : (from : ℕ) (es : Entries) (id : ReqId) (k : ℕ) → AreFiled from es → number_of es id ≡ Some k → Found es id k
number_found from [] id k h is = cc
number_found from (e ∷ es) id k h is = go (same_id id e.1.id) refl (number_found (suc e.0) es id k h.2)
  where
    go : (b : Bool) → same_id id e.1.id ≡ b → (number_of es id ≡ Some k → Found es id k) → Found (e ∷ es) id k
    go true same rest =
        let at : e.0 ≡ k = some-injective e.0 k (sym (number_here e es id same) ∙ is) in
        record { request = e.1; kept = kept_here e es k (sym at); same = same }
    go false same rest =
        let f = rest (sym (number_later e es id same) ∙ is) in
        record { request = f.request; kept = kept_tail e es from k f.request h f.kept; same = f.same }

pub waits_known : (es : Entries) (id : ReqId) → is_some (number_of es id) ≡ waits id (values_of es)
waits_known [] id = refl
waits_known (e ∷ es) id = go (same_id id e.1.id) (waits_known es id)
  where
    go : (b : Bool) → is_some (number_of es id) ≡ waits id (values_of es) → is_some (cond b (Some e.0) (number_of es id)) ≡ (b || waits id (values_of es))
    go true rest = refl
    go false rest = rest

pub unknown : (es : Entries) (id : ReqId) → waits id (values_of es) ≡ false → number_of es id ≡ None
unknown es id h = go (number_of es id) (waits_known es id ∙ h)
  where
    go : (o : Option ℕ) → is_some o ≡ false → o ≡ None
    go None e = refl
    go (Some k) e = cc

pub unknown_waits : (es : Entries) (id : ReqId) → number_of es id ≡ None → waits id (values_of es) ≡ false
unknown_waits es id h = sym (waits_known es id) ∙ ap (λ (o : Option ℕ). is_some o) h

apart_ids : (es : Entries) (id : ReqId) → number_of es id ≡ None → In id (ids (values_of es)) → ⊥
apart_ids [] id none there = there
apart_ids (e ∷ es) id none there = ⊎_elim
    (λ (same : id ≡ e.1.id). let bad : None ≡ Some e.0 = sym none ∙ number_here e es id (ap (λ (x : ReqId). same_id id x) (sym same) ∙ same_id-self id) in cc)
    (λ (later : In id (ids (values_of es))). go (same_id id e.1.id) refl (λ rest. apart_ids es id rest later))
    there
  where
    go : (b : Bool) → same_id id e.1.id ≡ b → (number_of es id ≡ None → ⊥) → ⊥
    go true same rest = let bad : None ≡ Some e.0 = sym none ∙ number_here e es id same in cc
    go false same rest = rest (sym (number_later e es id same) ∙ none)

pub filed_different : (from : ℕ) (es : Entries) → AreFiled from es → Different (ids (values_of es))
filed_different from [] h = tt
filed_different from (e ∷ es) h = (apart_ids es e.1.id h.1, filed_different (suc e.0) es h.2)

-- ---- one more request

pub kept_more : (es : Entries) (n : ℕ) (q : Request) (k : ℕ) → kept_at (es ++ (n, q) ∷ []) k ≡ first_of (kept_at es k) (cond (eqb k n) (Some q) None)
kept_more [] n q k = rw (same_number k n) refl
kept_more (e ∷ es) n q k = go (is_eq (nat_cmp k e.0)) (kept_more es n q k)
  where
    go : (b : Bool) → kept_at (es ++ (n, q) ∷ []) k ≡ first_of (kept_at es k) (cond (eqb k n) (Some q) None)
        → cond b (Some e.1) (kept_at (es ++ (n, q) ∷ []) k) ≡ first_of (cond b (Some e.1) (kept_at es k)) (cond (eqb k n) (Some q) None)
    go true rest = refl
    go false rest = rest

pub number_more : (es : Entries) (n : ℕ) (q : Request) (id : ReqId) → number_of (es ++ (n, q) ∷ []) id ≡ first_of (number_of es id) (cond (same_id id q.id) (Some n) None)
number_more [] n q id = refl
number_more (e ∷ es) n q id = go (same_id id e.1.id) (number_more es n q id)
  where
    go : (b : Bool) → number_of (es ++ (n, q) ∷ []) id ≡ first_of (number_of es id) (cond (same_id id q.id) (Some n) None)
        → cond b (Some e.0) (number_of (es ++ (n, q) ∷ []) id) ≡ first_of (cond b (Some e.0) (number_of es id)) (cond (same_id id q.id) (Some n) None)
    go true rest = refl
    go false rest = rest

abbrev pub AreBelow : Entries → ℕ → Type 0
AreBelow es next = (k : ℕ) (q : Request) → kept_at es k ≡ Some q → k < next

below_tail : (e : ℕ × Request) (es : Entries) (from next : ℕ) → AreFiled from (e ∷ es) → AreBelow (e ∷ es) next → AreBelow es next
below_tail e es from next h below = λ k q is. below k q (kept_tail e es from k q h is)

head_below : (e : ℕ × Request) (es : Entries) (next : ℕ) → AreBelow (e ∷ es) next → e.0 < next
head_below e es next below = below e.0 e.1 (kept_here e es e.0 refl)

pub insert_last : (from : ℕ) (es : Entries) (n : ℕ) (q : Request) → AreFiled from es → AreBelow es n → insert_entry nat_cmp es n q ≡ es ++ (n, q) ∷ []
insert_last from [] n q h below = refl
insert_last from (e ∷ es) n q h below =
    let lt = head_below e es n below in
    rw (greater n e.0 lt) (ap (λ xs. e ∷ xs) (insert_last (suc e.0) es n q h.2 (below_tail e es from n h below)))
  where
    greater : (a b : ℕ) → b < a → nat_cmp a b ≡ Greater
    greater a b h = grind arith

first_none : (o : Option ℕ) → first_of o None ≡ o
first_none None = refl
first_none (Some k) = refl

pub filed_more : (from : ℕ) (es : Entries) (n : ℕ) (q : Request) → AreFiled from es → AreBelow es n → from ≤ n → number_of es q.id ≡ None → AreFiled from (es ++ (n, q) ∷ [])
filed_more from [] n q h below le none = (le, refl, tt)
filed_more from (e ∷ es) n q h below le none =
    let lt = head_below e es n below in
    go (same_id q.id e.1.id) refl (λ rest. filed_more (suc e.0) es n q h.2 (below_tail e es from n h below) lt rest)
  where
    go : (b : Bool) → same_id q.id e.1.id ≡ b → (number_of es q.id ≡ None → AreFiled (suc e.0) (es ++ (n, q) ∷ [])) → AreFiled from (e ∷ (es ++ (n, q) ∷ []))
    go true same rest = absurd (let bad : None ≡ Some e.0 = sym none ∙ number_here e es q.id same in cc)
    go false same rest =
        let other : same_id e.1.id q.id ≡ false = same_id-flip e.1.id q.id ∙ same in (
          h.0,
          number_more es n q e.1.id ∙ ap (λ (b : Bool). first_of (number_of es e.1.id) (cond b (Some n) None)) other ∙ first_none (number_of es e.1.id) ∙ h.1,
          rest (sym (number_later e es q.id same) ∙ none),
        )

pub known_more : (es : Entries) (n : ℕ) (q : Request) (id : ReqId) → number_of es q.id ≡ None → cond (same_id q.id id) (Some n) (number_of es id) ≡ number_of (es ++ (n, q) ∷ []) id
known_more es n q id none = sym (number_more es n q id ∙ ap (λ (b : Bool). first_of (number_of es id) (cond b (Some n) None)) (same_id-flip id q.id) ∙ go (same_id q.id id) refl)
  where
    go : (b : Bool) → same_id q.id id ≡ b → first_of (number_of es id) (cond b (Some n) None) ≡ cond b (Some n) (number_of es id)
    go true same = ap (λ (o : Option ℕ). first_of o (Some n)) (ap (λ (x : ReqId). number_of es x) (sym (same_id-tells q.id id same)) ∙ none)
    go false same = first_none (number_of es id)

pub below_more : (es : Entries) (n : ℕ) (q : Request) → AreBelow es n → AreBelow (es ++ (n, q) ∷ []) (n + 1)
below_more es n q below = λ k r is. go k r (kept_at es k) refl (eqb k n) refl (sym (kept_more es n q k) ∙ is)
  where
    go : (k : ℕ) (r : Request) (o : Option Request) → kept_at es k ≡ o → (b : Bool) → eqb k n ≡ b → first_of o (cond b (Some q) None) ≡ Some r → k < n + 1
    go k r (Some x) kept b at h = let lt = below k x kept in omega (arith, lt)
    go k r None kept true at h = let e = is-eq k n at in omega (arith, e)
    go k r None kept false at h = cc

-- ---- one request less

lower : (from low : ℕ) (es : Entries) → low ≤ from → AreFiled from es → AreFiled low es
lower from low [] le h = tt
lower from low (e ∷ es) le h = let first = h.0 in (omega (arith, first, le), h.1, h.2)

pub without_here : (e : ℕ × Request) (es : Entries) (n : ℕ) → n ≡ e.0 → without n (e ∷ es) ≡ es
without_here e es n is = rw (same_number n e.0 ∙ ap (λ j. eqb n j) (sym is) ∙ eqb-same n) refl

pub without_later : (e : ℕ × Request) (es : Entries) (n : ℕ) → n ≢ e.0 → without n (e ∷ es) ≡ e ∷ without n es
without_later e es n ne = rw (same_number n e.0 ∙ eqb-other n e.0 ne) refl

pub same_or : (a b : ℕ) → (a ≡ b) ⊎ (a ≢ b)
same_or a b = go (eqb a b) refl
  where
    go : (t : Bool) → eqb a b ≡ t → (a ≡ b) ⊎ (a ≢ b)
    go true is = inl (is-eq a b is)
    go false is = inr (λ eq. let bad : true ≡ false = sym (eqb-same a) ∙ ap (λ j. eqb a j) eq ∙ is in cc)

pub kept_less : (from : ℕ) (es : Entries) (n k : ℕ) → AreFiled from es → kept_at (without n es) k ≡ cond (eqb k n) None (kept_at es k)
kept_less from [] n k h = go (eqb k n) None
  where
    go : (b : Bool) (o : Option Request) → o ≡ cond b o o
    go true o = refl
    go false o = refl
kept_less from (e ∷ es) n k h = go (same_or n e.0) (same_or k e.0) (kept_less (suc e.0) es n k h.2)
  where
    go : (n ≡ e.0) ⊎ (n ≢ e.0) → (k ≡ e.0) ⊎ (k ≢ e.0) → kept_at (without n es) k ≡ cond (eqb k n) None (kept_at es k)
        → kept_at (without n (e ∷ es)) k ≡ cond (eqb k n) None (kept_at (e ∷ es) k)
    go (inl a) (inl b) rest =
        let same : eqb k n ≡ true = ap (λ j. eqb k j) (a ∙ sym b) ∙ eqb-same k in
        ap (λ (xs : Entries). kept_at xs k) (without_here e es n a) ∙ not_below (suc e.0) es k h.2 (omega (arith, b)) ∙ rw same refl
    go (inl a) (inr b) rest =
        let other : eqb k n ≡ false = eqb-other k n (λ eq. b (eq ∙ a)) in
        ap (λ (xs : Entries). kept_at xs k) (without_here e es n a) ∙ sym (kept_later e es k b) ∙ rw other refl
    go (inr a) (inl b) rest =
        let other : eqb k n ≡ false = eqb-other k n (λ eq. a (sym eq ∙ b)) in
        ap (λ (xs : Entries). kept_at xs k) (without_later e es n a) ∙ kept_here e (without n es) k b ∙ sym (kept_here e es k b) ∙ rw other refl
    go (inr a) (inr b) rest =
        ap (λ (xs : Entries). kept_at xs k) (without_later e es n a) ∙ kept_later e (without n es) k b ∙ rest
        ∙ ap (λ (o : Option Request). cond (eqb k n) None o) (sym (kept_later e es k b))

none_less : (es : Entries) (n : ℕ) (id : ReqId) → number_of es id ≡ None → number_of (without n es) id ≡ None
none_less [] n id none = none
none_less (e ∷ es) n id none = go (same_or n e.0) (same_id id e.1.id) refl (λ rest. none_less es n id rest)
  where
    go : (n ≡ e.0) ⊎ (n ≢ e.0) → (b : Bool) → same_id id e.1.id ≡ b → (number_of es id ≡ None → number_of (without n es) id ≡ None) → number_of (without n (e ∷ es)) id ≡ None
    go a true same rest = absurd (let bad : None ≡ Some e.0 = sym none ∙ number_here e es id same in cc)
    go (inl a) false same rest = ap (λ (xs : Entries). number_of xs id) (without_here e es n a) ∙ sym (number_later e es id same) ∙ none
    go (inr a) false same rest =
        ap (λ (xs : Entries). number_of xs id) (without_later e es n a) ∙ number_later e (without n es) id same ∙ rest (sym (number_later e es id same) ∙ none)

pub filed_less : (from : ℕ) (es : Entries) (n : ℕ) → AreFiled from es → AreFiled from (without n es)
filed_less from [] n h = tt
filed_less from (e ∷ es) n h = go (same_or n e.0) (filed_less (suc e.0) es n h.2)
  where
    go : (n ≡ e.0) ⊎ (n ≢ e.0) → AreFiled (suc e.0) (without n es) → AreFiled from (without n (e ∷ es))
    go (inl a) rest = let low = h.0 in subst (λ (xs : Entries). AreFiled from xs) (sym (without_here e es n a)) (lower (suc e.0) from es (omega (arith, low)) h.2)
    go (inr a) rest = subst (λ (xs : Entries). AreFiled from xs) (sym (without_later e es n a)) (h.0, none_less es n e.1.id h.1, rest)

pub known_less : (from : ℕ) (es : Entries) (n : ℕ) (q : Request) (id : ReqId) → AreFiled from es → kept_at es n ≡ Some q → cond (same_id q.id id) None (number_of es id) ≡ number_of (without n es) id
known_less from [] n q id h is = cc
known_less from (e ∷ es) n q id h is = go (same_or n e.0) (same_id q.id id) refl (known_less (suc e.0) es n q id h.2)
  where
    go : (n ≡ e.0) ⊎ (n ≢ e.0) → (b : Bool) → same_id q.id id ≡ b → (kept_at es n ≡ Some q → cond (same_id q.id id) None (number_of es id) ≡ number_of (without n es) id)
        → cond b None (number_of (e ∷ es) id) ≡ number_of (without n (e ∷ es)) id
    go (inl a) true same rest =
        let here : e.1 ≡ q = some-injective e.1 q (sym (kept_here e es n a) ∙ is) in
        let it : e.1.id ≡ id = ap (λ (r : Request). r.id) here ∙ same_id-tells q.id id same in
        sym (ap (λ (xs : Entries). number_of xs id) (without_here e es n a) ∙ ap (λ (x : ReqId). number_of es x) (sym it) ∙ h.1)
    go (inl a) false same rest =
        let here : e.1 ≡ q = some-injective e.1 q (sym (kept_here e es n a) ∙ is) in
        let other : same_id id e.1.id ≡ false = same_id-flip id e.1.id ∙ ap (λ (r : Request). same_id r.id id) here ∙ same in
        number_later e es id other ∙ ap (λ (xs : Entries). number_of xs id) (sym (without_here e es n a))
    go (inr a) b same rest =
        let kept : kept_at es n ≡ Some q = sym (kept_later e es n a) ∙ is in
        let now = ap (λ (xs : Entries). number_of xs id) (without_later e es n a) in
        let step = ap (λ (t : Bool). cond t None (number_of es id)) (sym same) ∙ rest kept in
        deep b same kept (same_id id e.1.id) refl step ∙ sym now
      where
        deep : (b : Bool) → same_id q.id id ≡ b → kept_at es n ≡ Some q → (c : Bool) → same_id id e.1.id ≡ c → cond b None (number_of es id) ≡ number_of (without n es) id
            → cond b None (number_of (e ∷ es) id) ≡ number_of (e ∷ without n es) id
        deep b same kept false at step = ap (λ (o : Option ℕ). cond b None o) (number_later e es id at) ∙ step ∙ sym (number_later e (without n es) id at)
        deep true same kept true at step =
            let it : q.id ≡ e.1.id = same_id-tells q.id id same ∙ same_id-tells id e.1.id at in
            absurd (let bad : None ≡ Some n = sym h.1 ∙ ap (λ (x : ReqId). number_of es x) (sym it) ∙ number_known (suc e.0) es n q h.2 kept in cc)
        deep false same kept true at step = number_here e es id at ∙ sym (number_here e (without n es) id at)

pub below_less : (from : ℕ) (es : Entries) (n next : ℕ) → AreFiled from es → AreBelow es next → AreBelow (without n es) next
below_less from es n next h below = λ k q is. go k q (eqb k n) (sym (kept_less from es n k h) ∙ is)
  where
    go : (k : ℕ) (q : Request) (b : Bool) → cond b None (kept_at es k) ≡ Some q → k < next
    go k q true is = cc
    go k q false is = below k q is

-- ---- the values that are left

absent_unknown : (es : Entries) (id : ReqId) → number_of es id ≡ None → absent (id ∷ []) (values_of es) ≡ values_of es
absent_unknown [] id none = refl
absent_unknown (e ∷ es) id none = go (same_id id e.1.id) refl (λ rest. absent_unknown es id rest)
  where
    go : (b : Bool) → same_id id e.1.id ≡ b → (number_of es id ≡ None → absent (id ∷ []) (values_of es) ≡ values_of es) → absent (id ∷ []) (values_of (e ∷ es)) ≡ values_of (e ∷ es)
    go true same rest = absurd (let bad : None ≡ Some e.0 = sym none ∙ number_here e es id same in cc)
    go false same rest =
        let test : (same_id e.1.id id || false) ≡ false = rw (same_id-flip e.1.id id ∙ same) refl in
        rw test (ap (λ qs. e.1 ∷ qs) (rest (sym (number_later e es id same) ∙ none)))

pub absent_none_known : (es : Entries) (id : ReqId) → number_of es id ≡ None → values_of es ≡ absent (id ∷ []) (values_of es)
absent_none_known es id none = sym (absent_unknown es id none)

pub absent_known : (from : ℕ) (es : Entries) (id : ReqId) (n : ℕ) → AreFiled from es → number_of es id ≡ Some n → values_of (without n es) ≡ absent (id ∷ []) (values_of es)
absent_known from [] id n h is = cc
absent_known from (e ∷ es) id n h is = go (same_id id e.1.id) refl (absent_known (suc e.0) es id n h.2)
  where
    go : (b : Bool) → same_id id e.1.id ≡ b → (number_of es id ≡ Some n → values_of (without n es) ≡ absent (id ∷ []) (values_of es)) → values_of (without n (e ∷ es)) ≡ absent (id ∷ []) (values_of (e ∷ es))
    go true same rest =
        let at : e.0 ≡ n = some-injective e.0 n (sym (number_here e es id same) ∙ is) in
        let test : (same_id e.1.id id || false) ≡ true = rw (same_id-flip e.1.id id ∙ same) refl in
        let none : number_of es id ≡ None = ap (λ (x : ReqId). number_of es x) (same_id-tells id e.1.id same) ∙ h.1 in
        ap (λ (xs : Entries). values_of xs) (without_here e es n (sym at)) ∙ absent_none_known es id none ∙ rw test refl
    go false same rest =
        let later : number_of es id ≡ Some n = sym (number_later e es id same) ∙ is in
        let f = number_found (suc e.0) es id n h.2 later in
        let ne : n ≢ e.0 = head_not e es from n f.request h f.kept in
        let test : (same_id e.1.id id || false) ≡ false = rw (same_id-flip e.1.id id ∙ same) refl in
        ap (λ (xs : Entries). values_of xs) (without_later e es n ne) ∙ ap (λ qs. e.1 ∷ qs) (rest later) ∙ rw test refl
