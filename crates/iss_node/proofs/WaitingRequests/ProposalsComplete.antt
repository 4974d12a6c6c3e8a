-- Which proposals are completed, and which stay in flight.
use Rattle.std.proofs.Common.{arith, ◌≡◌, inl, inr, ℕ, ◌<◌, ◌≤◌, Bool, true, false, cond, List, [], ◌∷◌, ◌++◌, ◌||◌, ◌&&◌, not, length, refl, sym, ap, ◌∙◌, true≢false}
use Rattle.std.specs.Prelude.{nat_lt}
use Rattle.std.proofs.lemmas.Bool.Decides.{nat_tests}
use Rattle.std.proofs.lemmas.List.{append-nil}
use Rattle.iss_base.specs.Lists.{Different, In}
use Rattle.iss_window.proofs.Members.{and-nor, has_id-append}
use Rattle.iss_base.proofs.Lists.{in_append, in_left, in_right, or-alone, or-assoc}
use Rattle.iss_model.proofs.Flights.{RefinesBareCore, flying-ids, ids-carried, ids-within, nil-below, parts-of}
use Rattle.iss_rules.proofs.Ids.{ids-append, in-has}
use Rattle.iss_model.specs.Node.{flown, flying, is_nil_at, returned}
use Rattle.iss_model.specs.Sound.{carried}
use Rattle.iss_node.specs.Flights.{completed}
use Rattle.iss_request.specs.Log.{has_id, ids}
use Rattle.iss_request.specs.declared.ids.ReqId.{ReqId}
use Rattle.iss_request.specs.declared.ids.Slot.{Slot}
use Rattle.iss_request.specs.declared.requests.Batch.{Batch}
use Rattle.iss_request.specs.declared.requests.Request.{Request}
use Rattle.iss_request.specs.declared.requests.Value.{Value}

pub landed-more : (n : ℕ) (xs : List (Slot × Batch)) (x : Slot × Batch) → completed n (xs ++ x ∷ []) ≡ completed n xs ++ cond (nat_lt x.0.0 n) (x ∷ []) []
landed-more n [] x = refl
landed-more n (y ∷ xs) x = elim (nat_lt y.0.0 n) as (λ b. cond b (y ∷ completed n (xs ++ x ∷ [])) (completed n (xs ++ x ∷ [])) ≡ cond b (y ∷ completed n xs) (completed n xs) ++ cond (nat_lt x.0.0 n) (x ∷ []) []) [
  | true ↦ ap (λ (ys : List (Slot × Batch)). y ∷ ys) (landed-more n xs x)
  | false ↦ landed-more n xs x
]

pub flying-more : (n : ℕ) (xs : List (Slot × Batch)) (x : Slot × Batch) → flying n (xs ++ x ∷ []) ≡ flying n xs ++ cond (nat_lt x.0.0 n) [] (x ∷ [])
flying-more n [] x = elim (nat_lt x.0.0 n) as (λ b. cond b [] (x ∷ []) ≡ cond b [] (x ∷ [])) [ true ↦ refl | false ↦ refl ]
flying-more n (y ∷ xs) x = elim (nat_lt y.0.0 n) as (λ b. cond b (flying n (xs ++ x ∷ [])) (y ∷ flying n (xs ++ x ∷ [])) ≡ cond b (flying n xs) (y ∷ flying n xs) ++ cond (nat_lt x.0.0 n) [] (x ∷ [])) [
  | true ↦ flying-more n xs x
  | false ↦ ap (λ (ys : List (Slot × Batch)). y ∷ ys) (flying-more n xs x)
]

flown-append : (xs ys : List (Slot × Batch)) → (x : ReqId) → has_id x (flown (xs ++ ys)) ≡ (has_id x (flown xs) || has_id x (flown ys))
flown-append [] ys x = refl
flown-append (y ∷ xs) ys x =
    has_id-append x (ids y.1) (flown (xs ++ ys)) ∙ ap (λ b. has_id x (ids y.1) || b) (flown-append xs ys x)
    ∙ or-assoc (has_id x (ids y.1)) (has_id x (flown xs)) (has_id x (flown ys))
    ∙ sym (ap (λ b. b || has_id x (flown ys)) (has_id-append x (ids y.1) (flown xs)))

module _ (n : ℕ) (done : List (Slot × Batch)) (slot : Slot) (batch : Batch) (gone left : List (Slot × Batch)) (all now new : List ReqId)
    (gone_is : gone ≡ completed n done) (left_is : left ≡ flying n done)
    (now_is : (x : ReqId) → has_id x now ≡ (has_id x all && not (has_id x (flown (completed n done))))) where
  -- A proposal that is completed.
  pub landed-gone : slot.0 < n → gone ++ (slot, batch) ∷ [] ≡ completed n (done ++ (slot, batch) ∷ [])
  landed-gone lt =
      let below : nat_lt slot.0 n ≡ true = grind (arith, nat_tests) in
      ap (λ (xs : List (Slot × Batch)). xs ++ (slot, batch) ∷ []) gone_is ∙ sym (landed-more n done (slot, batch) ∙ ap (λ b. completed n done ++ cond b ((slot, batch) ∷ []) []) below)

  pub landed-left : slot.0 < n → left ≡ flying n (done ++ (slot, batch) ∷ [])
  landed-left lt =
      let below : nat_lt slot.0 n ≡ true = grind (arith, nat_tests) in
      left_is ∙ sym (flying-more n done (slot, batch) ∙ ap (λ b. flying n done ++ cond b [] ((slot, batch) ∷ [])) below ∙ append-nil (flying n done))

  pub landed-ids : slot.0 < n → ((x : ReqId) → has_id x new ≡ (has_id x now && not (has_id x (ids batch)))) → (x : ReqId) → has_id x new ≡ (has_id x all && not (has_id x (flown (completed n (done ++ (slot, batch) ∷ [])))))
  landed-ids lt h x =
      let below : nat_lt slot.0 n ≡ true = grind (arith, nat_tests) in
      let is : completed n (done ++ (slot, batch) ∷ []) ≡ completed n done ++ (slot, batch) ∷ [] = landed-more n done (slot, batch) ∙ ap (λ b. completed n done ++ cond b ((slot, batch) ∷ []) []) below in
      h x ∙ ap (λ b. b && not (has_id x (ids batch))) (now_is x) ∙ and-nor (has_id x all) (has_id x (flown (completed n done))) (has_id x (ids batch))
      ∙ ap (λ b. has_id x all && not b) (ap (λ b. has_id x (flown (completed n done)) || b) (sym (or-alone (has_id x (ids batch))) ∙ sym (has_id-append x (ids batch) [])) ∙ sym (flown-append (completed n done) ((slot, batch) ∷ []) x))
      ∙ ap (λ (xs : List (Slot × Batch)). has_id x all && not (has_id x (flown xs))) (sym is)

  -- A proposal that stays in flight.
  pub kept-gone : n ≤ slot.0 → gone ≡ completed n (done ++ (slot, batch) ∷ [])
  kept-gone le =
      let above : nat_lt slot.0 n ≡ false = grind (arith, nat_tests) in
      gone_is ∙ sym (landed-more n done (slot, batch) ∙ ap (λ b. completed n done ++ cond b ((slot, batch) ∷ []) []) above ∙ append-nil (completed n done))

  pub kept-left : n ≤ slot.0 → left ++ (slot, batch) ∷ [] ≡ flying n (done ++ (slot, batch) ∷ [])
  kept-left le =
      let above : nat_lt slot.0 n ≡ false = grind (arith, nat_tests) in
      ap (λ (xs : List (Slot × Batch)). xs ++ (slot, batch) ∷ []) left_is ∙ sym (flying-more n done (slot, batch) ∙ ap (λ b. flying n done ++ cond b [] ((slot, batch) ∷ [])) above)

  pub kept-ids : n ≤ slot.0 → (x : ReqId) → has_id x now ≡ (has_id x all && not (has_id x (flown (completed n (done ++ (slot, batch) ∷ [])))))
  kept-ids le x = now_is x ∙ ap (λ (xs : List (Slot × Batch)). has_id x all && not (has_id x (flown xs))) (sym gone_is ∙ kept-gone le)

-- ---- the identities that stay in flight

split-flown : (n : ℕ) (fs : List (Slot × Batch)) (x : ReqId) → has_id x (flown fs) ≡ (has_id x (flown (completed n fs)) || has_id x (flown (flying n fs)))
split-flown n [] x = refl
split-flown n (f ∷ fs) x = has_id-append x (ids f.1) (flown fs) ∙ ap (λ b. has_id x (ids f.1) || b) (split-flown n fs x) ∙ go (nat_lt f.0.0 n)
  where
    swap : (a b c : Bool) → (a || (b || c)) ≡ (b || (a || c))
    swap true true c = refl
    swap true false c = refl
    swap false b c = refl

    go : (b : Bool) → (has_id x (ids f.1) || (has_id x (flown (completed n fs)) || has_id x (flown (flying n fs)))) ≡ (has_id x (flown (cond b (f ∷ completed n fs) (completed n fs))) || has_id x (flown (cond b (flying n fs) (f ∷ flying n fs))))
    go true = or-assoc (has_id x (ids f.1)) (has_id x (flown (completed n fs))) (has_id x (flown (flying n fs))) ∙ ap (λ b. b || has_id x (flown (flying n fs))) (sym (has_id-append x (ids f.1) (flown (completed n fs))))
    go false = swap (has_id x (ids f.1)) (has_id x (flown (completed n fs))) (has_id x (flown (flying n fs))) ∙ ap (λ b. has_id x (flown (completed n fs)) || b) (sym (has_id-append x (ids f.1) (flown (flying n fs))))

landed-in : (n : ℕ) (fs : List (Slot × Batch)) (q : Request) → In q (carried (completed n fs)) → In q (carried fs)
landed-in n [] q h = absurd h
landed-in n (f ∷ fs) q h = go (landed-in n fs q) (nat_lt f.0.0 n) h
  where
    go : (In q (carried (completed n fs)) → In q (carried fs)) → (b : Bool) → In q (carried (cond b (f ∷ completed n fs) (completed n fs))) → In q (f.1 ++ carried fs)
    go ih false k = in_right q f.1 (carried fs) (ih k)
    go ih true k = elim (in_append q f.1 (carried (completed n fs)) k) [ inl a ↦ in_left q f.1 (carried fs) a | inr a ↦ in_right q f.1 (carried fs) (ih a) ]

landed-within : (n : ℕ) (fs : List (Slot × Batch)) (x : ReqId) → In x (ids (carried (completed n fs))) → In x (ids (carried fs))
landed-within n fs = ids-within (carried (completed n fs)) (carried fs) (landed-in n fs)

-- If no identity is in flight twice, completed and remaining proposals have no identity in common.
landed-apart : (n : ℕ) (fs : List (Slot × Batch)) → Different (ids (carried fs)) → (x : ReqId) → In x (ids (carried (completed n fs))) → In x (ids (carried (flying n fs))) → ⊥
landed-apart n [] d x a b = a
landed-apart n (f ∷ fs) d x a b = let p = parts-of f.1 (carried fs) d in go p (landed-apart n fs p.right x) (nat_lt f.0.0 n) a b
  where
    go : RefinesBareCore f.1 (carried fs) → (In x (ids (carried (completed n fs))) → In x (ids (carried (flying n fs))) → ⊥) → (c : Bool) →
        In x (ids (carried (cond c (f ∷ completed n fs) (completed n fs)))) → In x (ids (carried (cond c (flying n fs) (f ∷ flying n fs)))) → ⊥
    go p ih true k m = elim (ids-append x f.1 (carried (completed n fs)) k) [ inl y ↦ p.apart x y (flying-ids n fs x m) | inr y ↦ ih y m ]
    go p ih false k m = elim (ids-append x f.1 (carried (flying n fs)) m) [ inl y ↦ p.apart x y (landed-within n fs x k) | inr y ↦ ih k y ]

as-carried : (x : ReqId) (fs : List (Slot × Batch)) → has_id x (flown fs) ≡ true → In x (ids (carried fs))
as-carried x fs h = in-has x (ids (carried fs)) (ap (λ (xs : List ReqId). has_id x xs) (ids-carried fs) ∙ h)

pub still-flown : (n : ℕ) (fs : List (Slot × Batch)) (x : ReqId) → Different (ids (carried fs)) → has_id x (flown (flying n fs)) ≡ (has_id x (flown fs) && not (has_id x (flown (completed n fs))))
still-flown n fs x d = go (has_id x (flown (completed n fs))) refl (has_id x (flown (flying n fs))) refl (has_id x (flown fs)) (split-flown n fs x)
  where
    go : (l : Bool) → has_id x (flown (completed n fs)) ≡ l → (y : Bool) → has_id x (flown (flying n fs)) ≡ y → (a : Bool) → a ≡ (has_id x (flown (completed n fs)) || has_id x (flown (flying n fs))) →
        has_id x (flown (flying n fs)) ≡ (a && not (has_id x (flown (completed n fs))))
    go true hl true hy a e = absurd (landed-apart n fs d x (as-carried x (completed n fs) hl) (as-carried x (flying n fs) hy))
    go true hl false hy a e = let q : a ≡ true = e ∙ ap (λ b. b || has_id x (flown (flying n fs))) hl in rw (hy, hl, q) refl
    go false hl true hy a e = let q : a ≡ true = e ∙ ap (λ b. b || has_id x (flown (flying n fs))) hl ∙ hy in rw (hy, hl, q) refl
    go false hl false hy a e = let q : a ≡ false = e ∙ ap (λ b. b || has_id x (flown (flying n fs))) hl ∙ hy in rw (hy, hl, q) refl

-- Requests that wait again belong to completed proposals.
pub returned-landed : (log : List Value) (fs : List (Slot × Batch)) → returned log (completed (length log) fs) ≡ returned log fs
returned-landed log [] = refl
returned-landed log (f ∷ fs) = go (nat_lt f.0.0 (length log)) refl (is_nil_at log f.0.0) refl (returned-landed log fs)
  where
    go : (b : Bool) → nat_lt f.0.0 (length log) ≡ b → (c : Bool) → is_nil_at log f.0.0 ≡ c → returned log (completed (length log) fs) ≡ returned log fs →
        returned log (cond b (f ∷ completed (length log) fs) (completed (length log) fs)) ≡ cond c (f.1 ++ returned log fs) (returned log fs)
    go true hb true hc ih = rw hc (ap (λ (qs : List Request). f.1 ++ qs) ih)
    go true hb false hc ih = rw hc ih
    go false hb true hc ih = let lt = nil-below log f.0.0 hc in let no : nat_lt f.0.0 (length log) ≡ true = grind (arith, nat_tests, lt) in absurd (true≢false (sym no ∙ hb))
    go false hb false hc ih = ih
