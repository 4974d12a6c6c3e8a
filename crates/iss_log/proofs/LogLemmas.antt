use Rattle.std.proofs.Common.{IsTrue, ◌↔◌, ⊎_elim, ◌≡◌, ◌≢◌, ℕ, zero, suc, ◌+◌, ◌<◌, ◌≤◌, Bool, true, false, cond, List, [], ◌∷◌, ◌++◌, length, reverse, take, refl, sym, ap, ◌∙◌, subst, arith, Option, Some, None, Result, Ok, Err, OnErr, is_some, IsSome, slice_get, slice_index, append_assoc, length-append, eqb}
use Rattle.std.proofs.lemmas.List.{append-nil, reverse-append}
use Rattle.std.proofs.lemmas.Bool.{cases_lt}
use Rattle.std.specs.Ordering.{is_eq, nat_cmp}
use Rattle.iss_base.specs.Lists.{first_of}
use Rattle.iss_base.proofs.Lists.{same_number}
use Rattle.iss_request.specs.Log.{requests, size_of}
use Rattle.iss_request.specs.declared.requests.Value.{Value}
use Rattle.iss_log.specs.LogState.{LogState, value_at, ahead_at, IsWithout, IsAdvanced, AreNumbered}

-- what holds whatever the result is
pub on_err : {X E P : Type 0} (r : Result X E) → P → OnErr r P
on_err (Ok x) p = tt
on_err (Err e) p = p

-- ---- lists at an index

pub past_none : {X : Type 0} (xs : List X) (k : ℕ) → length xs ≤ k → slice_get xs k ≡ None
past_none [] k h = refl
past_none (x ∷ xs) zero h = absurd (omega arith)
past_none (x ∷ xs) (suc k) h = let lt : length xs ≤ k = omega arith in past_none xs k lt

pub eqb_means : (a b : ℕ) → eqb a b ≡ true → a ≡ b
eqb_means a b h = grind arith

-- ---- a slot ahead of the log takes a value

pub filled_at : (es : List Value) (slot s : ℕ) (v : Value) (before later : Option Value) → length es ≤ slot
    → later ≡ cond (eqb slot s) (Some v) before → first_of (slice_get es s) later ≡ cond (eqb slot s) (Some v) (first_of (slice_get es s) before)
filled_at es slot s v before later past e = go (eqb slot s) refl e
  where
    go : (b : Bool) → eqb slot s ≡ b → later ≡ cond b (Some v) before → first_of (slice_get es s) later ≡ cond b (Some v) (first_of (slice_get es s) before)
    go true is e =
        let at = eqb_means slot s is in
        let le : length es ≤ s = omega arith in
        rw (past_none es s le) e
    go false is e = ap (λ x. first_of (slice_get es s) x) e

-- ---- the next value joins the log

pub joined_at : (es : List Value) (v : Value) (s : ℕ) (before later : Option Value) → (s ≡ length es → before ≡ Some v)
    → (s ≢ length es → later ≡ before) → first_of (slice_get (es ++ v ∷ []) s) later ≡ first_of (slice_get es s) before
joined_at [] v zero before later here apart = sym (here refl)
joined_at [] v (suc s) before later here apart = apart (λ e. cc)
joined_at (x ∷ es) v zero before later here apart = refl
joined_at (x ∷ es) v (suc s) before later here apart = joined_at es v s before later (λ e. here (ap suc e)) (λ ne. apart (λ e. ne (omega arith)))

-- how far a log has advanced
pub record IsAdvancing (old new : LogState) : Type 0 where
  pub joined : List Value
  pub entries : new.entries ≡ old.entries ++ joined
  pub values : (s : ℕ) → value_at new s ≡ value_at old s

pub advancing_none : (l : LogState) → IsAdvancing l l
advancing_none l = record { joined = []; entries = sym (append-nil l.entries); values = λ s. refl }

pub cond_apart : {X : Type 0} (a b : ℕ) (x y : X) → b ≢ a → cond (eqb a b) x y ≡ y
cond_apart a b x y ne = go (eqb a b) refl
  where
    go : (t : Bool) → eqb a b ≡ t → cond t x y ≡ y
    go true is = absurd (ne (sym (eqb_means a b is)))
    go false is = refl

pub advancing_more : (old now new : LogState) (v : Value) (ahead : List (ℕ × Value)) → IsAdvancing old now
    → ahead_at now.ahead (length now.entries) ≡ Some v → IsWithout now.ahead (length now.entries) ahead
    → new ≡ record { entries = now.entries ++ v ∷ []; ahead = ahead } → IsAdvancing old new
advancing_more old now new v ahead so_far next without is =
    let at : (s : ℕ) → value_at (record { entries = now.entries ++ v ∷ []; ahead = ahead }) s ≡ value_at old s = λ s.
    joined_at now.entries v s (ahead_at now.ahead s) (ahead_at ahead s)
    (λ e. ap (λ k. ahead_at now.ahead k) e ∙ next)
    (λ ne. without s ∙ cond_apart (length now.entries) s None (ahead_at now.ahead s) ne)
    ∙ so_far.values s
    in
    subst (λ (x : LogState). IsAdvancing old x) (sym is) (record {
      joined = so_far.joined ++ v ∷ [];
      entries = ap (λ xs. xs ++ v ∷ []) so_far.entries ∙ append_assoc old.entries so_far.joined (v ∷ []);
      values = at;
    })

pub advanced : (old new : LogState) (slots : ℕ) → IsAdvancing old new → ahead_at new.ahead (length new.entries) ≡ None
    → length new.entries ≡ length old.entries + slots → IsAdvanced old new slots
advanced old new slots so_far none count =
    let long : length new.entries ≡ length old.entries + length so_far.joined = ap length so_far.entries ∙ length-append old.entries so_far.joined in
    let le : length new.entries ≤ length new.entries = omega arith in
    record {
      joined = so_far.joined;
      entries = so_far.entries;
      count = omega arith;
      values = so_far.values;
      hole = rw (past_none new.entries (length new.entries) le) none;
    }

-- ---- numbers

pub requests_more : (es : List Value) (v : Value) → requests (es ++ v ∷ []) ≡ requests es + size_of v
requests_more [] v = omega arith
requests_more (x ∷ es) v = let more = requests_more es v in omega arith

-- the number of requests is the same in reverse order
pub requests-turned : (log : List Value) → requests (reverse log) ≡ requests log
requests-turned [] = refl
requests-turned (v ∷ older) =
    let ih = requests-turned older in
    ap (λ (t : List Value). requests t) (reverse-append (v ∷ []) older) ∙
    (requests_more (reverse older) v ∙
    (let sum : requests (reverse older) + size_of v ≡ size_of v + requests older = omega (arith, ih) in sum))

pub take_front : (es : List Value) (v : Value) (s : ℕ) → s ≤ length es → take s (es ++ v ∷ []) ≡ take s es
take_front [] v zero h = refl
take_front [] v (suc s) h = absurd (omega arith)
take_front (x ∷ es) v zero h = refl
take_front (x ∷ es) v (suc s) h = let le : s ≤ length es = omega arith in ap (λ xs. x ∷ xs) (take_front es v s le)

pub index_front : (xs : List ℕ) (x s : ℕ) → s < length xs → slice_index (xs ++ x ∷ []) s ≡ slice_index xs s
index_front [] x s h = absurd (omega arith)
index_front (y ∷ xs) x zero h = refl
index_front (y ∷ xs) x (suc s) h = let lt : s < length xs = omega arith in index_front xs x s lt

pub index_last : (xs : List ℕ) (x s : ℕ) → s ≡ length xs → slice_index (xs ++ x ∷ []) s ≡ x
index_last [] x zero h = refl
index_last [] x (suc s) h = absurd (omega arith)
index_last (y ∷ xs) x zero h = absurd (omega arith)
index_last (y ∷ xs) x (suc s) h = let e : s ≡ length xs = omega arith in index_last xs x s e

pub take_whole : (es : List Value) (s : ℕ) → s ≡ length es → take s es ≡ es
take_whole [] s h = rw h refl
take_whole (x ∷ es) zero h = absurd (omega arith)
take_whole (x ∷ es) (suc s) h = let e : s ≡ length es = omega arith in ap (λ xs. x ∷ xs) (take_whole es s e)

pub numbered_more : (es : List Value) (v : Value) (firsts : List ℕ) (count next : ℕ) → AreNumbered es firsts count
    → next ≡ count + size_of v → AreNumbered (es ++ v ∷ []) (firsts ++ count ∷ []) next
numbered_more es v firsts count next h e =
    let long-es = length-append es (v ∷ []) in
    let long = length-append firsts (count ∷ []) in
    let size = h.size in
    record {
      size = omega arith;
      first = λ s lt. ⊎_elim
          (λ (below : s < length es).
          let le : s ≤ length es = omega arith in
          let within : s < length firsts = omega arith in
          index_front firsts count s within ∙ h.first s below ∙ ap requests (sym (take_front es v s le)))
          (λ (past : length es ≤ s).
          let at : s ≡ length es = omega arith in
          let last : s ≡ length firsts = omega arith in
          let le : s ≤ length es = omega arith in
          index_last firsts count s last ∙ h.all ∙ ap requests (sym (take_front es v s le ∙ take_whole es s at)))
          (cases_lt s (length es));
      all = e ∙ ap (λ k. k + size_of v) h.all ∙ sym (requests_more es v);
    }

pub without_here : (old new : List (ℕ × Value)) (next k s : ℕ) → ahead_at new s ≡ cond (is_eq (nat_cmp next s)) None (ahead_at old s)
    → next ≡ k → ahead_at new s ≡ cond (eqb k s) None (ahead_at old s)
without_here old new next k s h e = h ∙ ap (λ b. cond b None (ahead_at old s)) (same_number next s ∙ ap (λ j. eqb j s) e)

pub none_of : (o : Option Value) → is_some o ≡ false → o ≡ None
none_of None e = refl
none_of (Some x) e = cc

pub some_means : (o : Option Value) (r : Bool) → r ≡ is_some o → IsTrue r ↔ IsSome o
some_means None false e = (λ h. h, λ h. h)
some_means None true e = cc
some_means (Some x) true e = (λ h. h, λ h. h)
some_means (Some x) false e = cc

pub empty_at : (es : List Value) (ahead : List (ℕ × Value)) (slot : ℕ) → length es ≤ slot → is_some (ahead_at ahead slot) ≡ false
    → first_of (slice_get es slot) (ahead_at ahead slot) ≡ None
empty_at es ahead slot past free = rw (past_none es slot past) (none_of (ahead_at ahead slot) free)

pub filled_means : (es : List Value) (ahead : List (ℕ × Value)) (slot : ℕ) (r : Bool) → length es ≤ slot → r ≡ is_some (ahead_at ahead slot)
    → IsTrue r ↔ IsSome (first_of (slice_get es slot) (ahead_at ahead slot))
filled_means es ahead slot r past e = rw (past_none es slot past) (some_means (ahead_at ahead slot) r e)
