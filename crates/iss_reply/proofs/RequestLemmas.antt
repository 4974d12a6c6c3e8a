-- The requests of a log by number, and what the keys hold after them.
use Rattle.std.proofs.Common.{◌≡◌, refl, sym, ap, ◌∙◌, ℕ, zero, suc, ◌+◌, ◌-◌, ◌<◌, ◌≤◌, true, false, cond, List, [], ◌∷◌, ◌++◌, length, length-append, take, get_or, Option, Some, None, arith}
use Rattle.std.specs.Prelude.{slice_get, nat_lt}
use Rattle.iss_base.specs.Lists.{first_of}
use Rattle.iss_base.proofs.Lists.{first_of-none}
use Rattle.iss_request.specs.Log.{requests, size_of}
use Rattle.iss_request.specs.declared.requests.Request.{Request}
use Rattle.iss_request.specs.declared.requests.Value.{Value}
use Rattle.iss_request.specs.declared.requests.Value.TheVariants.{Nil as Value_nil, Batch as Value_batch}
use Rattle.iss_reply.specs.Commands.{CommandView, command_of}
use Rattle.iss_reply.specs.Answers.{answer_by, answer_for, held_after, last_left, left_under, or_before, requests_in, requests_of}
use Rattle.iss_reply.specs.Replies.{slot_of}
use Rattle.iss_reply.specs.Repliers.{number_at, request_at, request_in}

-- ---- lists

pub get-front : {A : Type 0} (xs ys : List A) (k : ℕ) → k < length xs → slice_get (xs ++ ys) k ≡ slice_get xs k
get-front [] ys k h = absurd (omega arith)
get-front (x ∷ xs) ys zero h = refl
get-front (x ∷ xs) ys (suc k) h = let lt : k < length xs = omega arith in get-front xs ys k lt

-- the element n places behind the front
get-past : {A : Type 0} (xs ys : List A) (k n : ℕ) → k ≡ length xs + n → slice_get (xs ++ ys) k ≡ slice_get ys n
get-past [] ys k n e = let same : k ≡ n = omega (arith, e) in ap (λ i. slice_get ys i) same
get-past (x ∷ xs) ys zero n e = absurd (omega (arith, e))
get-past (x ∷ xs) ys (suc k) n e = let less : k ≡ length xs + n = omega (arith, e) in get-past xs ys k n less

pub get-below : {A : Type 0} (xs : List A) (k : ℕ) (x : A) → slice_get xs k ≡ Some x → k < length xs
get-below [] k x h = let clash : None ≡ Some x → ⊥ = λ e. cc in absurd (clash h)
get-below (y ∷ xs) zero x h = omega arith
get-below (y ∷ xs) (suc k) x h = let lt = get-below xs k x h in omega (arith, lt)

pub take-more : {A : Type 0} (xs : List A) (k : ℕ) (x : A) → slice_get xs k ≡ Some x → take (suc k) xs ≡ take k xs ++ x ∷ []
take-more [] k x h = let clash : None ≡ Some x → ⊥ = λ e. cc in absurd (clash h)
take-more (y ∷ xs) zero x h = let e : Some y ≡ Some x → y ≡ x = λ h. cc in ap (λ z. z ∷ []) (e h)
take-more (y ∷ xs) (suc k) x h = ap (λ zs. y ∷ zs) (take-more xs k x h)

-- an element that is read is there
pub get-read : {A : Type 0} (xs : List A) (k : ℕ) (x : A) → k < length xs → get_or xs k x ≡ x → slice_get xs k ≡ Some x
get-read [] k x h e = absurd (omega arith)
get-read (y ∷ xs) zero x h e = ap Some e
get-read (y ∷ xs) (suc k) x h e = let lt : k < length xs = omega arith in get-read xs k x lt e

-- ---- requests by number

pub size-in : (v : Value) → size_of v ≡ length (requests_in v)
size-in Value_nil = refl
size-in (Value_batch b) = refl

pub requests-length : (log : List Value) → length (requests_of log) ≡ requests log
requests-length [] = refl
requests-length (v ∷ log) =
    let long = length-append (requests_in v) (requests_of log) in
    let size = size-in v in
    let ih = requests-length log in
    omega (arith, long, size, ih)

-- the requests of one slot more
pub number-more : (log : List Value) (s : ℕ) (v : Value) → slice_get log s ≡ Some v → requests (take (suc s) log) ≡ requests (take s log) + size_of v
number-more [] s v h = let clash : None ≡ Some v → ⊥ = λ e. cc in absurd (clash h)
number-more (x ∷ log) zero v h =
    let e : Some x ≡ Some v → x ≡ v = λ h. cc in
    let same = ap size_of (e h) in
    omega (arith, same)
number-more (x ∷ log) (suc s) v h = let ih = number-more log s v h in omega (arith, ih)

pub number-most : (log : List Value) (s : ℕ) → length log ≤ s → requests (take s log) ≡ requests log
number-most [] zero h = refl
number-most [] (suc s) h = refl
number-most (x ∷ log) zero h = absurd (omega arith)
number-most (x ∷ log) (suc s) h = let le : length log ≤ s = omega arith in ap (λ k. size_of x + k) (number-most log s le)

-- the request at a place of a slot has the number of that position
get-at : (log : List Value) (s p : ℕ) (v : Value) → slice_get log s ≡ Some v → p < size_of v → slice_get (requests_of log) (requests (take s log) + p) ≡ slice_get (requests_in v) p
get-at [] s p v h lt = let clash : None ≡ Some v → ⊥ = λ e. cc in absurd (clash h)
get-at (x ∷ log) zero p v h lt =
    let e : Some x ≡ Some v → x ≡ v = λ h. cc in
    let size = size-in v in
    let within : p < length (requests_in v) = omega (arith, size) in
    let front : 0 + p ≡ p = omega arith in
    ap (λ i. slice_get (requests_in x ++ requests_of log) i) front
    ∙ ap (λ y. slice_get (requests_in y ++ requests_of log) p) (e h) ∙ get-front (requests_in v) (requests_of log) p within
get-at (x ∷ log) (suc s) p v h lt =
    let size = size-in x in
    let e : (size_of x + requests (take s log)) + p ≡ length (requests_in x) + (requests (take s log) + p) = omega (arith, size) in
    get-past (requests_in x) (requests_of log) ((size_of x + requests (take s log)) + p) (requests (take s log) + p) e ∙ get-at log s p v h lt

slot-at : (log : List Value) (s p : ℕ) (v : Value) → slice_get log s ≡ Some v → p < size_of v → slot_of log (requests (take s log) + p) ≡ s
slot-at [] s p v h lt = let clash : None ≡ Some v → ⊥ = λ e. cc in absurd (clash h)
slot-at (x ∷ log) zero p v h lt =
    let e : Some x ≡ Some v → x ≡ v = λ h. cc in
    let same = ap size_of (e h) in
    let below : nat_lt (0 + p) (size_of x) ≡ true = grind (arith, same, lt) in
    ap (λ b. cond b 0 (suc (slot_of log ((0 + p) - size_of x)))) below
slot-at (x ∷ log) (suc s) p v h lt =
    let above : nat_lt ((size_of x + requests (take s log)) + p) (size_of x) ≡ false = grind arith in
    let e : ((size_of x + requests (take s log)) + p) - size_of x ≡ requests (take s log) + p = omega arith in
    ap (λ b. cond b 0 (suc (slot_of log (((size_of x + requests (take s log)) + p) - size_of x)))) above
    ∙ ap (λ i. suc (slot_of log i)) e ∙ ap suc (slot-at log s p v h lt)

-- what a position says of its number: the request, and its slot
pub record IsThere (log : List Value) (s q : ℕ) (r : Request) : Type 0 where
  pub request : slice_get (requests_of log) q ≡ Some r
  pub slot : slot_of log q ≡ s

pub is-there : (log : List Value) (s p q : ℕ) (r : Request) → request_at log s p ≡ Some r → number_at log s p ≡ q → IsThere log s q r
is-there log s p q r h e = go (slice_get log s) refl h
  where
    go : (o : Option Value) → slice_get log s ≡ o → request_in o p ≡ Some r → IsThere log s q r
    go None at k = let clash : None ≡ Some r → ⊥ = λ e. cc in absurd (clash k)
    go (Some v) at k =
        let size = size-in v in
        let within = get-below (requests_in v) p r k in
        let lt : p < size_of v = omega (arith, size, within) in
        record {
          request = ap (λ i. slice_get (requests_of log) i) (sym e) ∙ get-at log s p v at lt ∙ k;
          slot = ap (λ i. slot_of log i) (sym e) ∙ slot-at log s p v at lt;
        }

-- ---- what a key holds

last-more : (key : List ℕ) (rs : List Request) (r : Request) → last_left key (rs ++ r ∷ []) ≡ first_of (left_under key (command_of r.payload)) (last_left key rs)
last-more key [] r = sym (first_of-none (left_under key (command_of r.payload)))
last-more key (x ∷ rs) r = go (left_under key (command_of r.payload)) (left_under key (command_of x.payload)) (last-more key rs r)
  where
    go : (new own : Option (Option (List ℕ))) → last_left key (rs ++ r ∷ []) ≡ first_of new (last_left key rs) → first_of (last_left key (rs ++ r ∷ [])) own ≡ first_of new (first_of (last_left key rs) own)
    go None own e = ap (λ o. first_of o own) e
    go (Some y) own e = ap (λ o. first_of o own) e

before-first : (a b : Option (Option (List ℕ))) → or_before None (first_of a b) ≡ or_before (or_before None b) a
before-first None b = refl
before-first (Some x) b = refl

-- what a key holds after one request more
pub held-more : (key : List ℕ) (rs : List Request) (r : Request) → held_after (rs ++ r ∷ []) key ≡ or_before (held_after rs key) (left_under key (command_of r.payload))
held-more key rs r =
    ap (λ o. or_before None o) (last-more key rs r) ∙ before-first (left_under key (command_of r.payload)) (last_left key rs)

-- an answer depends only on what the keys hold
pub answer-same : (f g : List ℕ → Option (List ℕ)) → ((key : List ℕ) → f key ≡ g key) → (o : Option CommandView) → answer_by f o ≡ answer_by g o
answer-same f g h None = refl
answer-same f g h (Some c) = ap answer_for (h c.key)
