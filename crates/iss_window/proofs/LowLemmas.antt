-- A client's low watermark: it exists, it is unique, and it is a function of the set of identities.
use Rattle.std.proofs.Common.{◌≡◌, ◌⊎◌, inl, inr, ⊎_elim, ℕ, zero, suc, ◌+◌, ◌<◌, ◌≤◌, Bool, true, false, cond, ◌&&◌, ◌||◌, eqb, List, [], ◌∷◌, length, refl, sym, ap, ◌∙◌, arith}
use Rattle.std.proofs.lemmas.Bool.{cases_Bool}
use Rattle.std.proofs.lemmas.Map.Steps.{le-length_from_below}
use Rattle.std.specs.List.{list_any}
use Rattle.iss_base.proofs.Lists.{same_or_not}
use Rattle.iss_request.specs.Log.{has_id}
use Rattle.iss_request.specs.declared.ids.ReqId.{ReqId}
use Rattle.iss_window.specs.Window.{IsLow, id_of, low, low_from}

-- ---- some number is not in the list

abbrev numbers : List ReqId → List ℕ
numbers [] = []
numbers (x ∷ xs) = x.number ∷ numbers xs

length-numbers : (ids : List ReqId) → length (numbers ids) ≡ length ids
length-numbers [] = refl
length-numbers (x ∷ xs) = ap suc (length-numbers xs)

weaker : (a b p q : Bool) → (p ≡ true → q ≡ true) → ((a && b) || p) ≡ true → (b || q) ≡ true
weaker true true p q h k = refl
weaker true false p q h k = h k
weaker false true p q h k = refl
weaker false false p q h k = h k

number-there : (ids : List ReqId) (client t : ℕ) → has_id (id_of client t) ids ≡ true → list_any (eqb t) (numbers ids) ≡ true
number-there [] client t h = cc
number-there (x ∷ xs) client t h =
    weaker (eqb client x.client) (eqb t x.number) (has_id (id_of client t) xs) (list_any (eqb t) (numbers xs)) (number-there xs client t) h

search-below : (test : ℕ → Bool) (n : ℕ) → ((m : ℕ) × (m < n) × (test m ≡ false)) ⊎ ((t : ℕ) → t < n → test t ≡ true)
search-below test zero = inr (λ t lt. absurd (omega (arith, lt)))
search-below test (suc n) = go (cases_Bool (test n)) (search-below test n)
  where
    go : (test n ≡ true) ⊎ (test n ≡ false) → ((m : ℕ) × (m < n) × (test m ≡ false)) ⊎ ((t : ℕ) → t < n → test t ≡ true)
        → ((m : ℕ) × (m < suc n) × (test m ≡ false)) ⊎ ((t : ℕ) → t < suc n → test t ≡ true)
    go (inr no-n) rest = inl (n, omega arith, no-n)
    go (inl at-n) (inl found) = inl (found.0, omega (arith, found.1), found.2)
    go (inl at-n) (inr all) = inr (λ t lt. ⊎_elim (λ (e : t ≡ n). ap test e ∙ at-n) (λ ne. all t (omega (arith, lt, ne))) (same_or_not t n))

pub some-absent : (ids : List ReqId) (client : ℕ) → (m : ℕ) × (m ≤ length ids) × (has_id (id_of client m) ids ≡ false)
some-absent ids client = go (search-below (λ t. has_id (id_of client t) ids) (suc (length ids)))
  where
    go : ((m : ℕ) × (m < suc (length ids)) × (has_id (id_of client m) ids ≡ false)) ⊎ ((t : ℕ) → t < suc (length ids) → has_id (id_of client t) ids ≡ true)
        → (m : ℕ) × (m ≤ length ids) × (has_id (id_of client m) ids ≡ false)
    go (inl found) = (found.0, omega (arith, found.1), found.2)
    go (inr all) =
        let many = le-length_from_below (numbers ids) (suc (length ids)) (λ t lt. number-there ids client t (all t lt)) in
        absurd (omega (arith, many, length-numbers ids))

-- ---- so the search ends at the least of them

present-below : (more : ℕ) (ids : List ReqId) (client from t : ℕ) → from ≤ t → t < low_from more ids client from → has_id (id_of client t) ids ≡ true
present-below zero ids client from t le lt = absurd (omega (arith, le, lt))
present-below (suc more) ids client from t le lt = go (has_id (id_of client from) ids) refl lt (present-below more ids client (suc from) t)
  where
    go : (b : Bool) → has_id (id_of client from) ids ≡ b → t < cond b (low_from more ids client (suc from)) from
        → (suc from ≤ t → t < low_from more ids client (suc from) → has_id (id_of client t) ids ≡ true) → has_id (id_of client t) ids ≡ true
    go true is lt rest = ⊎_elim (λ (e : t ≡ from). ap (λ k. has_id (id_of client k) ids) e ∙ is) (λ ne. rest (omega (arith, le, ne)) lt) (same_or_not t from)
    go false is lt rest = absurd (omega (arith, le, lt))

absent-at : (more : ℕ) (ids : List ReqId) (client from m : ℕ) → from ≤ m → m ≤ from + more → has_id (id_of client m) ids ≡ false → has_id (id_of client (low_from more ids client from)) ids ≡ false
absent-at zero ids client from m le most h = let e : from ≡ m = omega (arith, le, most) in ap (λ k. has_id (id_of client k) ids) e ∙ h
absent-at (suc more) ids client from m le most h = go (has_id (id_of client from) ids) refl (absent-at more ids client (suc from) m)
  where
    go : (b : Bool) → has_id (id_of client from) ids ≡ b
        → (suc from ≤ m → m ≤ suc from + more → has_id (id_of client m) ids ≡ false → has_id (id_of client (low_from more ids client (suc from))) ids ≡ false)
        → has_id (id_of client (cond b (low_from more ids client (suc from)) from)) ids ≡ false
    go true is rest = ⊎_elim
        (λ (e : m ≡ from). absurd (let bad : false ≡ true = sym h ∙ ap (λ k. has_id (id_of client k) ids) e ∙ is in cc))
        (λ ne. rest (omega (arith, le, ne)) (omega (arith, most)) h)
        (same_or_not m from)
    go false is rest = is

pub low-least : (ids : List ReqId) (client : ℕ) → IsLow ids client (low ids client)
low-least ids client =
    let (m, most, h) = some-absent ids client in
    record {
      absent = absent-at (length ids) ids client 0 m (omega arith) (omega (arith, most)) h;
      below = λ t lt. present-below (length ids) ids client 0 t (omega arith) lt;
    }

low-not-less : (ids : List ReqId) (client m n : ℕ) → IsLow ids client m → IsLow ids client n → m < n → ⊥
low-not-less ids client m n a b lt = let bad : true ≡ false = sym (b.below m lt) ∙ a.absent in cc

pub low-one : (ids : List ReqId) (client m n : ℕ) → IsLow ids client m → IsLow ids client n → m ≡ n
low-one ids client m n a b = go (same_or_not m n)
  where
    apart : (m < n) ⊎ (n < m) → m ≡ n
    apart (inl lt) = absurd (low-not-less ids client m n a b lt)
    apart (inr gt) = absurd (low-not-less ids client n m b a gt)

    order : (m n : ℕ) → (m ≡ n → ⊥) → (m < n) ⊎ (n < m)
    order m n ne = grind arith

    go : (m ≡ n) ⊎ (m ≡ n → ⊥) → m ≡ n
    go (inl e) = e
    go (inr ne) = apart (order m n ne)

pub low-is : (ids : List ReqId) (client n : ℕ) → IsLow ids client n → low ids client ≡ n
low-is ids client n h = low-one ids client (low ids client) n (low-least ids client) h

-- it is the same for lists with the same identities
pub low-same : (a b : List ReqId) (client n : ℕ) → ((id : ReqId) → has_id id a ≡ has_id id b) → IsLow a client n → IsLow b client n
low-same a b client n same h = record {
  absent = sym (same (id_of client n)) ∙ h.absent;
  below = λ t lt. sym (same (id_of client t)) ∙ h.below t lt;
}

pub lows-same : (a b : List ReqId) (client : ℕ) → ((id : ReqId) → has_id id a ≡ has_id id b) → low a client ≡ low b client
lows-same a b client same = sym (low-is b client (low a client) (low-same a b client (low a client) same (low-least a client)))
