-- The queues hold the numbers of their buckets' requests when a request is added or removed.
use Rattle.std.proofs.Common.{◌≡◌, ◌⊎◌, ⊎_elim, ℕ, zero, suc, ◌+◌, ◌<◌, ◌≤◌, Bool, true, false, cond, ◌&&◌, eqb, ◌==◌, List, [], ◌∷◌, ◌++◌, length, refl, sym, ap, ◌∙◌, arith, Option, Some, None, is_some, get_or, replicate, slice_set, map, subst}
use Rattle.std.proofs.lemmas.List.{get_or-map, get_or-set_same, get_or-set_other, length-map, length-set, map-set}
use Rattle.std.specs.BTreeSet.{BTreeSet}
use Rattle.std.specs.List.{list_any}
use Rattle.std.specs.Ordering.{is_eq, nat_cmp}
use Rattle.iss_base.specs.Lists.{first_of}
use Rattle.iss_base.proofs.Lists.{eqb-other, eqb-same, is-eq, same_number, some-injective}
use Rattle.iss_request.specs.Log.{has_id}
use Rattle.iss_request.specs.declared.ids.ReqId.{ReqId}
use Rattle.iss_request.specs.declared.requests.Request.{Request}
use Rattle.iss_buckets.specs.Internal.Filed.{AreFiled, AreQueued, FailBetween, IsNext, IsSetAt, bucket_of_id, has_number, is_in_bucket, is_unmarked_in, kept_at}
use Rattle.iss_buckets.proofs.FiledLemmas.{kept_less, kept_more, same_or, without}

pub queued_none : (es : List (ℕ × Request)) → AreQueued es []
queued_none es = λ b k lt. absurd (omega (arith, lt))

flip : (a b : ℕ) → eqb a b ≡ eqb b a
flip a b = grind arith

-- one number is added

more_at : (here at : Bool) (was : Bool) (o : Option Request) (mine : Bool) (n b : ℕ) (q : Request) → (at ≡ true → o ≡ None) → mine ≡ (bucket_of_id n q.id == b) → here ≡ mine
    → was ≡ is_in_bucket n b o → cond (here && at) true was ≡ is_in_bucket n b (first_of o (cond at (Some q) None))
more_at here false was None mine n b q none m e w = go here
  where
    go : (h : Bool) → cond (h && false) true was ≡ false
    go true = w
    go false = w
more_at here false was (Some x) mine n b q none m e w = go here
  where
    go : (h : Bool) → cond (h && false) true was ≡ is_in_bucket n b (Some x)
    go true = w
    go false = w
more_at here true was (Some x) mine n b q none m e w = absurd (let bad : Some x ≡ None = none refl in cc)
more_at here true was None mine n b q none m e w = go here (e ∙ m)
  where
    go : (h : Bool) → h ≡ (bucket_of_id n q.id == b) → cond (h && true) true was ≡ (bucket_of_id n q.id == b)
    go true is = is
    go false is = w ∙ is

pub queued_more : (es : List (ℕ × Request)) (old new : List (List ℕ)) (n : ℕ) (q : Request) → AreQueued es old → kept_at es n ≡ None
    → IsSetAt old new (bucket_of_id (length old) q.id) n true → AreQueued (es ++ (n, q) ∷ []) new
queued_more es old new n q h none set = λ b k lt.
    let low : b < length old = omega (arith, lt, set.size) in
    let size : (o : Option Request) → is_in_bucket (length old) b o ≡ is_in_bucket (length new) b o = λ o. ap (λ (m : ℕ). is_in_bucket m b o) (sym set.size) in
    set.at b k lt
    ∙ more_at (eqb b (bucket_of_id (length old) q.id)) (eqb k n) (has_number old b k) (kept_at es k) (eqb (bucket_of_id (length old) q.id) b) (length old) b q
    (λ at. ap (λ (j : ℕ). kept_at es j) (is-eq k n at) ∙ none) refl (flip b (bucket_of_id (length old) q.id)) (h b k low)
    ∙ ap (λ (o : Option Request). is_in_bucket (length old) b o) (sym (kept_more es n q k)) ∙ size (kept_at (es ++ (n, q) ∷ []) k)

-- one number is removed

less_at : (here at : Bool) (was : Bool) (o : Option Request) (n b : ℕ) (q : Request) → (at ≡ true → o ≡ Some q) → here ≡ (bucket_of_id n q.id == b)
    → was ≡ is_in_bucket n b o → cond (here && at) false was ≡ is_in_bucket n b (cond at None o)
less_at true true was o n b q is e w = refl
less_at false true was o n b q is e w = w ∙ ap (λ (x : Option Request). is_in_bucket n b x) (is refl) ∙ sym e
less_at true false was o n b q is e w = w
less_at false false was o n b q is e w = w

pub queued_less : (es : List (ℕ × Request)) (old new : List (List ℕ)) (n : ℕ) (q : Request) → AreFiled 0 es → AreQueued es old → kept_at es n ≡ Some q
    → IsSetAt old new (bucket_of_id (length old) q.id) n false → AreQueued (without n es) new
queued_less es old new n q filed h is set = λ b k lt.
    let low : b < length old = omega (arith, lt, set.size) in
    set.at b k lt
    ∙ less_at (eqb b (bucket_of_id (length old) q.id)) (eqb k n) (has_number old b k) (kept_at es k) (length old) b q
    (λ at. ap (λ (j : ℕ). kept_at es j) (is-eq k n at) ∙ is) (flip b (bucket_of_id (length old) q.id)) (h b k low)
    ∙ ap (λ (o : Option Request). is_in_bucket (length old) b o) (sym (kept_less 0 es n k filed)) ∙ ap (λ (m : ℕ). is_in_bucket m b (kept_at (without n es) k)) (sym set.size)

-- ---- the next of a bucket

in-bucket-kept : (n b : ℕ) (o : Option Request) → is_in_bucket n b o ≡ true → is_some o ≡ true
in-bucket-kept n b None h = h
in-bucket-kept n b (Some q) h = refl

pub number-kept : (es : List (ℕ × Request)) (queues : List (List ℕ)) (b k : ℕ) → AreQueued es queues → b < length queues → has_number queues b k ≡ true → is_some (kept_at es k) ≡ true
number-kept es queues b k h lt is = in-bucket-kept (length queues) b (kept_at es k) (sym (h b k lt) ∙ is)

-- a request that passes has its number in the queue
pub passes-numbered : (es : List (ℕ × Request)) (queues : List (List ℕ)) (b k : ℕ) (marked : List ReqId) (q : Request) → AreQueued es queues → b < length queues → kept_at es k ≡ Some q
    → has_number queues b k ≡ false → is_unmarked_in (length queues) b marked q ≡ false
passes-numbered es queues b k marked q h lt is no-number =
    let test : (bucket_of_id (length queues) q.id == b) ≡ false = ap (λ (o : Option Request). is_in_bucket (length queues) b o) (sym is) ∙ sym (h b k lt) ∙ no-number in
    rw test refl

pub numbered-bucket : (es : List (ℕ × Request)) (queues : List (List ℕ)) (b k : ℕ) (q : Request) → AreQueued es queues → b < length queues → kept_at es k ≡ Some q → has_number queues b k ≡ true → (bucket_of_id (length queues) q.id == b) ≡ true
numbered-bucket es queues b k q h lt is number = ap (λ (o : Option Request). is_in_bucket (length queues) b o) (sym is) ∙ sym (h b k lt) ∙ number

-- the numbers of a queue from one on
pub record NextNumber (queues : List (List ℕ)) (b from n : ℕ) : Type 0 where
  pub on : from ≤ n
  pub there : has_number queues b n ≡ true
  pub least : (j : ℕ) → from ≤ j → has_number queues b j ≡ true → n ≤ j

not-before : (queues : List (List ℕ)) (b from n j : ℕ) → NextNumber queues b from n → from ≤ j → j < n → has_number queues b j ≡ false
not-before queues b from n j next on lt = go (has_number queues b j) refl
  where
    go : (t : Bool) → has_number queues b j ≡ t → t ≡ false
    go false is = refl
    go true is = let le = next.least j on is in absurd (omega (arith, le, lt))

pub fail-between : (es : List (ℕ × Request)) (queues : List (List ℕ)) (b from at n : ℕ) (marked : List ReqId) → AreQueued es queues → b < length queues → FailBetween (is_unmarked_in (length queues) b marked) es from at
    → NextNumber queues b at n → FailBetween (is_unmarked_in (length queues) b marked) es from n
fail-between es queues b from at n marked h lt fail next = λ k q on below is. ⊎_elim
    (λ (early : k < at). fail k q on early is)
    (λ (late : at ≤ k). passes-numbered es queues b k marked q h lt is (not-before queues b at n k next late below))
    (order k at)
  where
    order : (a b : ℕ) → (a < b) ⊎ (b ≤ a)
    order a b = grind arith

pub found-next : (es : List (ℕ × Request)) (queues : List (List ℕ)) (b from at n : ℕ) (marked : List ReqId) (q : Request) → AreQueued es queues → b < length queues → from ≤ at
    → FailBetween (is_unmarked_in (length queues) b marked) es from at → NextNumber queues b at n → kept_at es n ≡ Some q → has_id q.id marked ≡ false → IsNext (is_unmarked_in (length queues) b marked) es from (Some n)
found-next es queues b from at n marked q h lt on fail next is free =
    let test = numbered-bucket es queues b n q h lt is next.there in
    let up = next.on in
    record {
      request = q;
      from_on = omega (arith, on, up);
      kept = is;
      passes = rw (test, free) refl;
      before = fail-between es queues b from at n marked h lt fail next;
    }

pub marked-on : (es : List (ℕ × Request)) (queues : List (List ℕ)) (b from at n : ℕ) (marked : List ReqId) (q : Request) → AreQueued es queues → b < length queues
    → FailBetween (is_unmarked_in (length queues) b marked) es from at → NextNumber queues b at n → kept_at es n ≡ Some q → has_id q.id marked ≡ true → FailBetween (is_unmarked_in (length queues) b marked) es from (n + 1)
marked-on es queues b from at n marked q h lt fail next is mark = λ k r on below there. ⊎_elim
    (λ (early : k < n). fail-between es queues b from at n marked h lt fail next k r on early there)
    (λ (late : n ≤ k).
    let here : k ≡ n = omega (arith, late, below) in
    let same : r ≡ q = some-injective r q (sym there ∙ ap (λ (j : ℕ). kept_at es j) here ∙ is) in
    let held : has_id r.id marked ≡ true = ap (λ (x : Request). has_id x.id marked) same ∙ mark in
    rw held (last (bucket_of_id (length queues) r.id == b)))
    (order k n)
  where
    order : (a b : ℕ) → (a < b) ⊎ (b ≤ a)
    order a b = grind arith

    last : (t : Bool) → (t && false) ≡ false
    last true = refl
    last false = refl

pub none-next : (es : List (ℕ × Request)) (queues : List (List ℕ)) (b from at : ℕ) (marked : List ReqId) → AreQueued es queues → b < length queues
    → FailBetween (is_unmarked_in (length queues) b marked) es from at → ((j : ℕ) → at ≤ j → has_number queues b j ≡ false) → IsNext (is_unmarked_in (length queues) b marked) es from None
none-next es queues b from at marked h lt fail none = λ k q on is. ⊎_elim
    (λ (early : k < at). fail k q on early is)
    (λ (late : at ≤ k). passes-numbered es queues b k marked q h lt is (none k late))
    (order k at)
  where
    order : (a b : ℕ) → (a < b) ⊎ (b ≤ a)
    order a b = grind arith

-- empty queues hold no number
pub empty-has : (count b k : ℕ) → has_number (replicate count []) b k ≡ false
empty-has zero b k = refl
empty-has (suc n) zero k = refl
empty-has (suc n) (suc b) k = empty-has n b k

-- if there is no such request, removing it changes nothing
pub queued-absent : (es : List (ℕ × Request)) (queues : List (List ℕ)) (n : ℕ) → AreFiled 0 es → AreQueued es queues → kept_at es n ≡ None → AreQueued (without n es) queues
queued-absent es queues n filed h none = λ b k lt. h b k lt ∙ ap (λ (o : Option Request). is_in_bucket (length queues) b o) (same k)
  where
    go : (k : ℕ) (t : Bool) → eqb k n ≡ t → kept_at es k ≡ cond t None (kept_at es k)
    go k true at = ap (λ (j : ℕ). kept_at es j) (is-eq k n at) ∙ none
    go k false at = refl

    same : (k : ℕ) → kept_at es k ≡ kept_at (without n es) k
    same k = go k (eqb k n) refl ∙ sym (kept_less 0 es n k filed)

-- a queue is changed at one number
pub set-number : (qs : List (List ℕ)) (b number : ℕ) (ks : List ℕ) (has : Bool) → b < length qs
    → ((k : ℕ) → list_any (λ j. is_eq (nat_cmp k j)) ks ≡ cond (is_eq (nat_cmp number k)) has (list_any (λ j. is_eq (nat_cmp k j)) (get_or qs b []))) → IsSetAt qs (slice_set qs b ks) b number has
set-number qs b number ks has within h = record {
  size = length-set qs b ks;
  at = λ c k _. ⊎_elim
      (λ (e : c ≡ b).
      let here : get_or (slice_set qs b ks) c [] ≡ ks = ap (λ (j : ℕ). get_or (slice_set qs b ks) j []) e ∙ get_or-set_same qs b ks [] within in
      ap (λ (xs : List ℕ). list_any (λ j. is_eq (nat_cmp k j)) xs) here ∙ h k
      ∙ ap (λ (t : Bool). cond t has (list_any (λ j. is_eq (nat_cmp k j)) (get_or qs b []))) (same_number number k ∙ flip number k)
      ∙ ap (λ (j : ℕ). cond (eqb k number) has (has_number qs j k)) (sym e)
      ∙ ap (λ (t : Bool). cond (t && eqb k number) has (has_number qs c k)) (sym (ap (λ (j : ℕ). eqb c j) (sym e) ∙ eqb-same c)))
      (λ ne. ap (λ (xs : List ℕ). list_any (λ j. is_eq (nat_cmp k j)) xs) (get_or-set_other qs b c ks [] ne)
      ∙ ap (λ (t : Bool). cond (t && eqb k number) has (has_number qs c k)) (sym (eqb-other c b ne)))
      (same_or c b);
}

-- one of several sets is changed at one number
pub set-in : (sets : List (BTreeSet ℕ)) (old : List (List ℕ)) (b number : ℕ) (before after : BTreeSet ℕ) (has : Bool) → map (λ s. s.keys) sets ≡ old → b < length sets → before ≡ get_or sets b before
    → ((k : ℕ) → list_any (λ j. is_eq (nat_cmp k j)) after.keys ≡ cond (is_eq (nat_cmp number k)) has (list_any (λ j. is_eq (nat_cmp k j)) before.keys))
    → IsSetAt old (map (λ s. s.keys) (slice_set sets b after)) b number has
set-in sets old b number before after has view inside here change =
    let keys = λ (s : BTreeSet ℕ). s.keys in
    let within : b < length (map keys sets) = let size : length (map keys sets) ≡ length sets = length-map sets keys in omega (arith, inside, size) in
    let was : get_or (map keys sets) b [] ≡ before.keys = get_or-map keys sets b before [] inside ∙ ap keys (sym here) in
    let changed = set-number (map keys sets) b number after.keys has within
    (λ k. change k ∙ ap (λ (xs : List ℕ). cond (is_eq (nat_cmp number k)) has (list_any (λ j. is_eq (nat_cmp k j)) xs)) (sym was)) in
    subst (λ (now : List (List ℕ)). IsSetAt now (map keys (slice_set sets b after)) b number has) view
    (subst (λ (now : List (List ℕ)). IsSetAt (map keys sets) now b number has) (sym (map-set keys sets b after)) changed)

-- the bucket of an identity among several sets
pub place-in : (sets : List (BTreeSet ℕ)) (old : List (List ℕ)) (count b : ℕ) (id : ReqId) → map (λ s. s.keys) sets ≡ old → length sets ≡ count → b ≡ bucket_of_id count id → b ≡ bucket_of_id (length old) id
place-in sets old count b id view size is =
    let long : count ≡ length old = sym size ∙ sym (length-map sets (λ s. s.keys)) ∙ ap length view in
    is ∙ ap (λ (n : ℕ). bucket_of_id n id) long
