use Rattle.std.proofs.Common.{arith, ◌≡◌, ℕ, suc, ◌+◌, ◌<◌, Bool, true, false, List, [], ◌∷◌, cond, ◌||◌, length, drop, get_or, refl, sym, ap, ◌∙◌, subst, add-one, drop-cons}
use Rattle.std.specs.Prelude.{not, nat_lt, ◌==◌, ◌≤◌, Some, None}
use Rattle.std.proofs.lemmas.Bool.Decides.{nat_tests}
use Rattle.iss_layout.specs.Layout.{Plan, bucket_of, bucket_owner}
use Rattle.iss_rules.specs.Concrete.{number_of, rules_of}
use Rattle.iss_rules.specs.declared.events.Refusal.TheVariants.{TooLarge, ForeignBucket, BadSignature, OutOfWindow, Ordered, Marked}
use Rattle.iss_request.specs.declared.setups.Setup.{Setup}
use Rattle.iss_request.proofs.Identities.{same_id-flip}
use Rattle.iss_rules.specs.Judge.{any, any_marked, judge}
use Rattle.iss_segment.specs.Internal.Marks.{twice}
use Rattle.iss_request.specs.Log.{has_id, ids, log_ids, same_id}
use Rattle.iss_request.specs.declared.requests.Value.{Value}
use Rattle.iss_segment.specs.Ground.{RestsOn, noted_before}
use Rattle.iss_window.specs.Kept.{Kept, RefinesNoted}
use Rattle.iss_window.specs.Window.{is_inside, place_of}
use Rattle.iss_request.specs.declared.ids.ReqId.{ReqId}
use Rattle.iss_request.specs.declared.requests.Request.{Request}

-- Some identity of ys is in xs.
abbrev meets : List ReqId → List ReqId → Bool
meets xs [] = false
meets xs (y ∷ ys) = has_id y xs || meets xs ys

or-shuffle : (a b c d : Bool) → (a || ((b || c) || d)) ≡ ((a || c) || (b || d))
or-shuffle true b c d = refl
or-shuffle false true true d = refl
or-shuffle false true false d = refl
or-shuffle false false c d = refl

-- With one more mark, a list meets the marks if it has the new mark or meets the old ones.
meets-cons : (x : ReqId) (xs ys : List ReqId) → meets (x ∷ xs) ys ≡ (has_id x ys || meets xs ys)
meets-cons x xs [] = refl
meets-cons x xs (y ∷ ys) =
    ap (λ b. (same_id y x || has_id y xs) || b) (meets-cons x xs ys)
    ∙ ap (λ b. (b || has_id y xs) || (has_id x ys || meets xs ys)) (same_id-flip y x)
    ∙ turn (same_id x y) (has_id y xs) (has_id x ys) (meets xs ys)
  where
    turn : (a b c d : Bool) → ((a || b) || (c || d)) ≡ ((a || c) || (b || d))
    turn true b c d = refl
    turn false true true d = refl
    turn false true false d = refl
    turn false false c d = refl

-- Some identity is marked, or occurs twice in the batch.
any_marked-split : (marked xs : List ReqId) → any_marked marked xs ≡ (meets marked xs || twice xs)
any_marked-split marked [] = refl
any_marked-split marked (x ∷ xs) =
    ap (λ b. has_id x marked || b) (any_marked-split (x ∷ marked) xs ∙ ap (λ b. b || twice xs) (meets-cons x marked xs))
    ∙ turn (has_id x marked) (has_id x xs) (meets marked xs) (twice xs)
  where
    turn : (a b c d : Bool) → (a || ((b || c) || d)) ≡ ((a || c) || (b || d))
    turn = or-shuffle

meets-any : (marked : List ReqId) (qs : List Request) → meets marked (ids qs) ≡ any (λ (q : Request). has_id q.id marked) qs
meets-any marked [] = refl
meets-any marked (q ∷ qs) = ap (λ b. has_id q.id marked || b) (meets-any marked qs)

pub marked-split : (marked : List ReqId) (qs : List Request) → any_marked marked (ids qs) ≡ (any (λ (q : Request). has_id q.id marked) qs || twice (ids qs))
marked-split marked qs = any_marked-split marked (ids qs) ∙ ap (λ b. b || twice (ids qs)) (meets-any marked qs)

-- Only the set of marks matters.
pub any_marked-same : (a b : List ReqId) → ((x : ReqId) → has_id x a ≡ has_id x b) → (xs : List ReqId) → any_marked a xs ≡ any_marked b xs
any_marked-same a b same [] = refl
any_marked-same a b same (x ∷ xs) =
    ap (λ t. t || any_marked (x ∷ a) xs) (same x)
    ∙ ap (λ t. has_id x b || t) (any_marked-same (x ∷ a) (x ∷ b) (λ y. ap (λ t. same_id y x || t) (same y)) xs)

pub among-has : (x : ReqId) (qs : List Request) → any (λ (q : Request). same_id x q.id) qs ≡ has_id x (ids qs)
among-has x [] = refl
among-has x (q ∷ qs) = ap (λ b. same_id x q.id || b) (among-has x qs)

-- A search from index i on finds the request there, or a later one.
pub twice-next : (qs : List Request) (i : ℕ) (q : Request) → i < length qs → q ≡ get_or qs i q → (rest : List Request) → rest ≡ drop (i + 1) qs → twice (ids (drop i qs)) ≡ (any (λ (r : Request). same_id q.id r.id) rest || twice (ids (drop (i + 1) qs)))
twice-next qs i q lt is rest rest_is =
    let e : drop i qs ≡ q ∷ drop (i + 1) qs = rw (add-one, drop-cons qs i q) (ap (λ (z : Request). z ∷ drop (suc i) qs) (sym is)) in
    ap (λ (zs : List Request). twice (ids zs)) e
    ∙ ap (λ b. b || twice (ids (drop (i + 1) qs))) (sym (among-has q.id (drop (i + 1) qs)))
    ∙ ap (λ (zs : List Request). any (λ (r : Request). same_id q.id r.id) zs || twice (ids (drop (i + 1) qs))) (sym rest_is)

pub or-left : (r a b : Bool) → r ≡ a → r ≡ true → r ≡ (a || b)
or-left r true b e h = e
or-left r false b e h = cc

pub or-right : (r a b t : Bool) → r ≡ a → r ≡ false → t ≡ b → t ≡ (a || b)
or-right r true b t e h k = cc
or-right r false b t e h k = k

pub or-skip : (r a b : Bool) → r ≡ a → r ≡ false → (a || b) ≡ b
or-skip r true b e h = cc
or-skip r false b e h = refl

-- ---- the check, reason by reason

-- A test from index i on holds for the request there, or for a later one.
pub any-next : (p : Request → Bool) (qs : List Request) (i : ℕ) (q : Request) → i < length qs → q ≡ get_or qs i q → any p (drop i qs) ≡ (p q || any p (drop (i + 1) qs))
any-next p qs i q lt is =
    let e : drop i qs ≡ q ∷ drop (i + 1) qs = rw (add-one, drop-cons qs i q) (ap (λ (z : Request). z ∷ drop (suc i) qs) (sym is)) in
    ap (λ (zs : List Request). any p zs) e

pub any-found : (p : Request → Bool) (qs : List Request) (i : ℕ) (q : Request) → i < length qs → q ≡ get_or qs i q → p q ≡ true → any p qs ≡ any p (drop i qs) → true ≡ any p qs
any-found p qs i q lt is passes h = sym (h ∙ any-next p qs i q lt is ∙ ap (λ b. b || any p (drop (i + 1) qs)) passes)

pub any-passed : (p : Request → Bool) (qs : List Request) (i : ℕ) (q : Request) → i < length qs → q ≡ get_or qs i q → p q ≡ false → any p qs ≡ any p (drop i qs) → any p qs ≡ any p (drop (i + 1) qs)
any-passed p qs i q lt is none h = h ∙ any-next p qs i q lt is ∙ ap (λ b. b || any p (drop (i + 1) qs)) none

-- The first of six tests that holds.
pub first-cause : (a a' b b' c c' d d' e e' f f' : Bool) → a ≡ a' → b ≡ b' → c ≡ c' → d ≡ d' → e ≡ e' → f ≡ f' →
    cond a (Some TooLarge) (cond b (Some ForeignBucket) (cond c (Some BadSignature) (cond d (Some OutOfWindow) (cond e (Some Ordered) (cond f (Some Marked) None)))))
    ≡ cond a' (Some TooLarge) (cond b' (Some ForeignBucket) (cond c' (Some BadSignature) (cond d' (Some OutOfWindow) (cond e' (Some Ordered) (cond f' (Some Marked) None)))))
first-cause a a' b b' c c' d d' e e' f f' ha hb hc hd he hf = rw (ha, hb, hc, hd, he, hf) refl

-- The results of the six tests.
pub record AreFound (s : Setup) (plan : Plan) (windows : Kept) (leader : ℕ) (marked : List ReqId) (batch : List Request) (a b c d e f : Bool) : Type 0 where
  pub large : nat_lt s.batch (length batch) ≡ a
  pub foreign : any (λ (q : Request). not (number_of (bucket_owner plan (bucket_of plan q.id)) == leader)) batch ≡ b
  pub unsigned : any (λ (q : Request). not ((rules_of s).signed q)) batch ≡ c
  pub outside : (before : List Value) → RefinesNoted windows (noted_before before) → any (λ (q : Request). not (is_inside (place_of windows.width (log_ids before) q.id))) batch ≡ d
  pub ordered : (before : List Value) → RefinesNoted windows (noted_before before) → any (λ (q : Request). has_id q.id (log_ids before)) batch ≡ e
  pub doubled : any_marked marked (ids batch) ≡ f

pub judged : (s : Setup) (plan : Plan) (windows : Kept) (leader : ℕ) (marked : List ReqId) (batch : List Request) (a b c d e f : Bool) → AreFound s plan windows leader marked batch a b c d e f →
    (before : List Value) (epoch : ℕ) → RestsOn s before epoch plan windows →
    cond a (Some TooLarge) (cond b (Some ForeignBucket) (cond c (Some BadSignature) (cond d (Some OutOfWindow) (cond e (Some Ordered) (cond f (Some Marked) None)))))
    ≡ judge (rules_of s) before epoch leader marked batch
judged s plan windows leader marked batch a b c d e f h before epoch r =
    sym (first-cause _ a _ b _ c _ d _ e _ f
    h.large
    (subst (λ (p : Plan). any (λ (q : Request). not (number_of (bucket_owner p (bucket_of p q.id)) == leader)) batch ≡ b) r.divided h.foreign)
    h.unsigned
    (subst (λ (w : ℕ). any (λ (q : Request). not (is_inside (place_of w (log_ids before) q.id))) batch ≡ d) r.width (h.outside before r.noted))
    (h.ordered before r.noted)
    h.doubled)

module _ (s : Setup) (plan : Plan) (windows : Kept) (leader : ℕ) (marked : List ReqId) (batch : List Request)
    (large : nat_lt s.batch (length batch) ≡ false)
    (foreign : any (λ (q : Request). not (number_of (bucket_owner plan (bucket_of plan q.id)) == leader)) batch ≡ false) where
  -- If a request is not signed, the later tests do not matter.
  pub judged-unsigned : any (λ (q : Request). not ((rules_of s).signed q)) batch ≡ true →
      (before : List Value) (epoch : ℕ) → RestsOn s before epoch plan windows → Some BadSignature ≡ judge (rules_of s) before epoch leader marked batch
  judged-unsigned unsigned before epoch r =
      sym (first-cause _ false _ false _ true _ _ _ _ _ _
      large
      (subst (λ (p : Plan). any (λ (q : Request). not (number_of (bucket_owner p (bucket_of p q.id)) == leader)) batch ≡ false) r.divided foreign)
      unsigned refl refl refl)

  -- If a number is outside its window, the later tests do not matter.
  pub judged-outside : any (λ (q : Request). not ((rules_of s).signed q)) batch ≡ false →
      ((before : List Value) → RefinesNoted windows (noted_before before) → any (λ (q : Request). not (is_inside (place_of windows.width (log_ids before) q.id))) batch ≡ true) →
      (before : List Value) (epoch : ℕ) → RestsOn s before epoch plan windows → Some OutOfWindow ≡ judge (rules_of s) before epoch leader marked batch
  judged-outside signed outside before epoch r =
      sym (first-cause _ false _ false _ false _ true _ _ _ _
      large
      (subst (λ (p : Plan). any (λ (q : Request). not (number_of (bucket_owner p (bucket_of p q.id)) == leader)) batch ≡ false) r.divided foreign)
      signed
      (subst (λ (w : ℕ). any (λ (q : Request). not (is_inside (place_of w (log_ids before) q.id))) batch ≡ true) r.width (outside before r.noted))
      refl refl)

pub not-large : (most n : ℕ) → n ≤ most → nat_lt most n ≡ false
not-large most n small = grind (arith, nat_tests)
