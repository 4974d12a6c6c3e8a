-- The next request that passes a test, from a number on, and what a cut has taken when it reaches it.
use Rattle.std.proofs.Common.{◌≡◌, ◌≢◌, ◌⊎◌, ⊎_elim, ℕ, zero, suc, ◌+◌, ◌-◌, ◌%◌, ◌<◌, ◌≤◌, min, Bool, true, false, cond, ◌&&◌, ◌||◌, not, eqb, nat_lt, List, [], ◌∷◌, ◌++◌, length, refl, sym, ap, ◌∙◌, subst, arith, Option, Some, None, append_assoc, length-append}
use Rattle.std.proofs.lemmas.Bool.Decides.{nat_tests}
use Rattle.std.proofs.lemmas.List.{append-nil}
use Rattle.std.proofs.lemmas.Nat.{mod_below}
use Rattle.std.specs.Map.{values_of}
use Rattle.iss_base.proofs.Lists.{eqb-same, is-eq, neither, or-flip, same_number, some-injective}
use Rattle.iss_base.proofs.Quorum.{or_right_true}
use Rattle.iss_request.specs.Log.{has_id}
use Rattle.iss_request.specs.declared.ids.NodeId.{NodeId}
use Rattle.iss_request.specs.declared.ids.ReqId.{ReqId}
use Rattle.iss_request.specs.declared.requests.Request.{Request}
use Rattle.iss_layout.specs.Layout.{Plan, bucket_of, bucket_owner, is_node}
use Rattle.iss_buckets.specs.Internal.Filed.{AreFiled, FailFrom, IsNext, PassesFirst, is_unmarked_in, kept_at, least_of}
use Rattle.iss_buckets.specs.Waiting.{may_cast, cut, uncut}
use Rattle.iss_buckets.proofs.CutLemmas.{cut-hit, cut-zero, uncut-hit, uncut-zero}
use Rattle.iss_buckets.proofs.FiledLemmas.{kept_tail, kept_from, kept_later, kept_less, without, without_here, without_later}

-- ---- the first that passes is the next of a cut

cut-skip : (p : Request → Bool) (n : ℕ) (x : Request) (xs : List Request) → p x ≡ false → cut n p (x ∷ xs) ≡ cut n p xs
cut-skip p zero x xs h = sym (cut-zero p xs)
cut-skip p (suc n) x xs h = rw h refl

uncut-skip : (p : Request → Bool) (n : ℕ) (x : Request) (xs : List Request) → p x ≡ false → uncut n p (x ∷ xs) ≡ x ∷ uncut n p xs
uncut-skip p zero x xs h = ap (λ ys. x ∷ ys) (sym (uncut-zero p xs))
uncut-skip p (suc n) x xs h = rw h refl

abbrev pub FailBelow : (Request → Bool) → List (ℕ × Request) → ℕ → Type 0
FailBelow p es to = (k : ℕ) (q : Request) → k < to → kept_at es k ≡ Some q → p q ≡ false

head_kept : (e : ℕ × Request) (es : List (ℕ × Request)) (k : ℕ) → k ≡ e.0 → kept_at (e ∷ es) k ≡ Some e.1
head_kept e es k is = rw (same_number k e.0 ∙ ap (λ j. eqb k j) (sym is) ∙ eqb-same k) refl

pub record Taken (p : Request → Bool) (es : List (ℕ × Request)) (n : ℕ) (q : Request) (m : ℕ) : Type 0 where
  pub cut : cut (suc m) p (values_of es) ≡ q ∷ cut m p (values_of (without n es))
  pub uncut : uncut (suc m) p (values_of es) ≡ uncut m p (values_of (without n es))

pub take_first : (p : Request → Bool) (from : ℕ) (es : List (ℕ × Request)) (n : ℕ) (q : Request) (m : ℕ) → AreFiled from es → kept_at es n ≡ Some q → p q ≡ true → FailBelow p es n → Taken p es n q m
take_first p from [] n q m h is passes fail = cc
take_first p from (e ∷ es) n q m h is passes fail = go (eqb n e.0) refl (take_first p (suc e.0) es n q m h.2)
  where
    go : (b : Bool) → eqb n e.0 ≡ b → (kept_at es n ≡ Some q → p q ≡ true → FailBelow p es n → Taken p es n q m) → Taken p (e ∷ es) n q m
    go true at rest =
        let head = is-eq n e.0 at in
        let here : e.1 ≡ q = some-injective e.1 q (sym (head_kept e es n head) ∙ is) in
        let hit : p e.1 ≡ true = ap p here ∙ passes in
        record {
          cut = cut-hit p m e.1 (values_of es) hit ∙ ap (λ x. x ∷ cut m p (values_of es)) here ∙ ap (λ xs. q ∷ cut m p (values_of xs)) (sym (without_here e es n head));
          uncut = uncut-hit p m e.1 (values_of es) hit ∙ ap (λ xs. uncut m p (values_of xs)) (sym (without_here e es n head));
        }
    go false at rest =
        let apart : n ≢ e.0 = λ eq. let bad : true ≡ false = sym (eqb-same n) ∙ ap (λ j. eqb n j) eq ∙ at in cc in
        let kept : kept_at es n ≡ Some q = sym (kept_later e es n apart) ∙ is in
        let low = kept_from (suc e.0) es n q h.2 kept in
        let miss : p e.1 ≡ false = fail e.0 e.1 (omega (arith, low)) (head_kept e es e.0 refl) in
        let t = rest kept passes (λ k r lt there. fail k r lt (kept_tail e es from k r h there)) in
        record {
          cut = cut-skip p (suc m) e.1 (values_of es) miss ∙ t.cut ∙ ap (λ ys. q ∷ ys) (sym (cut-skip p m e.1 (values_of (without n es)) miss))
              ∙ ap (λ xs. q ∷ cut m p (values_of xs)) (sym (without_later e es n apart));
          uncut = uncut-skip p (suc m) e.1 (values_of es) miss ∙ ap (λ ys. e.1 ∷ ys) t.uncut ∙ sym (uncut-skip p m e.1 (values_of (without n es)) miss)
              ∙ ap (λ xs. uncut m p (values_of xs)) (sym (without_later e es n apart));
        }

pub record LeftAll (p : Request → Bool) (es : List (ℕ × Request)) (m : ℕ) : Type 0 where
  pub cut : cut m p (values_of es) ≡ []
  pub uncut : uncut m p (values_of es) ≡ values_of es

pub take_none : (p : Request → Bool) (from : ℕ) (es : List (ℕ × Request)) (m : ℕ) → AreFiled from es → ((k : ℕ) (q : Request) → kept_at es k ≡ Some q → p q ≡ false) → LeftAll p es m
take_none p from [] zero h fail = record { cut = refl; uncut = refl }
take_none p from [] (suc m) h fail = record { cut = refl; uncut = refl }
take_none p from (e ∷ es) m h fail =
    let miss : p e.1 ≡ false = fail e.0 e.1 (head_kept e es e.0 refl) in
    let rest = take_none p (suc e.0) es m h.2 (λ k q is. fail k q (kept_tail e es from k q h is)) in
    record {
      cut = cut-skip p m e.1 (values_of es) miss ∙ rest.cut;
      uncut = uncut-skip p m e.1 (values_of es) miss ∙ ap (λ ys. e.1 ∷ ys) rest.uncut;
    }

-- ---- how far a cut has come

pub record Cutting (p : Request → Bool) (max : ℕ) (old out : List Request) (es : List (ℕ × Request)) (from : ℕ) : Type 0 where
  pub some : length out ≤ max
  pub taken : cut max p old ≡ out ++ cut (max - length out) p (values_of es)
  pub left : uncut max p old ≡ uncut (max - length out) p (values_of es)
  pub below : FailBelow p es from

pub cutting_none : (p : Request → Bool) (max : ℕ) (es : List (ℕ × Request)) → Cutting p max (values_of es) [] es 0
cutting_none p max es =
    let whole : max - 0 ≡ max = omega arith in
    record {
      some = omega arith;
      taken = ap (λ n. cut n p (values_of es)) (sym whole);
      left = ap (λ n. uncut n p (values_of es)) (sym whole);
      below = λ k q lt is. absurd (omega (arith, lt));
    }

pub cutting_more : (p : Request → Bool) (max : ℕ) (old out : List Request) (es : List (ℕ × Request)) (from n : ℕ) (q : Request) → AreFiled 0 es → Cutting p max old out es from
    → length out < max → PassesFirst p es from n → kept_at es n ≡ Some q → Cutting p max old (out ++ q ∷ []) (without n es) n
cutting_more p max old out es from n q filed c room first is =
    let same : first.request ≡ q = some-injective first.request q (sym first.kept ∙ is) in
    let passes : p q ≡ true = ap p (sym same) ∙ first.passes in
    let fail : FailBelow p es n = λ k r lt there. ⊎_elim
    (λ (below : k < from). c.below k r below there)
    (λ (on : from ≤ k). first.before k r on lt there)
    (order k from)
    in
    let long = length-append out (q ∷ []) in
    let m : ℕ = max - length (out ++ q ∷ []) in
    let one : max - length out ≡ suc m = omega (arith, room, long) in
    let t = take_first p 0 es n q m filed is passes fail in
    record {
      some = omega (arith, room, long);
      taken = c.taken ∙ ap (λ j. out ++ cut j p (values_of es)) one ∙ ap (λ ys. out ++ ys) t.cut ∙ sym (append_assoc out (q ∷ []) (cut m p (values_of (without n es))));
      left = c.left ∙ ap (λ j. uncut j p (values_of es)) one ∙ t.uncut;
      below = λ k r lt there. fail k r lt (still k r there);
    }
  where
    order : (a b : ℕ) → (a < b) ⊎ (b ≤ a)
    order a b = grind arith

    drop-none : (b : Bool) (o : Option Request) (r : Request) → cond b None o ≡ Some r → o ≡ Some r
    drop-none true o r h = cc
    drop-none false o r h = h

    still : (k : ℕ) (r : Request) → kept_at (without n es) k ≡ Some r → kept_at es k ≡ Some r
    still k r there = drop-none (eqb k n) (kept_at es k) r (sym (kept_less 0 es n k filed) ∙ there)

pub cutting_full : (p : Request → Bool) (max : ℕ) (old out : List Request) (es : List (ℕ × Request)) (from : ℕ) → Cutting p max old out es from → max ≤ length out
    → (out ≡ cut max p old) × (values_of es ≡ uncut max p old)
cutting_full p max old out es from c full =
    let none : max - length out ≡ 0 = omega (arith, full) in (
      sym (c.taken ∙ ap (λ j. out ++ cut j p (values_of es)) none ∙ ap (λ ys. out ++ ys) (cut-zero p (values_of es)) ∙ append-nil out),
      sym (c.left ∙ ap (λ j. uncut j p (values_of es)) none ∙ uncut-zero p (values_of es)),
    )

pub cutting_end : (p : Request → Bool) (max : ℕ) (old out : List Request) (es : List (ℕ × Request)) (from : ℕ) → AreFiled 0 es → Cutting p max old out es from → FailFrom p es from
    → (out ≡ cut max p old) × (values_of es ≡ uncut max p old)
cutting_end p max old out es from filed c fail =
    let all = take_none p 0 es (max - length out) filed (λ k q is. ⊎_elim (λ (below : k < from). c.below k q below is) (λ (on : from ≤ k). fail k q on is) (order k from)) in
    (sym (c.taken ∙ ap (λ ys. out ++ ys) all.cut ∙ append-nil out), sym (c.left ∙ all.uncut))
  where
    order : (a b : ℕ) → (a < b) ⊎ (b ≤ a)
    order a b = grind arith

-- ---- the first of two

pub next_same : (p t : Request → Bool) (es : List (ℕ × Request)) (from : ℕ) (o : Option ℕ) → ((q : Request) → p q ≡ t q) → IsNext p es from o → IsNext t es from o
next_same p t es from None same h = λ k q on is. sym (same q) ∙ h k q on is
next_same p t es from (Some n) same h = record {
  request = h.request;
  from_on = h.from_on;
  kept = h.kept;
  passes = sym (same h.request) ∙ h.passes;
  before = λ k q on lt is. sym (same q) ∙ h.before k q on lt is;
}

pub next_both : (p t : Request → Bool) (es : List (ℕ × Request)) (from : ℕ) (a b : Option ℕ) → IsNext p es from a → IsNext t es from b → IsNext (λ q. p q || t q) es from (least_of a b)
next_both p t es from None None x y = λ k q on is. neither (p q) (t q) (x k q on is) (y k q on is)
next_both p t es from None (Some n) x y = record {
  request = y.request;
  from_on = y.from_on;
  kept = y.kept;
  passes = or_right_true (p y.request) (t y.request) y.passes;
  before = λ k q on lt is. neither (p q) (t q) (x k q on is) (y.before k q on lt is);
}
next_both p t es from (Some m) None x y = record {
  request = x.request;
  from_on = x.from_on;
  kept = x.kept;
  passes = or-flip (p x.request) (t x.request) ∙ or_right_true (t x.request) (p x.request) x.passes;
  before = λ k q on lt is. neither (p q) (t q) (x.before k q on lt is) (y k q on is);
}
next_both p t es from (Some m) (Some n) x y = ⊎_elim
    (λ (le : m ≤ n).
    let least : min m n ≡ m = omega (arith, le) in
    subst (λ (j : ℕ). PassesFirst (λ q. p q || t q) es from j) (sym least) (record {
      request = x.request;
      from_on = x.from_on;
      kept = x.kept;
      passes = or-flip (p x.request) (t x.request) ∙ or_right_true (t x.request) (p x.request) x.passes;
      before = λ k q on lt is. neither (p q) (t q) (x.before k q on lt is) (y.before k q on (omega (arith, lt, le)) is);
    }))
    (λ (ge : n ≤ m).
    let least : min m n ≡ n = omega (arith, ge) in
    subst (λ (j : ℕ). PassesFirst (λ q. p q || t q) es from j) (sym least) (record {
      request = y.request;
      from_on = y.from_on;
      kept = y.kept;
      passes = or_right_true (p y.request) (t y.request) y.passes;
      before = λ k q on lt is. neither (p q) (t q) (x.before k q on (omega (arith, lt, ge)) is) (y.before k q on lt is);
    }))
    (order m n)
  where
    order : (a b : ℕ) → (a ≤ b) ⊎ (b ≤ a)
    order a b = grind arith

-- ---- bucket by bucket

-- what the owner may propose from the buckets below a given one
abbrev pub castable_below : Plan → ℕ → List ReqId → ℕ → Request → Bool
castable_below p owner marked i q = nat_lt (bucket_of p q.id) i && may_cast p owner marked q

pub none_below : (p : Plan) (owner : ℕ) (marked : List ReqId) (es : List (ℕ × Request)) (from : ℕ) → IsNext (castable_below p owner marked 0) es from None
none_below p owner marked es from = λ k q on is. zero-less (bucket_of p q.id) (may_cast p owner marked q)
  where
    zero-less : (a : ℕ) (b : Bool) → (nat_lt a 0 && b) ≡ false
    zero-less a b = grind (arith, nat_tests)

pub all_below : (p : Plan) (owner : ℕ) (marked : List ReqId) (es : List (ℕ × Request)) (from i : ℕ) (o : Option ℕ) → 1 ≤ p.buckets → i ≡ p.buckets → IsNext (castable_below p owner marked i) es from o → IsNext (may_cast p owner marked) es from o
all_below p owner marked es from i o some at h = next_same (castable_below p owner marked i) (may_cast p owner marked) es from o (λ q. whole (bucket_of p q.id) i (may_cast p owner marked q) (low q)) h
  where
    low : (q : Request) → bucket_of p q.id < i
    low q = let lt : (q.id.client + q.id.number) % p.buckets < p.buckets = mod_below (q.id.client + q.id.number) p.buckets some in omega (arith, lt, at)

    whole : (a i : ℕ) (b : Bool) → a < i → (nat_lt a i && b) ≡ b
    whole a i b lt = grind (arith, nat_tests)

one_more : (a i : ℕ) (b c : Bool) → (a ≡ i → b ≡ c) → ((nat_lt a i && b) || (eqb a i && c)) ≡ (nat_lt a (i + 1) && b)
one_more a i b c h = grind (arith, nat_tests)

none_more : (a i : ℕ) (b : Bool) → (a ≡ i → b ≡ false) → (nat_lt a i && b) ≡ (nat_lt a (i + 1) && b)
none_more a i b h = grind (arith, nat_tests)

pub own_bucket : (p : Plan) (owner : ℕ) (marked : List ReqId) (es : List (ℕ × Request)) (from i : ℕ) (l : NodeId) (a b : Option ℕ) → bucket_owner p i ≡ Some l → eqb l.0 owner ≡ true
    → IsNext (castable_below p owner marked i) es from a → IsNext (is_unmarked_in p.buckets i marked) es from b → IsNext (castable_below p owner marked (i + 1)) es from (least_of a b)
own_bucket p owner marked es from i l a b owned own x y =
    next_same (λ q. castable_below p owner marked i q || is_unmarked_in p.buckets i marked q) (castable_below p owner marked (i + 1)) es from (least_of a b)
    (λ q. one_more (bucket_of p q.id) i (may_cast p owner marked q) (not (has_id q.id marked)) (λ at. own-test q at))
    (next_both (castable_below p owner marked i) (is_unmarked_in p.buckets i marked) es from a b x y)
  where
    own-test : (q : Request) → bucket_of p q.id ≡ i → may_cast p owner marked q ≡ not (has_id q.id marked)
    own-test q at =
        let test : is_node owner (bucket_owner p (bucket_of p q.id)) ≡ true = ap (λ (j : ℕ). is_node owner (bucket_owner p j)) at ∙ ap (λ (o : Option NodeId). is_node owner o) owned ∙ own in
        ap (λ (t : Bool). t && not (has_id q.id marked)) test

pub other_bucket : (p : Plan) (owner : ℕ) (marked : List ReqId) (es : List (ℕ × Request)) (from i : ℕ) (l : NodeId) (a : Option ℕ) → bucket_owner p i ≡ Some l → eqb l.0 owner ≡ false
    → IsNext (castable_below p owner marked i) es from a → IsNext (castable_below p owner marked (i + 1)) es from a
other_bucket p owner marked es from i l a owned other x =
    next_same (castable_below p owner marked i) (castable_below p owner marked (i + 1)) es from a
    (λ q. none_more (bucket_of p q.id) i (may_cast p owner marked q) (λ at. other-test q at)) x
  where
    other-test : (q : Request) → bucket_of p q.id ≡ i → may_cast p owner marked q ≡ false
    other-test q at =
        let test : is_node owner (bucket_owner p (bucket_of p q.id)) ≡ false = ap (λ (j : ℕ). is_node owner (bucket_owner p j)) at ∙ ap (λ (o : Option NodeId). is_node owner o) owned ∙ other in
        ap (λ (t : Bool). t && not (has_id q.id marked)) test
