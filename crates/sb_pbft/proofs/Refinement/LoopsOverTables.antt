-- Loops over replicas and slots compute what the tables say.
use Rattle.std.proofs.Common.{drop, get_or, ◌≡◌, ◌≤◌, ◌<◌, ◌+◌, ℕ, zero, suc, Bool, true, false, cond, ◌==◌, ◌&&◌, nat_eq, List, [], ◌∷◌, ◌++◌, length, take, Option, Some, None, is_some, append-nil, append_assoc, refl, sym, ap, ◌∙◌, arith, subst}
use Rattle.std.proofs.Math.Seq.{drop-cons}
use Rattle.std.specs.Cmp.Lexicographic.{pointwise}
use Rattle.iss_base.specs.Lists.{same_bytes}
use Rattle.iss_request.specs.declared.ids.Slot.{Slot}
use Rattle.pbft_wire.specs.declared.messages.Certificate.{Certificate}
use Rattle.pbft_wire.specs.declared.messages.Change.{Change}
use Rattle.iss_sb.specs.declared.signers.Signed.{Signed}
use Rattle.sb_pbft.specs.Places.{has_voted, signature_in}
use Rattle.sb_pbft.specs.Internal.Turns.{tops_of}
use Rattle.sb_pbft.specs.Rules.{Ballot, changes_from, cons_some, cons_vote, voters}

-- ---- one replica more

pub one-voter : (g : ℕ → Option Ballot) (d : List ℕ) (k m : ℕ) →
    voters g d k (suc m) ≡ voters g d k m ++ cons_vote d (k + m) (g (k + m)) []
one-voter g d k zero = let e : k + 0 ≡ k = omega arith in rw e refl
one-voter g d k (suc m) =
    let e : suc k + m ≡ k + suc m = omega arith in
    let more = one-voter g d (suc k) m in
    ap (λ (xs : List Signed). cons_vote d k (g k) xs) (rw e at more) ∙ front-vote d k (g k) (voters g d (suc k) m) (cons_vote d (k + suc m) (g (k + suc m)) [])
  where
    front-vote : (d : List ℕ) (k : ℕ) (o : Option Ballot) (xs ys : List Signed) →
        cons_vote d k o (xs ++ ys) ≡ cons_vote d k o xs ++ ys
    front-vote d k None xs ys = refl
    front-vote d k (Some b) xs ys = go (same_bytes d b.digest)
      where
        go : (t : Bool) → cond t (record { by = record { 0 = k }; sig = b.sig } ∷ (xs ++ ys)) (xs ++ ys) ≡ cond t (record { by = record { 0 = k }; sig = b.sig } ∷ xs) xs ++ ys
        go true = refl
        go false = refl

pub voter-next : (g : ℕ → Option Ballot) (d : List ℕ) (m : ℕ) →
    voters g d 0 (suc m) ≡ voters g d 0 m ++ cons_vote d m (g m) []
voter-next g d m = let e : 0 + m ≡ m = omega arith in let h = one-voter g d 0 m in rw e at h

vote-in : (d : List ℕ) (k : ℕ) (o : Option Ballot) → has_voted d o ≡ true → cons_vote d k o [] ≡ record { by = record { 0 = k }; sig = signature_in o } ∷ []
vote-in d k None h = absurd cc
vote-in d k (Some b) h = let e : same_bytes d b.digest ≡ true = h in rw e refl

vote-out : (d : List ℕ) (k : ℕ) (o : Option Ballot) → has_voted d o ≡ false → cons_vote d k o [] ≡ []
vote-out d k None h = refl
vote-out d k (Some b) h = let e : same_bytes d b.digest ≡ false = h in rw e refl

length-one : {A : Type 0} (xs : List A) (x : A) → length (xs ++ x ∷ []) ≡ suc (length xs)
length-one [] x = refl
length-one (y ∷ ys) x = ap suc (length-one ys x)

counted-suc : (g : ℕ → Option Ballot) (d : List ℕ) (m n : ℕ) → has_voted d (g m) ≡ true → n ≡ length (voters g d 0 m) →
    n + 1 ≡ length (voters g d 0 (suc m))
counted-suc g d m n h e =
    let a = voter-next g d m in
    let b = vote-in d m (g m) h in
    let c = length-one (voters g d 0 m) (record { by = record { 0 = m }; sig = signature_in (g m) }) in
    rw (a, b, c) (omega (arith, e))

pub uncounted : (g : ℕ → Option Ballot) (d : List ℕ) (m : ℕ) → has_voted d (g m) ≡ false →
    voters g d 0 (suc m) ≡ voters g d 0 m
uncounted g d m h = let b = vote-out d m (g m) h in voter-next g d m ∙ rw b (append-nil (voters g d 0 m))

take-one : {A : Type 0} (n : ℕ) (xs : List A) (y : A) → length (take n xs) < n →
    take n (xs ++ y ∷ []) ≡ take n xs ++ y ∷ []
take-one zero xs y h = absurd (never (length (take 0 xs)) h)
  where
    never : (n : ℕ) → n < 0 → ⊥
    never n h = omega (arith, h)
take-one (suc zero) [] y h = refl
take-one (suc (suc n)) [] y h = refl
take-one (suc n) (x ∷ xs) y h = let k : length (take n xs) < n = omega (arith, h) in ap (λ (l : List _). x ∷ l) (take-one n xs y k)

take-full : {A : Type 0} (n : ℕ) (xs ys : List A) → n ≤ length (take n xs) → take n (xs ++ ys) ≡ take n xs
take-full zero xs ys h = refl
take-full (suc n) [] ys h = absurd (never n h)
  where
    never : (n : ℕ) → suc n ≤ 0 → ⊥
    never n h = omega (arith, h)
take-full (suc n) (x ∷ xs) ys h = let k : n ≤ length (take n xs) = omega (arith, h) in ap (λ (l : List _). x ∷ l) (take-full n xs ys k)

-- the next number, as loops compute it
next-is : (m : ℕ) → suc m ≡ m + 1
next-is m = omega arith

pub taken : (g : ℕ → Option Ballot) (d : List ℕ) (m most : ℕ) (vs : List Signed) → vs ≡ take most (voters g d 0 m) →
    length vs < most → has_voted d (g m) ≡ true →
    vs ++ record { by = record { 0 = m }; sig = signature_in (g m) } ∷ [] ≡ take most (voters g d 0 (suc m))
taken g d m most vs e few h =
    let x : Signed = record { by = record { 0 = m }; sig = signature_in (g m) } in
    let b = vote-in d m (g m) h in
    let next = voter-next g d m in
    let k : length (take most (voters g d 0 m)) < most = subst (λ (l : List Signed). length l < most) e few in
    ap (λ (l : List Signed). l ++ x ∷ []) e ∙ sym (take-one most (voters g d 0 m) x k) ∙ ap (λ (l : List Signed). take most l) (sym (next ∙ ap (λ (l : List Signed). voters g d 0 m ++ l) b))

-- ---- ViewChanges

one-change : (g : ℕ → Option Change) (k m : ℕ) →
    changes_from g k (suc m) ≡ changes_from g k m ++ cons_some (g (k + m)) []
one-change g k zero = let e : k + 0 ≡ k = omega arith in rw e refl
one-change g k (suc m) =
    let e : suc k + m ≡ k + suc m = omega arith in
    let more = one-change g (suc k) m in
    ap (λ (xs : List Change). cons_some (g k) xs) (rw e at more) ∙ front (g k) (changes_from g (suc k) m) (cons_some (g (k + suc m)) [])
  where
    front : (o : Option Change) (xs ys : List Change) → cons_some o (xs ++ ys) ≡ cons_some o xs ++ ys
    front None xs ys = refl
    front (Some x) xs ys = refl

change-next : (g : ℕ → Option Change) (m : ℕ) → changes_from g 0 (suc m) ≡ changes_from g 0 m ++ cons_some (g m) []
change-next g m = let e : 0 + m ≡ m = omega arith in let h = one-change g 0 m in rw e at h

pub change-in : (g : ℕ → Option Change) (m : ℕ) (x : Change) (xs : List Change) → xs ≡ changes_from g 0 m →
    g m ≡ Some x → xs ++ x ∷ [] ≡ changes_from g 0 (suc m)
change-in g m x xs e h = let n = change-next g m in rw (e, n, h) refl

pub change-out : (g : ℕ → Option Change) (m : ℕ) → g m ≡ None → changes_from g 0 (suc m) ≡ changes_from g 0 m
change-out g m h = let n = change-next g m in n ∙ rw h (append-nil (changes_from g 0 m))

change-counted-suc : (g : ℕ → Option Change) (m n : ℕ) → is_some (g m) ≡ true → n ≡ length (changes_from g 0 m) →
    n + 1 ≡ length (changes_from g 0 (suc m))
change-counted-suc g m n h e = go (g m) refl
  where
    go : (o : Option Change) → g m ≡ o → n + 1 ≡ length (changes_from g 0 (suc m))
    go None q = absurd (let k : false ≡ true = rw q at h in cc)
    go (Some x) q =
        let a = change-next g m in
        let c = length-one (changes_from g 0 m) x in
        rw (a, q, c) (omega (arith, e))

pub change-uncounted : (g : ℕ → Option Change) (m : ℕ) → is_some (g m) ≡ false →
    changes_from g 0 (suc m) ≡ changes_from g 0 m
change-uncounted g m h = go (g m) refl
  where
    go : (o : Option Change) → g m ≡ o → changes_from g 0 (suc m) ≡ changes_from g 0 m
    go None q = change-out g m q
    go (Some x) q = absurd (let k : true ≡ false = rw q at h in cc)

-- ---- equal digests

same_digits : (a b : List ℕ) → pointwise nat_eq a b ≡ same_bytes a b
same_digits [] [] = refl
same_digits [] (y ∷ ys) = refl
same_digits (x ∷ xs) [] = refl
same_digits (x ∷ xs) (y ∷ ys) = ap (λ (t : Bool). (x == y) && t) (same_digits xs ys)

pub voted-is : (d e : List ℕ) (t : Bool) → t ≡ pointwise nat_eq d e → t ≡ same_bytes d e
voted-is d e t h = h ∙ same_digits d e

-- ---- the steps of the loops

pub count-step : (g : ℕ → Option Ballot) (d : List ℕ) (m n r : ℕ) (t : Bool) → t ≡ has_voted d (g m) → t ≡ true →
    (n ≡ length (voters g d 0 m)) × (n ≤ m) → r ≡ n + 1 →
    (r ≡ length (voters g d 0 (m + 1))) × (r ≤ m + 1)
count-step g d m n r t is here h e =
    let k = h.1 in
    (e ∙ subst (λ (z : ℕ). n + 1 ≡ length (voters g d 0 z)) (next-is m) (counted-suc g d m n (sym is ∙ here) h.0), omega (arith, e, k))

pub count-still : (g : ℕ → Option Ballot) (d : List ℕ) (m n r : ℕ) (t : Bool) → t ≡ has_voted d (g m) → t ≡ false →
    (n ≡ length (voters g d 0 m)) × (n ≤ m) → r ≡ n →
    (r ≡ length (voters g d 0 (m + 1))) × (r ≤ m + 1)
count-still g d m n r t is gone h e =
    let k = h.1 in
    (e ∙ h.0 ∙ ap (λ (l : List Signed). length l) (sym (subst (λ (z : ℕ). voters g d 0 z ≡ voters g d 0 m) (next-is m) (uncounted g d m (sym is ∙ gone)))), omega (arith, e, k))

pub votes-step : (g : ℕ → Option Ballot) (d : List ℕ) (m most : ℕ) (vs ws : List Signed) (x : Signed) (t : Bool) →
    vs ≡ take most (voters g d 0 m) →
    length vs < most → t ≡ has_voted d (g m) → t ≡ true → x ≡ record { by = record { 0 = m }; sig = signature_in (g m) } → ws ≡ vs ++ x ∷ [] →
    ws ≡ take most (voters g d 0 (m + 1))
votes-step g d m most vs ws x t e few is here what h =
    h ∙ ap (λ (y : Signed). vs ++ y ∷ []) what ∙ subst (λ (z : ℕ). vs ++ record { by = record { 0 = m }; sig = signature_in (g m) } ∷ [] ≡ take most (voters g d 0 z)) (next-is m)
    (taken g d m most vs e few (sym is ∙ here))

pub votes-out : (g : ℕ → Option Ballot) (d : List ℕ) (m most : ℕ) (vs ws : List Signed) (t : Bool) →
    vs ≡ take most (voters g d 0 m) → t ≡ has_voted d (g m) → t ≡ false → ws ≡ vs →
    ws ≡ take most (voters g d 0 (m + 1))
votes-out g d m most vs ws t e is gone h =
    h ∙ e ∙ ap (λ (l : List Signed). take most l) (sym (subst (λ (z : ℕ). voters g d 0 z ≡ voters g d 0 m) (next-is m) (uncounted g d m (sym is ∙ gone))))

pub votes-full : (g : ℕ → Option Ballot) (d : List ℕ) (m most : ℕ) (vs ws : List Signed) →
    vs ≡ take most (voters g d 0 m) → most ≤ length vs → ws ≡ vs →
    ws ≡ take most (voters g d 0 (m + 1))
votes-full g d m most vs ws e high h =
    let at : most ≤ length (take most (voters g d 0 m)) = subst (λ (l : List Signed). most ≤ length l) e high in
    let same : take most (voters g d 0 (suc m)) ≡ take most (voters g d 0 m) =
    ap (λ (l : List Signed). take most l) (voter-next g d m) ∙ take-full most (voters g d 0 m) (cons_vote d m (g m) []) at in
    h ∙ e ∙ sym (subst (λ (z : ℕ). take most (voters g d 0 z) ≡ take most (voters g d 0 m)) (next-is m) same)

pub change-count-step : (g : ℕ → Option Change) (m n r : ℕ) (t : Bool) → t ≡ is_some (g m) → t ≡ true →
    (n ≡ length (changes_from g 0 m)) × (n ≤ m) → r ≡ n + 1 →
    (r ≡ length (changes_from g 0 (m + 1))) × (r ≤ m + 1)
change-count-step g m n r t is here h e =
    let k = h.1 in
    (e ∙ subst (λ (z : ℕ). n + 1 ≡ length (changes_from g 0 z)) (next-is m) (change-counted-suc g m n (sym is ∙ here) h.0), omega (arith, e, k))

pub change-count-still : (g : ℕ → Option Change) (m n r : ℕ) (t : Bool) → t ≡ is_some (g m) → t ≡ false →
    (n ≡ length (changes_from g 0 m)) × (n ≤ m) → r ≡ n →
    (r ≡ length (changes_from g 0 (m + 1))) × (r ≤ m + 1)
change-count-still g m n r t is gone h e =
    let k = h.1 in
    (e ∙ h.0 ∙ ap (λ (l : List Change). length l) (sym (subst (λ (z : ℕ). changes_from g 0 z ≡ changes_from g 0 m) (next-is m) (change-uncounted g m (sym is ∙ gone)))), omega (arith, e, k))

pub change-step : (g : ℕ → Option Change) (m : ℕ) (x y : Change) (xs ys : List Change) → xs ≡ changes_from g 0 m →
    g m ≡ Some x → y ≡ x → ys ≡ xs ++ y ∷ [] → ys ≡ changes_from g 0 (m + 1)
change-step g m x y xs ys e h what is =
    is ∙ ap (λ (z : Change). xs ++ z ∷ []) what ∙ subst (λ (z : ℕ). xs ++ x ∷ [] ≡ changes_from g 0 z) (next-is m) (change-in g m x xs e h)

pub change-still : (g : ℕ → Option Change) (m : ℕ) (xs ys : List Change) → xs ≡ changes_from g 0 m → g m ≡ None →
    ys ≡ xs → ys ≡ changes_from g 0 (m + 1)
change-still g m xs ys e h is = is ∙ e ∙ sym (subst (λ (z : ℕ). changes_from g 0 z ≡ changes_from g 0 m) (next-is m) (change-out g m h))

-- ---- certificates

tops-next : (top : ℕ → Option Certificate) (slots : List Slot) (i : ℕ) → i < length slots →
    tops_of top (drop i slots) ≡ cons_some (top (get_or slots i (record { 0 = 0 })).0) (tops_of top (drop (i + 1) slots))
tops-next top slots i h =
    subst (λ (j : ℕ). tops_of top (drop i slots) ≡ cons_some (top (get_or slots i (record { 0 = 0 })).0) (tops_of top (drop j slots))) (next-is i)
    (ap (λ (l : List Slot). tops_of top l) (drop-cons slots i (record { 0 = 0 }) h))

pub tops-step : (top : ℕ → Option Certificate) (slots : List Slot) (i : ℕ) (x y : Certificate) (all more : List Certificate) → i < length slots →
    tops_of top slots ≡ all ++ tops_of top (drop i slots) → top (get_or slots i (record { 0 = 0 })).0 ≡ Some x → y ≡ x → more ≡ all ++ y ∷ [] →
    tops_of top slots ≡ more ++ tops_of top (drop (i + 1) slots)
tops-step top slots i x y all more h inv at what is =
    let rest = tops_of top (drop (i + 1) slots) in
    inv ∙ ap (λ (l : List Certificate). all ++ l) (tops-next top slots i h ∙ ap (λ (o : Option Certificate). cons_some o rest) at)
    ∙ sym (ap (λ (l : List Certificate). l ++ rest) (is ∙ ap (λ (z : Certificate). all ++ z ∷ []) what) ∙ append_assoc all (x ∷ []) rest)

pub tops-still : (top : ℕ → Option Certificate) (slots : List Slot) (i : ℕ) (all more : List Certificate) →
    i < length slots →
    tops_of top slots ≡ all ++ tops_of top (drop i slots) → top (get_or slots i (record { 0 = 0 })).0 ≡ None → more ≡ all →
    tops_of top slots ≡ more ++ tops_of top (drop (i + 1) slots)
tops-still top slots i all more h inv at is =
    let rest = tops_of top (drop (i + 1) slots) in
    inv ∙ ap (λ (l : List Certificate). all ++ l) (tops-next top slots i h ∙ ap (λ (o : Option Certificate). cons_some o rest) at)
    ∙ ap (λ (l : List Certificate). l ++ rest) (sym is)
