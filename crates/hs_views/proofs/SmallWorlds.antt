-- For examples: worlds in which the replicas 0, 1 and 2 take inputs, messages that may arrive there, and strings that are
-- told apart by their digests. All of it holds of any module.
use Rattle.std.proofs.Common.{◌≡◌, ◌<◌, ◌&&◌, Bool, ℕ, true, false, cond, eqb, not, List, [], ◌∷◌, refl, sym, ap, ◌∙◌, subst, inl, inr, true≢false}
use Rattle.iss_base.specs.Lists.{In, same_bytes}
use Rattle.iss_base.proofs.Lists.{and-true, eqb-other}
use Rattle.iss_request.specs.Digest.{digest}
use Rattle.iss_sb.specs.declared.effects.Claim.{Claim}
use Rattle.iss_sb.specs.declared.effects.Input.{Input}
use Rattle.iss_sb.specs.declared.effects.Params.{Params}
use Rattle.iss_sb.specs.declared.effects.To.{To}
use Rattle.iss_sb.specs.Evidence.{Item, Module, World, IsCredible, IsReached, IsReadMessage, IsSigned, IsString, MayCome, Separate, Verifies, after, and_then, at_start, empty_world, is_correct}
use Rattle.iss_sb.proofs.Cases.{different}

-- ---- Worlds

abbrev pub world : {M : Type 0} → List (Item M) → List (Item M) → List (Item M) → World M
world xs ys zs i = cond (eqb i 0) xs (cond (eqb i 1) ys (cond (eqb i 2) zs []))

pub none : {M : Type 0} (a c e : Bool) → ◌≡◌ {A = List (Item M)} (cond a [] (cond c [] (cond e [] []))) []
none true c e = refl
none false true e = refl
none false false true = refl
none false false false = refl

module _ {M : Type 0} (m : Module M) (p : Params) where
  -- replica 0 takes the first input
  pub starts : is_correct p.setup 0 ≡ true → (input : Input M) (leaf : ℕ) → MayCome m p empty_world 0 input → IsReached m p (world (and_then m p 0 [] input leaf) [] [])
  starts ok input leaf may = after at_start (record { node = 0; correct = ok; input = input; may = may; leaf = leaf; takes = refl; others = λ i ne. rw (eqb-other i 0 ne) (none false (eqb i 1) (eqb i 2)) })

  module _ (xs ys zs : List (Item M)) (reached : IsReached m p (world xs ys zs)) (input : Input M) (leaf : ℕ) where
    pub zero-takes : is_correct p.setup 0 ≡ true → MayCome m p (world xs ys zs) 0 input → IsReached m p (world (and_then m p 0 xs input leaf) ys zs)
    zero-takes ok may = after reached (record { node = 0; correct = ok; input = input; may = may; leaf = leaf; takes = refl; others = λ i ne. rw (eqb-other i 0 ne) refl })

    pub one-takes : is_correct p.setup 1 ≡ true → MayCome m p (world xs ys zs) 1 input → IsReached m p (world xs (and_then m p 1 ys input leaf) zs)
    one-takes ok may = after reached (record { node = 1; correct = ok; input = input; may = may; leaf = leaf; takes = refl; others = λ i ne. rw (eqb-other i 1 ne) refl })

    pub two-takes : is_correct p.setup 2 ≡ true → MayCome m p (world xs ys zs) 2 input → IsReached m p (world xs ys (and_then m p 2 zs input leaf))
    two-takes ok may = after reached (record { node = 2; correct = ok; input = input; may = may; leaf = leaf; takes = refl; others = λ i ne. rw (eqb-other i 2 ne) refl })

-- ---- Messages that may arrive

-- the signature of the claim is valid, and its correct replica signed the statement
pub record IsFair {M : Type 0} (m : Module M) (p : Params) (w : World M) (c : Claim) : Type 0 where
  pub valid : Verifies p c
  pub signed : is_correct p.setup c.by.0 ≡ true → IsSigned m p w c.by.0 c.statement

abbrev pub AreFair : {M : Type 0} → Module M → Params → World M → List Claim → Type 0
AreFair m p w [] = Unit {0}
AreFair m p w (c ∷ cs) = IsFair m p w c × AreFair m p w cs

module _ {M : Type 0} (m : Module M) (p : Params) (w : World M) where
  each-fair : (cs : List Claim) (c : Claim) → AreFair m p w cs → In c cs → IsFair m p w c
  each-fair [] c h k = absurd k
  each-fair (d ∷ cs) c h (inl e) = subst (λ (z : Claim). IsFair m p w z) (sym e) h.0
  each-fair (d ∷ cs) c h (inr k) = each-fair cs c h.1 k

  pub comes : (from : ℕ) (msg : M) (cs : List Claim) → from < p.setup.n → IsReadMessage m p msg → m.claims p from msg ≡ cs → AreFair m p w cs → IsCredible m p (Verifies p) (IsSigned m p w) from msg
  comes from msg cs named read e h = record {
    named = named;
    read = read;
    verified = λ c k. (each-fair cs c h (subst (λ (z : List Claim). In c z) e k)).valid;
    signed = λ c k. (each-fair cs c h (subst (λ (z : List Claim). In c z) e k)).signed;
  }

  -- replica k signed what it claims in the only message of a step
  pub sent-alone : (k : ℕ) (x : Item M) (to : To) (msg : M) (c : Claim) → In x (w k) → x.made.sends ≡ (to, msg) ∷ [] → In c (m.claims p k msg) → c.by.0 ≡ k → IsSigned m p w k c.statement
  sent-alone k x to msg c h e made by = record {
    item = x;
    taken = h;
    to = to;
    msg = msg;
    sent = rw e (inl refl);
    claim = c;
    made = made;
    by = by;
    is = refl;
  }

-- ---- Strings told apart by their digests

abbrev pub differs : List ℕ → List (List ℕ × List ℕ) → Bool
differs d [] = true
differs d (x ∷ xs) = not (same_bytes d x.1) && differs d xs

abbrev pub all_differ : List (List ℕ × List ℕ) → Bool
all_differ [] = true
all_differ (x ∷ xs) = differs x.1 xs && all_differ xs

not-same : (d e : List ℕ) → not (same_bytes d e) ≡ true → d ≡ e → ⊥
not-same d e h k = different d e (go (same_bytes d e) h) k
  where
    go : (t : Bool) → not t ≡ true → t ≡ false
    go true k = absurd (true≢false (sym k))
    go false k = refl

from-first : (d : List ℕ) (y : List ℕ × List ℕ) (xs : List (List ℕ × List ℕ)) → differs d xs ≡ true → In y xs → d ≡ y.1 → ⊥
from-first d y [] h k e = k
from-first d y (x ∷ xs) h (inl k) e = not-same d x.1 (and-true _ (differs d xs) h).0 (e ∙ ap (λ (z : List ℕ × List ℕ). z.1) k)
from-first d y (x ∷ xs) h (inr k) e = from-first d y xs (and-true _ (differs d xs) h).1 k e

same-of : (xs : List (List ℕ × List ℕ)) (y z : List ℕ × List ℕ) → all_differ xs ≡ true → In y xs → In z xs → y.1 ≡ z.1 → y.0 ≡ z.0
same-of [] y z h k j e = absurd k
same-of (x ∷ xs) y z h (inl k) (inl j) e = ap (λ (r : List ℕ × List ℕ). r.0) (k ∙ sym j)
same-of (x ∷ xs) y z h (inl k) (inr j) e = absurd (from-first x.1 z xs (and-true (differs x.1 xs) _ h).0 j (ap (λ (r : List ℕ × List ℕ). r.1) (sym k) ∙ e))
same-of (x ∷ xs) y z h (inr k) (inl j) e = absurd (from-first x.1 y xs (and-true (differs x.1 xs) _ h).0 k (ap (λ (r : List ℕ × List ℕ). r.1) (sym j) ∙ sym e))
same-of (x ∷ xs) y z h (inr k) (inr j) e = same-of xs y z (and-true (differs x.1 xs) _ h).1 k j e

-- one of these strings, with its digest
pub record IsOneOf (pairs : List (List ℕ × List ℕ)) (s : List ℕ) : Type 0 where
  pub digest_of : List ℕ
  pub one : In {A = List ℕ × List ℕ} (s, digest_of) pairs
  pub is : digest s ≡ digest_of

pub separate-by : {M : Type 0} (pairs : List (List ℕ × List ℕ)) → all_differ pairs ≡ true → (w : World M) → ((s : List ℕ) → IsString w s → IsOneOf pairs s) → Separate (IsString w)
separate-by pairs apart w of x y k j e =
    let a = of x k in
    let c = of y j in
    same-of pairs (x, a.digest_of) (y, c.digest_of) apart a.one c.one (sym a.is ∙ e ∙ c.is)

-- ---- Strings that are hashed

abbrev pub AreAll : (List ℕ → Type 0) → List (List ℕ) → Type 0
AreAll Is [] = Unit {0}
AreAll Is (s ∷ ss) = Is s × AreAll Is ss

pub each-of : (Is : List ℕ → Type 0) (made ss : List (List ℕ)) → made ≡ ss → AreAll Is ss → (s : List ℕ) → In s made → Is s
each-of Is made ss e all s h = go ss all (subst (λ (z : List (List ℕ)). In s z) e h)
  where
    go : (ss : List (List ℕ)) → AreAll Is ss → In s ss → Is s
    go [] all k = absurd k
    go (t ∷ ts) all (inl e) = subst Is (sym e) all.0
    go (t ∷ ts) all (inr k) = go ts all.1 k
