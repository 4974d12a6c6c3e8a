-- Batches that were accepted at a slot, compared byte by byte.
use Rattle.std.proofs.Common.{◌≡◌, ℕ, ◌==◌, ◌&&◌, ◌||◌, Bool, true, false, List, [], ◌∷◌, Option, Some, None, refl, sym, ap, subst, true≢false, inl, inr}
use Rattle.iss_base.specs.Lists.{In, nth, same_bytes}
use Rattle.iss_base.proofs.Lists.{and-true, nth-in, same_bytes-is, some-injective}
use Rattle.iss_request.specs.declared.ids.Slot.{Slot}
use Rattle.iss_request.specs.declared.requests.Batch.{Batch}
use Rattle.iss_request.specs.declared.requests.Request.{Request}
use Rattle.hs_views.specs.Batches.{same_batch, same_request, unless_accepted, was_accepted}
use Rattle.hs_views.proofs.Tests.{if-not, is-same}

pub same_request-is : (a b : Request) → same_request a b ≡ true → a ≡ b
same_request-is a b h =
    let t = and-true ((a.id.client == b.id.client) && (a.id.number == b.id.number)) _ h in
    let u = and-true (a.id.client == b.id.client) (a.id.number == b.id.number) t.0 in
    let v = and-true (same_bytes a.payload b.payload) (same_bytes a.sig b.sig) t.1 in
    let c = is-same a.id.client b.id.client u.0 in
    let n = is-same a.id.number b.id.number u.1 in
    let q = same_bytes-is a.payload b.payload v.0 in
    let s = same_bytes-is a.sig b.sig v.1 in
    λ t. record { id = record { client = c t; number = n t }; payload = q t; sig = s t }

pub same_batch-is : (a b : List Request) → same_batch a b ≡ true → a ≡ b
same_batch-is [] [] h = refl
same_batch-is [] (y ∷ ys) h = absurd (true≢false (sym h))
same_batch-is (x ∷ xs) [] h = absurd (true≢false (sym h))
same_batch-is (x ∷ xs) (y ∷ ys) h =
    let t = and-true (same_request x y) (same_batch xs ys) h in
    let e = same_request-is x y t.0 in
    let r = same_batch-is xs ys t.1 in
    cc

pub was-In : (s : Slot) (b : Batch) (old : List (Slot × Batch)) → was_accepted s.0 b old ≡ true → In {A = Slot × Batch} (s, b) old
was-In s b [] h = absurd (true≢false (sym h))
was-In s b (a ∷ old) h = go ((a.0.0 == s.0) && same_batch a.1 b) refl h (was-In s b old)
  where
    go : (t : Bool) → ((a.0.0 == s.0) && same_batch a.1 b) ≡ t → (t || was_accepted s.0 b old) ≡ true → (was_accepted s.0 b old ≡ true → In {A = Slot × Batch} (s, b) old) → In {A = Slot × Batch} (s, b) (a ∷ old)
    go true q e more =
        let t = and-true (a.0.0 == s.0) (same_batch a.1 b) q in
        let n = is-same a.0.0 s.0 t.0 in
        let c = same_batch-is a.1 b t.1 in
        inl (λ i. (record { 0 = sym n i }, sym c i))
    go false q e more = inr (more e)

pub record IsOffered (o : Option Slot) (c : Batch) (s : Slot) (b : Batch) : Type 0 where
  pub slot : o ≡ Some s
  pub batch : c ≡ b

pub unless-is : (old : List (Slot × Batch)) (c : Batch) (o : Option Slot) (s : Slot) (b : Batch) → unless_accepted old c o ≡ Some (s, b) → IsOffered o c s b
unless-is old c None s b h = absurd cc
unless-is old c (Some t) s b h =
    let e = some-injective {A = Slot × Batch} (t, c) (s, b) (if-not (was_accepted t.0 c old) (Some (t, c)) (s, b) h) in
    let slots : t ≡ s = ap (λ (z : Slot × Batch). z.0) e in
    record { slot = ap (λ (z : Slot). Some z) slots; batch = ap (λ (z : Slot × Batch). z.1) e }

pub unless-In : (old : List (Slot × Batch)) (b : Batch) (slots : List Slot) (k : ℕ) (x : Slot × Batch) → unless_accepted old b (nth slots k) ≡ Some x → In x.0 slots
unless-In old b slots k x h = go (nth slots k) refl h
  where
    go : (o : Option Slot) → nth slots k ≡ o → unless_accepted old b o ≡ Some x → In x.0 slots
    go None q e = absurd cc
    go (Some s) q e =
        let same : Some (s, b) ≡ Some x = if-not (was_accepted s.0 b old) (Some (s, b)) x e in
        let slot : s ≡ x.0 = cc in
        subst (λ (z : Slot). In z slots) slot (nth-in slots k s q)
