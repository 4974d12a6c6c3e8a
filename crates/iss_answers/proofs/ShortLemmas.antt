-- The least open identity of a list of replies.
use Rattle.std.proofs.Common.{◌≡◌, inl, inr, ◌⊎◌, ℕ, ◌<◌, ◌+◌, true, false, true≢false, List, [], ◌∷◌, ◌++◌, reverse, Option, Some, None, refl, sym, ap, ◌∙◌, subst, arith}
use Rattle.std.proofs.lemmas.Bool.{false_from_ne_true}
use Rattle.std.proofs.lemmas.List.{reverse-append}
use Rattle.iss_base.specs.Lists.{In}
use Rattle.iss_base.proofs.Lists.{in_append}
use Rattle.iss_request.specs.declared.ids.ReqId.{ReqId}
use Rattle.iss_reply.specs.Clients.{Cluster, counted, is_open, is_open_after, stated_to}
use Rattle.iss_reply.specs.declared.clients.Stated.{Stated}
use Rattle.iss_reply.specs.declared.replies.Reply.{Reply}
use Rattle.iss_reply.proofs.ClientLemmas.{counted-sound, who-stated}
use Rattle.iss_answers.specs.Internal.Short.{IsLeastOf, IsLesser, IsWithOpen}
use Rattle.iss_answers.specs.Printed.{IsShort, IsUpTo}

-- ---- order

pub up-or-down : (a b : ReqId) → (IsUpTo a b → ⊥) → IsUpTo b a
up-or-down a b never = go (compare a.client b.client) (compare a.number b.number)
  where
    compare : (m n : ℕ) → (m < n) ⊎ ((m ≡ n) ⊎ (n < m))
    compare m n = grind arith

    go : (a.client < b.client) ⊎ ((a.client ≡ b.client) ⊎ (b.client < a.client)) → (a.number < b.number) ⊎ ((a.number ≡ b.number) ⊎ (b.number < a.number)) → IsUpTo b a
    go (inl lt) n = absurd (never (inl lt))
    go (inr (inr lt)) n = inl lt
    go (inr (inl same)) (inl lt) = absurd (never (inr (same, omega (arith, lt))))
    go (inr (inl same)) (inr (inl e)) = absurd (never (inr (same, omega (arith, e))))
    go (inr (inl same)) (inr (inr lt)) = inr (sym same, omega (arith, lt))

up-through : (a b c : ReqId) → IsUpTo a b → IsUpTo b c → IsUpTo a c
up-through a b c (inl h) (inl k) = inl (omega (arith, h, k))
up-through a b c (inl h) (inr k) = inl (omega (arith, h, k.0))
up-through a b c (inr h) (inl k) = inl (omega (arith, h.0, k))
up-through a b c (inr h) (inr k) = inr (h.0 ∙ k.0, omega (arith, h.1, k.1))

up-same : (a : ReqId) → IsUpTo a a
up-same a = inr (refl, omega arith)

-- ---- one reply more

one-of : (x y : Reply) → In x (y ∷ []) → x ≡ y
one-of x y (inl e) = e
one-of x y (inr h) = absurd h

not-open : (c : Cluster) (all seen : List Reply) (r : Reply) (least : Option ReqId) → IsLeastOf c all seen least → is_open_after c all r.id ≡ false → IsLeastOf c all (seen ++ r ∷ []) least
not-open c all seen r None h never = λ x there. elim (in_append x seen (r ∷ []) there) [
  | inl i ↦ h x i
  | inr i ↦ ap (λ (y : Reply). is_open_after c all y.id) (one-of x r i) ∙ never
]
not-open c all seen r (Some least) h never = (
  h.0,
  λ x there is. elim (in_append x seen (r ∷ []) there) [
    | inl i ↦ h.1 x i is
    | inr i ↦ absurd (true≢false (sym is ∙ ap (λ (y : Reply). is_open_after c all y.id) (one-of x r i) ∙ never))
  ],
)

up-to-one : (least : ReqId) (x r : Reply) → IsUpTo least r.id → In x (r ∷ []) → IsUpTo least x.id
up-to-one least x r h i = subst (λ (y : Reply). IsUpTo least y.id) (sym (one-of x r i)) h

is-open : (c : Cluster) (all seen : List Reply) (r : Reply) (least new : Option ReqId) → IsLeastOf c all seen least → is_open_after c all r.id ≡ true → IsLesser least r.id new → IsLeastOf c all (seen ++ r ∷ []) new
is-open c all seen r None new h open-now less = subst (IsLeastOf c all (seen ++ r ∷ [])) (sym less) (
  open-now,
  λ x there is. elim (in_append x seen (r ∷ []) there) [
    | inl i ↦ absurd (true≢false (sym is ∙ h x i))
    | inr i ↦ up-to-one r.id x r (up-same r.id) i
  ],
)
is-open c all seen r (Some least) new h open-now (inl less) = subst (IsLeastOf c all (seen ++ r ∷ [])) (sym less.0) (
  h.0,
  λ x there is. elim (in_append x seen (r ∷ []) there) [
    | inl i ↦ h.1 x i is
    | inr i ↦ up-to-one least x r less.1 i
  ],
)
is-open c all seen r (Some least) new h open-now (inr less) = subst (IsLeastOf c all (seen ++ r ∷ [])) (sym less.0) (
  open-now,
  λ x there is. elim (in_append x seen (r ∷ []) there) [
    | inl i ↦ up-through r.id least x.id less.1 (h.1 x i is)
    | inr i ↦ up-to-one r.id x r (up-same r.id) i
  ],
)

pub least-more : (c : Cluster) (all seen more : List Reply) (r : Reply) (least new : Option ReqId) → IsLeastOf c all seen least → more ≡ seen ++ r ∷ [] → IsWithOpen c all least r.id new → IsLeastOf c all more new
least-more c all seen more r least new h is (inl w) =
    subst (λ (s : List Reply). IsLeastOf c all s new) (sym is)
    (subst (IsLeastOf c all (seen ++ r ∷ [])) (sym w.1) (not-open c all seen r least h w.0))
least-more c all seen more r least new h is (inr w) =
    subst (λ (s : List Reply). IsLeastOf c all s new) (sym is) (is-open c all seen r least new h w.0 w.1)

-- ---- all replies

in-reverse : {A : Type 0} (x : A) (xs : List A) → In x (reverse xs) → In x xs
in-reverse x [] h = h
in-reverse {A} x (y ∷ ys) h = elim (in_append x (reverse ys) (y ∷ []) (subst (In x) (reverse-append (y ∷ []) ys) h)) [
  | inl i ↦ inr (in-reverse x ys i)
  | inr i ↦ last i
]
  where
    last : In x (y ∷ []) → In x (y ∷ ys)
    last (inl e) = inl e
    last (inr i) = absurd i

-- the reply whose identity is open
record IsOf (rs : List Reply) (id : ReqId) : Type 0 where
  reply : Reply
  there : In reply rs
  own : reply.id ≡ id

open-from : (c : Cluster) (rs : List Reply) (id : ReqId) → is_open_after c rs id ≡ true → IsOf rs id
open-from c rs id is = go (stated_to id (counted c rs)) refl is
  where
    go : (all : List Stated) → stated_to id (counted c rs) ≡ all → is_open c.f all ≡ true → IsOf rs id
    go [] at h = absurd (true≢false (sym h))
    go (b ∷ bs) at h =
        let from = who-stated id (counted c rs) b (subst (In b) (sym at) (inl refl)) in
        record { reply = from.reply; there = (counted-sound c rs from.reply from.there).taken; own = from.own }

pub least-is-short : (c : Cluster) (replies : List Reply) (least : Option ReqId) → IsLeastOf c (reverse replies) replies least → IsShort c (reverse replies) least
least-is-short c replies None h = λ id. false_from_ne_true (is_open_after c (reverse replies) id) (λ is.
    let from = open-from c (reverse replies) id is in
    true≢false (sym is ∙ ap (is_open_after c (reverse replies)) (sym from.own) ∙ h from.reply (in-reverse from.reply replies from.there)))
least-is-short c replies (Some least) h = (
  h.0,
  λ id is.
      let from = open-from c (reverse replies) id is in
      subst (λ (i : ReqId). IsUpTo least i) from.own
      (h.1 from.reply (in-reverse from.reply replies from.there) (subst (λ (i : ReqId). is_open_after c (reverse replies) i ≡ true) (sym from.own) is)),
)
