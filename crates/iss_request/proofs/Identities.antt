-- Equal identities, their positions, and the values that hold batches.
use Rattle.std.proofs.Common.{◌≡◌, ◌∙◌, true, ◌&&◌, ◌||◌, eqb, List, [], ◌∷◌, ◌++◌, refl, ap, arith, ℕ}
use Rattle.std.specs.List.{list_any}
use Rattle.iss_base.proofs.Lists.{and-true, eqb-same, is-eq, or-assoc}
use Rattle.iss_request.specs.Log.{has_id, same_id}
use Rattle.iss_request.specs.declared.ids.ReqId.{ReqId}
use Rattle.iss_request.specs.declared.requests.Batch.{Batch}
use Rattle.iss_request.specs.declared.requests.Value.TheVariants.{Batch as Value_batch}

eqb-flip : (a b : ℕ) → eqb a b ≡ eqb b a
eqb-flip a b = grind arith

pub same_id-flip : (a b : ReqId) → same_id a b ≡ same_id b a
same_id-flip a b = ap (λ t. t && eqb a.number b.number) (eqb-flip a.client b.client)
    ∙ ap (λ t. eqb b.client a.client && t) (eqb-flip a.number b.number)

pub same_id-self : (a : ReqId) → same_id a a ≡ true
same_id-self a = ap (λ t. t && eqb a.number a.number) (eqb-same a.client) ∙ eqb-same a.number

pub same_id-tells : (a b : ReqId) → same_id a b ≡ true → a ≡ b
same_id-tells a b h =
    let k = and-true (eqb a.client b.client) (eqb a.number b.number) h in
    let clients = is-eq a.client b.client k.0 in
    let numbers = is-eq a.number b.number k.1 in
    λ t. record { client = clients t; number = numbers t }

-- a search for an identity is membership
pub any-has_id : (x : ReqId) (xs : List ReqId) → list_any (λ y. same_id x y) xs ≡ has_id x xs
any-has_id x [] = refl
any-has_id x (y ∷ ys) = ap (λ b. same_id x y || b) (any-has_id x ys)

pub has_id-append : (x : ReqId) (xs ys : List ReqId) → has_id x (xs ++ ys) ≡ (has_id x xs || has_id x ys)
has_id-append x [] ys = refl
has_id-append x (z ∷ xs) ys = ap (λ b. same_id x z || b) (has_id-append x xs ys)
    ∙ or-assoc (same_id x z) (has_id x xs) (has_id x ys)

pub holds-injective : (b c : Batch) → Value_batch b ≡ Value_batch c → b ≡ c
holds-injective b c h = cc
