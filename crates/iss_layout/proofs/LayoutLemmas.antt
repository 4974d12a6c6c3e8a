use Rattle.std.proofs.Common.{◌≡◌, ℕ, ◌+◌, ◌%◌, ◌<◌, true, false, cond, List, [], ◌∷◌, ◌++◌, length, take, refl, sym, ap, ◌∙◌, subst, Some, slice_get, slice_set, add-one}
use Rattle.std.proofs.Math.Nat.{mod-add-mod, add-mod-mod}
use Rattle.std.proofs.lemmas.List.{take_more_set}
use Rattle.iss_request.specs.declared.ids.NodeId.{NodeId}
use Rattle.iss_layout.specs.Layout.{Plan, node, nodes_below, leads, bucket_owner, at_turn}

pub rotated_same : (b e n : ℕ) → (b % n + e % n) % n ≡ (b + e) % n
rotated_same b e n = mod-add-mod b n (e % n) ∙ add-mod-mod b e n

pub owner_home : (p : Plan) (b i : ℕ) → i ≡ (b + p.epoch) % p.nodes → leads p i ≡ true → bucket_owner p b ≡ Some (node i)
owner_home p b i e does =
    subst (λ (j : ℕ). cond (leads p j) (Some (node j)) (at_turn p.leaders (b + p.epoch)) ≡ Some (node i)) e (rw does refl)

pub owner_turn : (p : Plan) (b i k : ℕ) (x : NodeId) → i ≡ (b + p.epoch) % p.nodes → leads p i ≡ false
    → k ≡ (b + p.epoch) % length p.leaders → slice_get p.leaders k ≡ Some x → bucket_owner p b ≡ Some x
owner_turn p b i k x e not_home turn here =
    subst (λ (j : ℕ). cond (leads p j) (Some (node j)) (at_turn p.leaders (b + p.epoch)) ≡ Some x) e
    (rw not_home (subst (λ (j : ℕ). slice_get p.leaders j ≡ Some x) turn here))

pub leaders_more : (ls : List NodeId) (i : ℕ) → i < length ls → take i ls ≡ nodes_below i
    → take (i + 1) (slice_set ls i (node i)) ≡ nodes_below (i + 1)
leaders_more ls i within so_far =
    take_more_set ls i (node i) within ∙ ap (λ xs. xs ++ node i ∷ []) so_far ∙ ap nodes_below (sym (add-one i))
