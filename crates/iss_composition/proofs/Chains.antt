-- Chains of digests: if no strings collide, equal chain digests are of equal logs.
use Rattle.std.proofs.Common.{◌≡◌, inl, inr, ℕ, List, [], ◌∷◌, ◌++◌, length, refl, sym, ap, ap₂, ◌∙◌, subst}
use Rattle.std.proofs.lemmas.Bool.Decides.{leb_tells}
use Rattle.iss_base.specs.Lists.{Extends, In, oldest}
use Rattle.iss_base.proofs.Lists.{in_right}
use Rattle.iss_request.specs.Digest.{digest}
use Rattle.iss_request.specs.declared.requests.Value.{Value}
use Rattle.iss_sb.specs.Evidence.{Separate}
use Rattle.iss_composition.specs.Cluster.{AllSpelled, IsHashedLog, Scheme, chain, chain_strings}
use Rattle.iss_composition.specs.Ordered.{Among, AreChained}

-- each chain is a digest
chain-digest : (S : Scheme) (a : List Value) → (x : List ℕ) × (chain S a ≡ digest x)
chain-digest S [] = ([], refl)
chain-digest S (v ∷ a) = (S.link (chain S a) (digest (S.spelled v)), refl)

links-apart : (S : Scheme) → AreChained S → (a b : List Value) (x y : List ℕ) → S.link (chain S a) (digest x) ≡ S.link (chain S b) (digest y) →
    (chain S a ≡ chain S b) × (digest x ≡ digest y)
links-apart S exact a b x y h =
    let da = chain-digest S a in
    let db = chain-digest S b in
    let k = exact.links da.0 x db.0 y (sym (ap (λ t. S.link t (digest x)) da.1) ∙ h ∙ ap (λ t. S.link t (digest y)) db.1) in
    (da.1 ∙ k.0 ∙ sym db.1, k.1)

pub chain-injective : (S : Scheme) → AreChained S → (all : List (List ℕ)) → Separate (Among all) → In {A = List ℕ} [] all → (a b : List Value) →
    AllSpelled S a → AllSpelled S b → IsHashedLog S all a → IsHashedLog S all b → chain S a ≡ chain S b → a ≡ b
chain-injective S exact all sep root [] [] sa sb ia ib h = refl
chain-injective S exact all sep root [] (u ∷ b) sa sb ia ib h = absurd (exact.some_link _ _ (sep [] _ root (ib _ (inr (inl refl))) h))
chain-injective S exact all sep root (v ∷ a) [] sa sb ia ib h = absurd (exact.some_link _ _ (sep [] _ root (ia _ (inr (inl refl))) (sym h)))
chain-injective S exact all sep root (v ∷ a) (u ∷ b) sa sb ia ib h =
    let links : S.link (chain S a) (digest (S.spelled v)) ≡ S.link (chain S b) (digest (S.spelled u)) =
    sep _ _ (ia _ (inr (inl refl))) (ib _ (inr (inl refl))) h in
    let apart : (chain S a ≡ chain S b) × (digest (S.spelled v) ≡ digest (S.spelled u)) = links-apart S exact a b (S.spelled v) (S.spelled u) links in
    let tails : a ≡ b = chain-injective S exact all sep root a b (λ x i. sa x (inr i)) (λ x i. sb x (inr i)) (λ x i. ia x (inr (inr i)))
    (λ x i. ib x (inr (inr i))) apart.0 in
    let heads : v ≡ u = exact.values v u (sa v (inl refl)) (sb u (inl refl)) (sep _ _ (ia _ (inl refl)) (ib _ (inl refl)) apart.1) in
    ap₂ (λ x xs. x ∷ xs) heads tails

-- what holds of a log holds of its prefixes
strings-older : (S : Scheme) (newer log : List Value) (x : List ℕ) → In x (chain_strings S log) → In x (chain_strings S (newer ++ log))
strings-older S [] log x h = h
strings-older S (v ∷ newer) log x h = inr (inr (strings-older S newer log x h))

pub hashed-older : (S : Scheme) (all : List (List ℕ)) (log whole : List Value) → Extends log whole → IsHashedLog S all whole → IsHashedLog S all log
hashed-older S all log whole p h x i = h x (subst (λ (ys : List Value). In x (chain_strings S ys)) (sym p.1) (strings-older S p.0 log x i))

pub spelled-older : (S : Scheme) (log whole : List Value) → Extends log whole → AllSpelled S whole → AllSpelled S log
spelled-older S log whole p h v i = h v (subst (λ (ys : List Value). In v ys) (sym p.1) (in_right v p.0 log i))

pub strings-oldest : (S : Scheme) (n : ℕ) (xs : List Value) (x : List ℕ) → In x (chain_strings S (oldest n xs)) → In x (chain_strings S xs)
strings-oldest S n [] x h = h
strings-oldest S n (v ∷ xs) x h = elim (leb_tells n (length xs)) [ inl t ↦ inr (inr (strings-oldest S n xs x (rw t.0 at h))) | inr t ↦ rw t.0 at h ]

pub spelled-oldest : (S : Scheme) (n : ℕ) (xs : List Value) → AllSpelled S xs → AllSpelled S (oldest n xs)
spelled-oldest S n [] h = h
spelled-oldest S n (v ∷ xs) h = elim (leb_tells n (length xs)) [ inl t ↦ rw t.0 (spelled-oldest S n xs (λ x i. h x (inr i))) | inr t ↦ rw t.0 h ]
