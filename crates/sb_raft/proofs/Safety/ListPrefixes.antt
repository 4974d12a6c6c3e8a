-- Prefixes of lists.
use Rattle.std.proofs.Common.{◌≡◌, ◌≤◌, Bool, cond, List, [], ◌∷◌, ◌++◌, length, arith, refl, inl, inr, ◌⊎◌, sym, ◌∙◌, subst, ap}
use Rattle.std.proofs.lemmas.Bool.{eq-eqb}
use Rattle.iss_base.specs.Lists.{In}
use Rattle.iss_base.proofs.Lists.{in_right}
use Rattle.raft_wire.specs.declared.entries.Entry.{Entry}
use Rattle.sb_raft.specs.Logs.{merge}
use Rattle.sb_raft.proofs.Safety.LogPrefixes.{Prefix}

pub pre_refl : {A : Type 0} (a : List A) → Prefix a a
pre_refl [] = tt
pre_refl (x ∷ xs) = (refl, pre_refl xs)

pub pre_trans : {A : Type 0} (a b c : List A) → Prefix a b → Prefix b c → Prefix a c
pre_trans [] b c h g = tt
pre_trans (x ∷ a) [] c h g = elim h [ ]
pre_trans (x ∷ a) (y ∷ b) [] h g = elim g [ ]
pre_trans (x ∷ a) (y ∷ b) (z ∷ c) h g = (h.0 ∙ g.0, pre_trans a b c h.1 g.1)

pub pre_compare : {A : Type 0} (a b c : List A) → Prefix a c → Prefix b c → Prefix a b ⊎ Prefix b a
pre_compare [] b c h g = inl tt
pre_compare (x ∷ a) [] c h g = inr tt
pre_compare (x ∷ a) (y ∷ b) [] h g = elim h [ ]
pre_compare (x ∷ a) (y ∷ b) (z ∷ c) h g = elim (pre_compare a b c h.1 g.1) [
  | inl k ↦ inl (h.0 ∙ sym g.0, k)
  | inr k ↦ inr (g.0 ∙ sym h.0, k)
]

pub pre_append : {A : Type 0} (a b : List A) → Prefix a (a ++ b)
pre_append [] b = tt
pre_append (x ∷ a) b = (refl, pre_append a b)

pub pre_rest : {A : Type 0} (a b : List A) → Prefix a b → (r : List A) × (b ≡ a ++ r)
pre_rest [] b h = (b, refl)
pre_rest (x ∷ a) [] h = elim h [ ]
pre_rest (x ∷ a) (y ∷ b) h = let r = pre_rest a b h.1 in (r.0, let e = r.1 in let f = h.0 in cc)

pub pre_short : {A : Type 0} (a b : List A) → Prefix a b → length b ≤ length a → Prefix b a
pre_short [] [] h l = tt
pre_short [] (y ∷ b) h l = absurd (omega arith)
pre_short (x ∷ a) [] h l = tt
pre_short (x ∷ a) (y ∷ b) h l = (sym h.0, pre_short a b h.1 (omega arith))

pub pre_length : {A : Type 0} (a b : List A) → Prefix a b → length a ≤ length b
pre_length [] b h = omega arith
pre_length (x ∷ a) [] h = elim h [ ]
pre_length (x ∷ a) (y ∷ b) h = let r = pre_length a b h.1 in omega arith

pub pre_in : {A : Type 0} (x : A) (a b : List A) → Prefix a b → In x a → In x b
pre_in x [] b h i = elim i [ ]
pre_in x (y ∷ a) [] h i = elim h [ ]
pre_in x (y ∷ a) (z ∷ b) h (inl e) = inl (e ∙ h.0)
pre_in x (y ∷ a) (z ∷ b) h (inr i) = inr (pre_in x a b h.1 i)

-- equal elements at equal places
pub same_split : {A : Type 0} (P Q : List A) (x y : A) (a b : List A) → P ++ (x ∷ a) ≡ Q ++ (y ∷ b) → length P ≡ length Q → (P ≡ Q) × (x ≡ y)
same_split [] [] x y a b h l = (refl, cc)
same_split [] (q ∷ Q) x y a b h l = absurd (omega arith)
same_split (p ∷ P) [] x y a b h l = absurd (omega arith)
same_split (p ∷ P) (q ∷ Q) x y a b h l =
    let e : p ≡ q = cc in
    let t : P ++ (x ∷ a) ≡ Q ++ (y ∷ b) = cc in
    let r = same_split P Q x y a b t (omega arith) in
    (let f = r.0 in cc, r.1)

-- an element of a concatenation
pub split_cases : {A : Type 0} (P : List A) (x : A) (xs a b : List A) → a ++ b ≡ P ++ (x ∷ xs) → ((ys : List A) × (a ≡ P ++ (x ∷ ys))) ⊎ In x b
split_cases [] x xs [] b h = inr (subst (λ (z : List _). In x z) (sym h) (inl refl))
split_cases [] x xs (y ∷ a) b h = inl (a, let e : y ≡ x = cc in cc)
split_cases (p ∷ P) x xs [] b h = inr (subst (λ (z : List _). In x z) (sym h) (inr (in_right x P (x ∷ xs) (inl refl))))
split_cases (p ∷ P) x xs (y ∷ a) b h =
    let t : a ++ b ≡ P ++ (x ∷ xs) = cc in
    let e : y ≡ p = cc in
    elim (split_cases P x xs a b t) [
      | inl r ↦ inl (r.0, let f = r.1 in cc)
      | inr i ↦ inr i
    ]

pub last_of : {A : Type 0} (x : A) (xs : List A) → (P : List A) × (y : A) × (x ∷ xs ≡ P ++ (y ∷ []))
last_of x [] = ([], x, refl)
last_of x (z ∷ zs) = let r = last_of z zs in (x ∷ r.0, r.1, ap (λ (w : List _). x ∷ w) r.2)

pub merge_front : (es r : List Entry) → merge (es ++ r) es ≡ es ++ r
merge_front [] [] = refl
merge_front [] (x ∷ r) = refl
merge_front (e ∷ es) r = ap (λ (b : Bool). cond b (e ∷ merge (es ++ r) es) (e ∷ es)) (eq-eqb e.term e.term refl) ∙ ap (λ (w : List Entry). e ∷ w) (merge_front es r)
