-- The blacklist excludes at most f nodes: of the listed nodes one has the least worst slot, and all of them have one as
-- late.
use Rattle.std.proofs.Common.{◌≡◌, ◌⊎◌, inl, inr, ⊎_elim, ℕ, ◌+◌, ◌≤◌, Bool, true, false, cond, not, nat_lt, nat_le, List, [], ◌∷◌, length, refl, sym, ap, ◌∙◌, subst, arith}
use Rattle.std.proofs.lemmas.Bool.{cases_Bool}
use Rattle.std.proofs.lemmas.Bool.Decides.{nat_tests}
use Rattle.std.proofs.lemmas.List.Filters.{length-filter_both}
use Rattle.std.proofs.lemmas.List.Sums.{length-filter}
use Rattle.std.specs.List.{count_by, filter}
use Rattle.iss_base.specs.Lists.{In}
use Rattle.iss_base.proofs.Lists.{and-true}
use Rattle.iss_request.specs.declared.ids.NodeId.{NodeId}
use Rattle.iss_request.specs.declared.setups.Policy.TheVariants.{Blacklist}
use Rattle.iss_request.specs.declared.setups.Setup.{Setup}
use Rattle.iss_layout.specs.Layout.{Conduct, is_listed, leaders_by, nodes_below, or_else}
use Rattle.iss_layout.proofs.FairLemmas.{length_below}

fewer : (t u : NodeId → Bool) (xs : List NodeId) → ((x : NodeId) → In x xs → t x ≡ true → u x ≡ true) → length (filter t xs) ≤ length (filter u xs)
fewer t u [] h = omega arith
fewer t u (x ∷ xs) h = go (t x) refl (u x) refl (fewer t u xs (λ y i. h y (inr i)))
  where
    go : (a : Bool) → t x ≡ a → (b : Bool) → u x ≡ b → length (filter t xs) ≤ length (filter u xs) → length (cond a (x ∷ filter t xs) (filter t xs)) ≤ length (cond b (x ∷ filter u xs) (filter u xs))
    go true a true b le = omega (arith, le)
    go true a false b le = absurd (let bad : true ≡ false = sym (h x (inl refl) a) ∙ b in cc)
    go false a true b le = omega (arith, le)
    go false a false b le = le

none_filtered : (t : NodeId → Bool) (xs : List NodeId) → ((x : NodeId) → In x xs → t x ≡ false) → length (filter t xs) ≡ 0
none_filtered t [] h = refl
none_filtered t (x ∷ xs) h = rw (h x (inl refl)) (none_filtered t xs (λ y i. h y (inr i)))

-- one that passes, with no lesser one that passes
pub record Least (t : NodeId → Bool) (w : NodeId → ℕ) (xs : List NodeId) : Type 0 where
  pub least : NodeId
  pub passes : t least ≡ true
  pub before : (x : NodeId) → In x xs → t x ≡ true → w least ≤ w x

least_of : (t : NodeId → Bool) (w : NodeId → ℕ) (xs : List NodeId) → ((x : NodeId) → In x xs → t x ≡ false) ⊎ Least t w xs
least_of t w [] = inl (λ x i. absurd i)
least_of t w (y ∷ ys) = go (cases_Bool (t y)) (least_of t w ys)
  where
    at : (k : NodeId) (bound : (x : NodeId) → In x ys → t x ≡ true → w k ≤ w x) → w k ≤ w y → (x : NodeId) → In x (y ∷ ys) → t x ≡ true → w k ≤ w x
    at k bound le x i h = ⊎_elim (λ (e : x ≡ y). subst (λ (z : NodeId). w k ≤ w z) (sym e) le) (λ (later : In x ys). bound x later h) i

    lower : (l : Least t w ys) → t y ≡ true → (w l.least ≤ w y) ⊎ (w y ≤ w l.least) → Least t w (y ∷ ys)
    lower l here (inl le) = record { least = l.least; passes = l.passes; before = at l.least l.before le }
    lower l here (inr le) = record {
      least = y;
      passes = here;
      before = at y (λ x i h. let b = l.before x i h in omega (arith, b, le)) (omega arith);
    }

    order : (a b : ℕ) → (a ≤ b) ⊎ (b ≤ a)
    order a b = grind arith

    go : (t y ≡ true) ⊎ (t y ≡ false) → ((x : NodeId) → In x ys → t x ≡ false) ⊎ Least t w ys → ((x : NodeId) → In x (y ∷ ys) → t x ≡ false) ⊎ Least t w (y ∷ ys)
    go (inl here) (inl none) = inr (record {
      least = y;
      passes = here;
      before = at y (λ x i h. absurd (let bad : true ≡ false = sym h ∙ none x i in cc)) (omega arith);
    })
    go (inl here) (inr l) = inr (lower l here (order (w l.least) (w y)))
    go (inr not_y) (inl none) = inl (λ x i. ⊎_elim (λ (e : x ≡ y). ap t e ∙ not_y) (λ (later : In x ys). none x later) i)
    go (inr not_y) (inr l) = inr (record {
      least = l.least;
      passes = l.passes;
      before = λ x i h. ⊎_elim (λ (e : x ≡ y). absurd (let bad : true ≡ false = sym h ∙ ap t e ∙ not_y in cc)) (λ (later : In x ys). l.before x later h) i;
    })

le_of : (a b : ℕ) → nat_le a b ≡ true → a ≤ b
le_of a b h = grind (arith, nat_tests)

of_le : (a b : ℕ) → a ≤ b → nat_le a b ≡ true
of_le a b h = grind (arith, nat_tests)

few_listed : (s : Setup) (c : ℕ → Conduct) → length (filter (is_listed s c) (nodes_below s.n)) ≤ s.f
few_listed s c = go (least_of (is_listed s c) (λ j. (c j.0).worst) (nodes_below s.n))
  where
    go : ((x : NodeId) → In x (nodes_below s.n) → is_listed s c x ≡ false) ⊎ Least (is_listed s c) (λ j. (c j.0).worst) (nodes_below s.n) → length (filter (is_listed s c) (nodes_below s.n)) ≤ s.f
    go (inl none) = let e = none_filtered (is_listed s c) (nodes_below s.n) none in omega (arith, e)
    go (inr l) =
        let as_great : NodeId → Bool = λ j. nat_le (c l.least.0).worst (c j.0).worst in
        let few = le_of (count_by as_great (nodes_below s.n)) s.f (and-true (nat_lt 0 (c l.least.0).worst) (nat_le (count_by as_great (nodes_below s.n)) s.f) l.passes).1 in
        let all = fewer (is_listed s c) as_great (nodes_below s.n) (λ x i h. of_le (c l.least.0).worst (c x.0).worst (l.before x i h)) in
        let same = length-filter as_great (nodes_below s.n) in
        omega (arith, few, all, same)

more_than_none : (xs all : List NodeId) → length xs ≤ length all → length xs ≤ length (or_else xs all)
more_than_none [] all le = omega arith
more_than_none (x ∷ xs) all le = omega arith

pub few_left : (s : Setup) (c : ℕ → Conduct) → s.policy ≡ Blacklist → s.n ≤ length (leaders_by s c) + s.f
few_left s c is =
    let free : NodeId → Bool = λ i. not (is_listed s c i) in
    let parts = length-filter_both (is_listed s c) free (λ i. refl) (nodes_below s.n) in
    let listed = few_listed s c in
    let long = length_below s.n in
    let lead = more_than_none (filter free (nodes_below s.n)) (nodes_below s.n) (omega (arith, parts)) in
    rw is (omega (arith, parts, listed, long, lead))
