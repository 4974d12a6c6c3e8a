-- What stays of entries, oldest first, is what stays of them newest first: the newest entry, and of the others the
-- snapshots if it is one.
use Rattle.std.proofs.Common.{◌≡◌, ℕ, Bool, true, false, cond, List, [], ◌∷◌, ◌++◌, reverse, refl, ap, ◌∙◌}
use Rattle.std.specs.List.{filter}
use Rattle.std.proofs.lemmas.List.{reverse-append}
use Rattle.std.proofs.lemmas.List.Elements.{filter-append}
use Rattle.iss_journal.proofs.Retaining.{retained-next}
use Rattle.iss_journal.specs.Retained.{is_snapshot, retained}

abbrev pub newest_stay : List (List ℕ) → List (List ℕ)
newest_stay [] = []
newest_stay (x ∷ xs) = x ∷ cond (is_snapshot x) (filter is_snapshot xs) (newest_stay xs)

turned : (x : List ℕ) (xs : List (List ℕ)) → reverse (x ∷ xs) ≡ reverse xs ++ x ∷ []
turned x xs = reverse-append (x ∷ []) xs

pub turned-last : (xs : List (List ℕ)) (x : List ℕ) → reverse (xs ++ x ∷ []) ≡ x ∷ reverse xs
turned-last xs x = reverse-append xs (x ∷ [])

turned-filter : (xs : List (List ℕ)) → reverse (filter is_snapshot (reverse xs)) ≡ filter is_snapshot xs
turned-filter [] = refl
turned-filter (x ∷ xs) =
    ap (λ (t : List (List ℕ)). reverse (filter is_snapshot t)) (turned x xs)
    ∙ (ap (λ (t : List (List ℕ)). reverse t) (filter-append is_snapshot (reverse xs) (x ∷ []))
    ∙ go (is_snapshot x) (turned-filter xs))
  where
    go : (b : Bool) → reverse (filter is_snapshot (reverse xs)) ≡ filter is_snapshot xs →
        reverse (filter is_snapshot (reverse xs) ++ cond b (x ∷ []) []) ≡ cond b (x ∷ filter is_snapshot xs) (filter is_snapshot xs)
    go true ih = turned-last (filter is_snapshot (reverse xs)) x ∙ ap (λ (t : List (List ℕ)). x ∷ t) ih
    go false ih = reverse-append (filter is_snapshot (reverse xs)) [] ∙ ih

pub stays-turned : (xs : List (List ℕ)) → reverse (retained (reverse xs)) ≡ newest_stay xs
stays-turned [] = refl
stays-turned (x ∷ xs) =
    ap (λ (t : List (List ℕ)). reverse (retained t)) (turned x xs)
    ∙ (ap (λ (t : List (List ℕ)). reverse t) (retained-next (reverse xs) x)
    ∙ (turned-last (cond (is_snapshot x) (filter is_snapshot (reverse xs)) (retained (reverse xs))) x
    ∙ ap (λ (t : List (List ℕ)). x ∷ t) (go (is_snapshot x) (stays-turned xs))))
  where
    go : (b : Bool) → reverse (retained (reverse xs)) ≡ newest_stay xs →
        reverse (cond b (filter is_snapshot (reverse xs)) (retained (reverse xs))) ≡ cond b (filter is_snapshot xs) (newest_stay xs)
    go true ih = turned-filter xs
    go false ih = ih
