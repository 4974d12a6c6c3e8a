-- What stays of entries suffices for later ones: of it and later entries stays what stays of all. The entries that stay
-- are the snapshots, and those behind the last one.
use Rattle.std.proofs.Common.{◌≡◌, ℕ, ◌||◌, Bool, true, false, not, cond, List, [], ◌∷◌, ◌++◌, refl, sym, ap, ap₂, ◌∙◌}
use Rattle.std.specs.List.{filter}
use Rattle.std.proofs.lemmas.List.{append-nil}
use Rattle.iss_journal.specs.Retained.{behind, has_snapshot, is_snapshot, retained}

or-group : (a b c : Bool) → ((a || b) || c) ≡ (a || (b || c))
or-group true b c = refl
or-group false b c = refl

pub has-append : (xs ys : List (List ℕ)) → has_snapshot (xs ++ ys) ≡ (has_snapshot xs || has_snapshot ys)
has-append [] ys = refl
has-append (x ∷ xs) ys =
    ap (λ (b : Bool). is_snapshot x || b) (has-append xs ys)
    ∙ sym (or-group (is_snapshot x) (has_snapshot xs) (has_snapshot ys))

-- of entries of which none is a snapshot, all stay
pub none-dropped : (xs : List (List ℕ)) → has_snapshot xs ≡ false → retained xs ≡ xs
none-dropped [] h = refl
none-dropped (x ∷ xs) h = go (is_snapshot x) (has_snapshot xs) h (none-dropped xs)
  where
    go : (a b : Bool) → (a || b) ≡ false → (b ≡ false → retained xs ≡ xs) →
        cond (a || not b) (x ∷ retained xs) (retained xs) ≡ x ∷ xs
    go true b h ih = absurd (cc)
    go false true h ih = absurd (cc)
    go false false h ih = ap (λ (t : List (List ℕ)). x ∷ t) (ih refl)

pub has-retained : (xs : List (List ℕ)) → has_snapshot (retained xs) ≡ has_snapshot xs
has-retained [] = refl
has-retained (x ∷ xs) = go (is_snapshot x) refl (has_snapshot xs) (has-retained xs)
  where
    go : (a : Bool) → is_snapshot x ≡ a → (b : Bool) → has_snapshot (retained xs) ≡ b →
        has_snapshot (cond (a || not b) (x ∷ retained xs) (retained xs)) ≡ (a || b)
    go true q b ih = ap (λ (z : Bool). z || has_snapshot (retained xs)) q
    go false q true ih = ih
    go false q false ih = ap₂ (λ (y z : Bool). y || z) q ih

-- a step of `retained`
abbrev row : List ℕ → Bool → List (List ℕ) → List (List ℕ)
row x has rest = cond (is_snapshot x || not has) (x ∷ rest) rest

pub retained-again : (xs ys : List (List ℕ)) → retained (retained xs ++ ys) ≡ retained (xs ++ ys)
retained-again [] ys = refl
retained-again (x ∷ xs) ys = go (is_snapshot x) refl (has_snapshot xs) refl (retained-again xs ys)
  where
    same : has_snapshot (retained xs ++ ys) ≡ has_snapshot (xs ++ ys)
    same = has-append (retained xs) ys ∙ (ap (λ (b : Bool). b || has_snapshot ys) (has-retained xs)
        ∙ sym (has-append xs ys))

    kept : retained (retained xs ++ ys) ≡ retained (xs ++ ys) →
        retained (x ∷ (retained xs ++ ys)) ≡ retained (x ∷ (xs ++ ys))
    kept ih = ap₂ (λ (b : Bool) (t : List (List ℕ)). row x b t) same ih

    dropped : is_snapshot x ≡ false → has_snapshot xs ≡ true →
        retained (retained xs ++ ys) ≡ retained (xs ++ ys) →
        retained (retained xs ++ ys) ≡ retained (x ∷ (xs ++ ys))
    dropped q h ih =
        let late : has_snapshot (xs ++ ys) ≡ true = has-append xs ys
        ∙ ap (λ (b : Bool). b || has_snapshot ys) h in
        ih ∙ sym (ap₂ (λ (a b : Bool). cond (a || not b) (x ∷ retained (xs ++ ys)) (retained (xs ++ ys))) q late)

    go : (a : Bool) → is_snapshot x ≡ a → (b : Bool) → has_snapshot xs ≡ b →
        retained (retained xs ++ ys) ≡ retained (xs ++ ys) →
        retained (cond (a || not b) (x ∷ retained xs) (retained xs) ++ ys) ≡ retained (x ∷ (xs ++ ys))
    go true q b h ih = kept ih
    go false q true h ih = dropped q h ih
    go false q false h ih = kept ih

-- what stays, stays
pub retained-twice : (xs : List (List ℕ)) → retained (retained xs) ≡ retained xs
retained-twice xs = ap retained (sym (append-nil (retained xs))) ∙ retained-again xs [] ∙ ap retained (append-nil xs)

-- an entry at the end
pub retained-next : (xs : List (List ℕ)) (x : List ℕ) → retained (xs ++ x ∷ [])
    ≡ cond (is_snapshot x) (filter is_snapshot xs) (retained xs) ++ x ∷ []
retained-next [] x = go (is_snapshot x)
  where
    go : (a : Bool) → cond (a || true) (x ∷ []) [] ≡ cond a [] [] ++ x ∷ []
    go true = refl
    go false = refl
retained-next (y ∷ xs) x =
    ap₂ (λ (b : Bool) (t : List (List ℕ)). row y b t) (has-append xs (x ∷ [])) (retained-next xs x)
    ∙ go (is_snapshot x) (is_snapshot y) (has_snapshot xs)
  where
    go : (a b c : Bool) →
        cond (b || not (c || (a || false))) (y ∷ (cond a (filter is_snapshot xs) (retained xs) ++ x ∷ []))
        (cond a (filter is_snapshot xs) (retained xs) ++ x ∷ [])
        ≡ cond a (cond b (y ∷ filter is_snapshot xs) (filter is_snapshot xs))
        (cond (b || not c) (y ∷ retained xs) (retained xs)) ++ x ∷ []
    go true true c = refl
    go true false true = refl
    go true false false = refl
    go false true c = refl
    go false false true = refl
    go false false false = refl

-- an event at the end of what stays
pub retained-event : (xs : List (List ℕ)) (x : List ℕ) → retained xs ≡ xs → is_snapshot x ≡ false →
    retained (xs ++ x ∷ []) ≡ xs ++ x ∷ []
retained-event xs x is event = retained-next xs x
    ∙ ap (λ (b : Bool). cond b (filter is_snapshot xs) (retained xs) ++ x ∷ []) event
    ∙ ap (λ (l : List (List ℕ)). l ++ x ∷ []) is

-- ---- the snapshots, and what is behind them

pub no-snapshots : (xs : List (List ℕ)) → has_snapshot xs ≡ false → filter is_snapshot xs ≡ []
no-snapshots [] h = refl
no-snapshots (x ∷ xs) h = go (is_snapshot x) (has_snapshot xs) h (no-snapshots xs)
  where
    go : (a b : Bool) → (a || b) ≡ false → (b ≡ false → filter is_snapshot xs ≡ []) →
        cond a (x ∷ filter is_snapshot xs) (filter is_snapshot xs) ≡ []
    go true b h ih = absurd (cc)
    go false true h ih = absurd (cc)
    go false false h ih = ih refl

pub all-behind : (xs : List (List ℕ)) → has_snapshot xs ≡ false → behind xs ≡ xs
all-behind [] h = refl
all-behind (x ∷ xs) h = ap (λ (b : Bool). cond b (behind xs) (x ∷ xs)) h

pub retained-split : (xs : List (List ℕ)) → retained xs ≡ filter is_snapshot xs ++ behind xs
retained-split [] = refl
retained-split (x ∷ xs) = go (is_snapshot x) (has_snapshot xs) refl (retained-split xs)
  where
    go : (a b : Bool) → has_snapshot xs ≡ b → retained xs ≡ filter is_snapshot xs ++ behind xs →
        cond (a || not b) (x ∷ retained xs) (retained xs)
        ≡ cond a (x ∷ filter is_snapshot xs) (filter is_snapshot xs) ++ cond (a || b) (behind xs) (x ∷ xs)
    go true b h ih = ap (λ (t : List (List ℕ)). x ∷ t) ih
    go false true h ih = ih
    go false false h ih = ap (λ (t : List (List ℕ)). x ∷ t) (none-dropped xs h)
        ∙ sym (ap (λ (t : List (List ℕ)). t ++ x ∷ xs) (no-snapshots xs h))

pub filter-retained : (xs : List (List ℕ)) → filter is_snapshot (retained xs) ≡ filter is_snapshot xs
filter-retained [] = refl
filter-retained (x ∷ xs) = go (is_snapshot x) refl (has_snapshot xs) (filter-retained xs)
  where
    go : (a : Bool) → is_snapshot x ≡ a → (b : Bool) → filter is_snapshot (retained xs) ≡ filter is_snapshot xs →
        filter is_snapshot (cond (a || not b) (x ∷ retained xs) (retained xs))
        ≡ cond a (x ∷ filter is_snapshot xs) (filter is_snapshot xs)
    go true q b ih = ap₂ (λ (c : Bool) (t : List (List ℕ)). cond c (x ∷ t) t) q ih
    go false q true ih = ih
    go false q false ih = ap₂ (λ (c : Bool) (t : List (List ℕ)). cond c (x ∷ t) t) q ih

pub behind-retained : (xs : List (List ℕ)) → behind (retained xs) ≡ behind xs
behind-retained [] = refl
behind-retained (x ∷ xs) = go (is_snapshot x) refl (has_snapshot xs) refl (behind-retained xs)
  where
    go : (a : Bool) → is_snapshot x ≡ a → (b : Bool) → has_snapshot xs ≡ b → behind (retained xs) ≡ behind xs →
        behind (cond (a || not b) (x ∷ retained xs) (retained xs)) ≡ cond (a || b) (behind xs) (x ∷ xs)
    go true q b h ih =
        ap (λ (c : Bool). cond (c || has_snapshot (retained xs)) (behind (retained xs)) (x ∷ retained xs)) q ∙ ih
    go false q true h ih = ih
    go false q false h ih =
        ap₂ (λ (c d : Bool). cond (c || d) (behind (retained xs)) (x ∷ retained xs)) q (has-retained xs ∙ h)
        ∙ ap (λ (t : List (List ℕ)). x ∷ t) (none-dropped xs h)

pub behind-next : (xs : List (List ℕ)) (x : List ℕ) →
    behind (xs ++ x ∷ []) ≡ cond (is_snapshot x) [] (behind xs ++ x ∷ [])
behind-next [] x = go (is_snapshot x)
  where
    go : (a : Bool) → cond (a || false) [] (x ∷ []) ≡ cond a [] (x ∷ [])
    go true = refl
    go false = refl
behind-next (y ∷ xs) x =
    ap₂ (λ (b : Bool) (t : List (List ℕ)). cond (is_snapshot y || b) t (y ∷ (xs ++ x ∷ []))) (has-append xs (x ∷ []))
    (behind-next xs x)
    ∙ go (is_snapshot x) (is_snapshot y) (has_snapshot xs)
  where
    go : (a b c : Bool) →
        cond (b || (c || (a || false))) (cond a [] (behind xs ++ x ∷ [])) (y ∷ (xs ++ x ∷ []))
        ≡ cond a [] (cond (b || c) (behind xs) (y ∷ xs) ++ x ∷ [])
    go true true c = refl
    go true false true = refl
    go true false false = refl
    go false true c = refl
    go false false true = refl
    go false false false = refl
