-- What a node reports about its core.
use Rattle.std.proofs.Common.{◌≡◌, ℕ, ◌+◌, Bool, true, false, List, [], ◌∷◌, ◌++◌, cond, map, refl, sym, ap, ◌∙◌, add-one}
use Rattle.std.specs.List.{filter}
use Rattle.std.proofs.lemmas.List.{append-nil}
use Rattle.iss_base.specs.Lists.{below}
use Rattle.iss_rules.specs.Past.{Past}
use Rattle.iss_rules.specs.Rules.{Rules}
use Rattle.iss_model.specs.Views.{is_unfilled, unfilled}
use Rattle.iss_request.specs.declared.ids.NodeId.{NodeId}
use Rattle.iss_sb.specs.Evidence.{Module}

-- ---- the leaders below a bound whose segments are not filled

filter-more : (p : ℕ → Bool) (xs : List ℕ) (k : ℕ) → filter p (xs ++ k ∷ []) ≡ filter p xs ++ cond (p k) (k ∷ []) []
filter-more p [] k = refl
filter-more p (x ∷ xs) k = go (p x) (filter-more p xs k)
  where
    go : (b : Bool) → filter p (xs ++ k ∷ []) ≡ filter p xs ++ cond (p k) (k ∷ []) [] → cond b (x ∷ filter p (xs ++ k ∷ [])) (filter p (xs ++ k ∷ [])) ≡ cond b (x ∷ filter p xs) (filter p xs) ++ cond (p k) (k ∷ []) []
    go true h = ap (λ (ys : List ℕ). x ∷ ys) h
    go false h = h

ids-more : (xs : List NodeId) (x : NodeId) → map (λ (i : NodeId). i.0) (xs ++ x ∷ []) ≡ map (λ (i : NodeId). i.0) xs ++ x.0 ∷ []
ids-more [] x = refl
ids-more (y ∷ xs) x = ap (λ (ys : List ℕ). y.0 ∷ ys) (ids-more xs x)

module _ {Msg : Type 0} (R : Rules) (m : Module Msg) (me : ℕ) (past : Past Msg) (k : ℕ) (xs : List NodeId) (before : map (λ (i : NodeId). i.0) xs ≡ unfilled R m k me past) where
  more : unfilled R m (k + 1) me past ≡ unfilled R m k me past ++ cond (is_unfilled R m me past k) (k ∷ []) []
  more = rw add-one (filter-more (is_unfilled R m me past) (below k) k)

  pub unfilled-more : (x : NodeId) (ys : List NodeId) → x.0 ≡ k → ys ≡ xs ++ x ∷ [] → is_unfilled R m me past k ≡ true → map (λ (i : NodeId). i.0) ys ≡ unfilled R m (k + 1) me past
  unfilled-more x ys is all h =
      ap (λ (zs : List NodeId). map (λ (i : NodeId). i.0) zs) all ∙ ids-more xs x
      ∙ ap (λ (i : ℕ). map (λ (j : NodeId). j.0) xs ++ i ∷ []) is
      ∙ ap (λ (zs : List ℕ). zs ++ k ∷ []) before
      ∙ sym (more ∙ ap (λ (b : Bool). unfilled R m k me past ++ cond b (k ∷ []) []) h)

  pub unfilled-same : is_unfilled R m me past k ≡ false → map (λ (i : NodeId). i.0) xs ≡ unfilled R m (k + 1) me past
  unfilled-same h = before ∙ sym (more ∙ ap (λ (b : Bool). unfilled R m k me past ++ cond b (k ∷ []) []) h ∙ append-nil (unfilled R m k me past))
