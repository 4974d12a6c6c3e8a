-- Unless SHA-256 collides, a digest has one parent and one content, so its branch is unique.
use Rattle.std.proofs.Common.{◌≡◌, ℕ, ◌||◌, Bool, true, false, if◌then◌else◌, List, [], ◌∷◌, ◌++◌, refl, sym, ap, ◌∙◌, subst}
use Rattle.iss_base.specs.Lists.{same_bytes}
use Rattle.iss_base.proofs.Lists.{ends-same, same_bytes-is}
use Rattle.iss_request.specs.Fields.{Good, IsReadAgain}
use Rattle.iss_request.specs.Formats.{parse_value, spell_value, value_string}
use Rattle.iss_request.specs.declared.requests.Batch.{Batch}
use Rattle.iss_request.specs.declared.requests.Value.TheVariants.{Batch as Value_batch}
use Rattle.iss_sb.specs.Evidence.{Separate}
use Rattle.iss_sb.specs.declared.content.Content.{Content}
use Rattle.iss_sb.specs.declared.content.Content.TheVariants.{Nil, Holds, Mark}
use Rattle.hs_tree.specs.Paths.{Has, IsTree, Path, hash}
use Rattle.hs_tree.specs.Tree.{Node, branch, extends, is_known, kind_of, plain_string, root, value_digest, value_of, what_bytes}
use Rattle.iss_sb.proofs.Contents.{holds-value}

-- values that can be decoded have different strings
pub value-same : (version : ℕ) (b c : Batch) → IsReadAgain (spell_value version) (parse_value version) (Value_batch b) → IsReadAgain (spell_value version) (parse_value version) (Value_batch c) → value_string version (Value_batch b) ≡ value_string version (Value_batch c) → b ≡ c
value-same version b c h g e =
    let same : spell_value version (Value_batch b) ≡ spell_value version (Value_batch c) = cc in
    let both : Good (Value_batch b) [] ≡ Good (Value_batch c) [] = sym (h []) ∙ ap (λ (x : List ℕ). parse_value version (x ++ [])) same ∙ g [] in
    cc

module _ (version : ℕ) (Is : List ℕ → Type 0) where
  abbrev Holder : List ℕ → Content → Type 0
  Holder parent what = Has version Is parent what

  pub path-on : (d e g : List ℕ) (xs ys : List Content) → Path version Is d e xs → Path version Is e g ys → Path version Is d g (xs ++ ys)
  path-on d e g [] ys h k = subst (λ (z : List ℕ). Path version Is z g ys) (sym h) k
  path-on d e g (c ∷ cs) ys h k = (h.0, h.1, h.2, path-on h.0 e g cs ys h.3 k)

  module _ (sep : Separate Is) where
    content-same : (a b : List ℕ) (c e : Content) → Holder a c → Holder b e → kind_of c ≡ kind_of e → value_digest version (value_of c) ≡ value_digest version (value_of e) → c ≡ e
    content-same a b Nil Nil h g t d = refl
    content-same a b Nil (Holds y) h g t d = absurd cc
    content-same a b Nil Mark h g t d = absurd cc
    content-same a b (Holds x) Nil h g t d = absurd cc
    content-same a b (Holds x) (Holds y) h g t d =
        let strings = sep (value_string version (Value_batch x)) (value_string version (Value_batch y)) (h.value (Value_batch x) refl) (g.value (Value_batch y) refl) d in
        ap (λ (z : Batch). Holds z) (value-same version x y (holds-value version x h.read) (holds-value version y g.read) strings)
    content-same a b (Holds x) Mark h g t d = absurd cc
    content-same a b Mark Nil h g t d = absurd cc
    content-same a b Mark (Holds y) h g t d = absurd cc
    content-same a b Mark Mark h g t d = refl

    -- nodes with the same digest are equal
    pub has-same : (a b : List ℕ) (c e : Content) → Holder a c → Holder b e → hash version a c ≡ hash version b e → (a ≡ b) × (c ≡ e)
    has-same a b c e h g q =
        let s : plain_string version 0 a c ≡ plain_string version 0 b e = sep (plain_string version 0 a c) (plain_string version 0 b e) h.node g.node q in
        let t : a ++ what_bytes version c ≡ b ++ what_bytes version e = cc in
        let f = ends-same a b (what_bytes version c) (what_bytes version e) (h.long ∙ sym g.long) t in
        let r = f.1 in
        let kinds : kind_of c ≡ kind_of e = cc in
        let digests : value_digest version (value_of c) ≡ value_digest version (value_of e) = cc in
        (f.0, content-same a b c e h g kinds digests)

    module _ (empty : Is []) where
      pub no-root : (a : List ℕ) (c : Content) → Holder a c → hash version a c ≡ root → ⊥
      no-root a c h q =
          let s : plain_string version 0 a c ≡ [] = sep (plain_string version 0 a c) [] h.node empty q in
          cc

      pub branch-one : (d : List ℕ) (xs ys : List Content) → Path version Is d root xs → Path version Is d root ys → xs ≡ ys
      branch-one d [] [] h k = refl
      branch-one d [] (y ∷ ys) h k = absurd (no-root k.0 y k.1 (k.2 ∙ h))
      branch-one d (x ∷ xs) [] h k = absurd (no-root h.0 x h.1 (h.2 ∙ k))
      branch-one d (x ∷ xs) (y ∷ ys) h k =
          let q = has-same h.0 k.0 x y h.1 k.1 (h.2 ∙ sym k.2) in
          let rest = branch-one h.0 xs ys h.3 (subst (λ (z : List ℕ). Path version Is z root ys) (sym q.0) k.3) in
          ap (λ (z : Content). z ∷ xs) q.1 ∙ ap (λ (z : List Content). y ∷ z) rest

  -- ---- The tree of a replica

  pub branch-is : (ks : List Node) (d : List ℕ) → IsTree version Is ks → is_known ks d ≡ true → Path version Is d root (branch ks d)
  branch-is [] d t h = same_bytes-is d root h
  branch-is (k ∷ ks) d t h = go (same_bytes k.digest d) refl h (branch-is ks k.parent t.3 t.2) (branch-is ks d t.3)
    where
      go : (b : Bool) → same_bytes k.digest d ≡ b → (b || is_known ks d) ≡ true → Path version Is k.parent root (branch ks k.parent) → (is_known ks d ≡ true → Path version Is d root (branch ks d)) →
          Path version Is d root (if b then k.what ∷ branch ks k.parent else branch ks d)
      go true q e up on = (k.parent, t.0, sym t.1 ∙ same_bytes-is k.digest d q, up)
      go false q e up on = on e

  pub extends-is : (ks : List Node) (d e : List ℕ) → IsTree version Is ks → extends ks d e ≡ true → (cs : List Content) × Path version Is d e cs
  extends-is [] d e t h = ([], same_bytes-is d e h)
  extends-is (k ∷ ks) d e t h = go (same_bytes d e) (same_bytes k.digest d) refl refl h (extends-is ks k.parent e t.3) (extends-is ks d e t.3)
    where
      go : (a b : Bool) → same_bytes d e ≡ a → same_bytes k.digest d ≡ b → (a || (if b then extends ks k.parent e else extends ks d e)) ≡ true → (extends ks k.parent e ≡ true → (cs : List Content) × Path version Is k.parent e cs) →
          (extends ks d e ≡ true → (cs : List Content) × Path version Is d e cs) → (cs : List Content) × Path version Is d e cs
      go true b q r x up on = ([], same_bytes-is d e q)
      go false true q r x up on = let u = up x in (k.what ∷ u.0, (k.parent, t.0, sym t.1 ∙ same_bytes-is k.digest d r, u.1))
      go false false q r x up on = on x
