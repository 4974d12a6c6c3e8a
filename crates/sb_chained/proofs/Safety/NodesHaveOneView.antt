-- Nodes whose strings are separate: one digest has one view, one parent and one content, so a branch is unique.
use Rattle.std.proofs.Common.{◌≡◌, ℕ, ◌||◌, Bool, true, false, if◌then◌else◌, List, [], ◌∷◌, ◌++◌, Some, append_assoc, refl, sym, ap, ◌∙◌, subst}
use Rattle.iss_base.specs.Lists.{same_bytes}
use Rattle.iss_base.proofs.Lists.{ends-same, same_bytes-is}
use Rattle.iss_request.specs.Formats.{value_string}
use Rattle.iss_request.specs.declared.requests.Batch.{Batch}
use Rattle.iss_request.specs.declared.requests.Value.TheVariants.{Batch as Value_batch}
use Rattle.iss_sb.specs.Evidence.{Separate}
use Rattle.iss_sb.specs.Statements.{four_bytes}
use Rattle.iss_sb.proofs.Statements.{wide-same}
use Rattle.iss_sb.specs.declared.content.Content.{Content}
use Rattle.iss_sb.specs.declared.content.Content.TheVariants.{Nil, Holds, Mark}
use Rattle.hs_tree.proofs.Nodes.{value-same}
use Rattle.hs_tree.specs.Tree.{Node, branch, chained as form, extends, is_known, kind_of, root, value_digest, value_of, what_bytes}
use Rattle.iss_sb.proofs.Contents.{holds-value}
use Rattle.sb_chained.specs.Paths.{Has, IsNode, IsTree, Path, hash}
use Rattle.sb_chained.specs.Rules.{find}

abbrev behind_first : List ℕ → List ℕ
behind_first [] = []
behind_first (x ∷ xs) = xs

-- two nodes are of one view, one parent and one content
pub record AreOne (u v : ℕ) (a b : List ℕ) (c e : Content) : Type 0 where
  pub views : u ≡ v
  pub parents : a ≡ b
  pub contents : c ≡ e

module _ (version : ℕ) (Is : List ℕ → Type 0) where
  abbrev Holder : ℕ → List ℕ → Content → Type 0
  Holder view parent what = Has version Is view parent what

  pub path-on : (d e g : List ℕ) (xs ys : List Content) → Path version Is d e xs → Path version Is e g ys → Path version Is d g (xs ++ ys)
  path-on d e g [] ys h k = subst (λ (z : List ℕ). Path version Is z g ys) (sym h) k
  path-on d e g (c ∷ cs) ys h k = (h.0, h.1, h.2, path-on h.1 e g cs ys h.3 k)

  -- one node down
  pub path-one : (d a : List ℕ) (v : ℕ) (c : Content) → IsNode version Is d v a c → Path version Is d a (c ∷ [])
  path-one d a v c h = (v, a, h, refl)

  module _ (sep : Separate Is) where
    content-same : (u v : ℕ) (a b : List ℕ) (c e : Content) → Holder u a c → Holder v b e → kind_of c ≡ kind_of e → value_digest version (value_of c) ≡ value_digest version (value_of e) → c ≡ e
    content-same u v a b Nil Nil h g t d = refl
    content-same u v a b Nil (Holds y) h g t d = absurd cc
    content-same u v a b Nil Mark h g t d = absurd cc
    content-same u v a b (Holds x) Nil h g t d = absurd cc
    content-same u v a b (Holds x) (Holds y) h g t d =
        let strings = sep (value_string version (Value_batch x)) (value_string version (Value_batch y)) (h.value (Value_batch x) refl) (g.value (Value_batch y) refl) d in
        ap (λ (z : Batch). Holds z) (value-same version x y (holds-value version x h.read) (holds-value version y g.read) strings)
    content-same u v a b (Holds x) Mark h g t d = absurd cc
    content-same u v a b Mark Nil h g t d = absurd cc
    content-same u v a b Mark (Holds y) h g t d = absurd cc
    content-same u v a b Mark Mark h g t d = refl

    -- nodes of one digest are one node
    pub has-same : (u v : ℕ) (a b : List ℕ) (c e : Content) → Holder u a c → Holder v b e → hash version u a c ≡ hash version v b e → AreOne u v a b c e
    has-same u v a b c e h g q =
        let s : form.string version u a c ≡ form.string version v b e = sep (form.string version u a c) (form.string version v b e) h.node g.node q in
        let t : four_bytes u ++ (a ++ what_bytes version c) ≡ four_bytes v ++ (b ++ what_bytes version e) =
        sym (append_assoc (four_bytes u) a (what_bytes version c)) ∙ ap behind_first s ∙ append_assoc (four_bytes v) b (what_bytes version e) in
        let w = wide-same 3 u v (a ++ what_bytes version c) (b ++ what_bytes version e) t in
        let f = ends-same a b (what_bytes version c) (what_bytes version e) (h.long ∙ sym g.long) w.1 in
        let r = f.1 in
        let kinds : kind_of c ≡ kind_of e = cc in
        let digests : value_digest version (value_of c) ≡ value_digest version (value_of e) = cc in
        record { views = w.0; parents = f.0; contents = content-same u v a b c e h g kinds digests }

    pub node-same : (d : List ℕ) (u v : ℕ) (a b : List ℕ) (c e : Content) → IsNode version Is d u a c → IsNode version Is d v b e → AreOne u v a b c e
    node-same d u v a b c e h g = has-same u v a b c e h.has g.has (h.is ∙ sym g.is)

    module _ (empty : Is []) where
      pub no-root : (d : List ℕ) (v : ℕ) (a : List ℕ) (c : Content) → IsNode version Is d v a c → d ≡ root → ⊥
      no-root d v a c h q =
          let s : form.string version v a c ≡ [] = sep (form.string version v a c) [] h.has.node empty (h.is ∙ q) in
          cc

      pub branch-one : (d : List ℕ) (xs ys : List Content) → Path version Is d root xs → Path version Is d root ys → xs ≡ ys
      branch-one d [] [] h k = refl
      branch-one d [] (y ∷ ys) h k = absurd (no-root d k.0 k.1 y k.2 h)
      branch-one d (x ∷ xs) [] h k = absurd (no-root d h.0 h.1 x h.2 k)
      branch-one d (x ∷ xs) (y ∷ ys) h k =
          let q = node-same d h.0 k.0 h.1 k.1 x y h.2 k.2 in
          let rest = branch-one h.1 xs ys h.3 (subst (λ (z : List ℕ). Path version Is z root ys) (sym q.parents) k.3) in
          ap (λ (z : Content). z ∷ xs) q.contents ∙ ap (λ (z : List Content). y ∷ z) rest

  -- ---- the tree of a replica

  node-at : (k : Node) (d : List ℕ) → IsNode version Is k.digest k.view k.parent k.what → same_bytes k.digest d ≡ true → IsNode version Is d k.view k.parent k.what
  node-at k d h q = subst (λ (z : List ℕ). IsNode version Is z k.view k.parent k.what) (same_bytes-is k.digest d q) h

  pub branch-is : (ks : List Node) (d : List ℕ) → IsTree version Is ks → is_known ks d ≡ true → Path version Is d root (branch ks d)
  branch-is [] d t h = same_bytes-is d root h
  branch-is (k ∷ ks) d t h = go (same_bytes k.digest d) refl h (branch-is ks k.parent t.2 t.1) (branch-is ks d t.2)
    where
      go : (b : Bool) → same_bytes k.digest d ≡ b → (b || is_known ks d) ≡ true → Path version Is k.parent root (branch ks k.parent) → (is_known ks d ≡ true → Path version Is d root (branch ks d)) →
          Path version Is d root (if b then k.what ∷ branch ks k.parent else branch ks d)
      go true q e up on = (k.view, k.parent, node-at k d t.0 q, up)
      go false q e up on = on e

  pub extends-is : (ks : List Node) (d e : List ℕ) → IsTree version Is ks → extends ks d e ≡ true → (cs : List Content) × Path version Is d e cs
  extends-is [] d e t h = ([], same_bytes-is d e h)
  extends-is (k ∷ ks) d e t h = go (same_bytes d e) (same_bytes k.digest d) refl refl h (extends-is ks k.parent e t.2) (extends-is ks d e t.2)
    where
      go : (a b : Bool) → same_bytes d e ≡ a → same_bytes k.digest d ≡ b → (a || (if b then extends ks k.parent e else extends ks d e)) ≡ true → (extends ks k.parent e ≡ true → (cs : List Content) × Path version Is k.parent e cs) →
          (extends ks d e ≡ true → (cs : List Content) × Path version Is d e cs) → (cs : List Content) × Path version Is d e cs
      go true b q r x up on = ([], same_bytes-is d e q)
      go false true q r x up on = let u = up x in (k.what ∷ u.0, (k.view, k.parent, node-at k d t.0 r, u.1))
      go false false q r x up on = on x

  -- a node that is found is one of its digest, and known
  pub record IsFound (ks : List Node) (d : List ℕ) (x : Node) : Type 0 where
    pub node : IsNode version Is d x.view x.parent x.what
    pub digest_is : x.digest ≡ d
    pub known : is_known ks d ≡ true

  pub found-is : (ks : List Node) (d : List ℕ) (x : Node) → IsTree version Is ks → find ks d ≡ Some x → IsFound ks d x
  found-is [] d x t h = absurd cc
  found-is (k ∷ ks) d x t h = go (same_bytes k.digest d) refl h (found-is ks d x t.2)
    where
      wider : (b : Bool) → is_known ks d ≡ true → (b || is_known ks d) ≡ true
      wider true e = refl
      wider false e = e

      here : same_bytes k.digest d ≡ true → (same_bytes k.digest d || is_known ks d) ≡ true
      here q = ap (λ (b : Bool). b || is_known ks d) q

      go : (b : Bool) → same_bytes k.digest d ≡ b → (if b then Some k else find ks d) ≡ Some x → (find ks d ≡ Some x → IsFound ks d x) → IsFound (k ∷ ks) d x
      go true q e on =
          let same : k ≡ x = cc in
          subst (λ (z : Node). IsFound (k ∷ ks) d z) same (record { node = node-at k d t.0 q; digest_is = same_bytes-is k.digest d q; known = here q })
      go false q e on = let r = on e in record { node = r.node; digest_is = r.digest_is; known = wider (same_bytes k.digest d) r.known }
