-- Links of known nodes, and one more.
use Rattle.std.proofs.Common.{◌≡◌, ℕ, suc, cond, ◌==◌, Bool, true, false, if◌then◌else◌, List, [], ◌∷◌, Option, Some, None, refl, sym, ap, ◌∙◌, subst}
use Rattle.std.specs.Cmp.Lexicographic.{slice_cmp}
use Rattle.std.specs.Ordering.{is_eq, nat_cmp}
use Rattle.iss_base.specs.Lists.{same_bytes}
use Rattle.iss_base.proofs.Lists.{same_bytes-is}
use Rattle.iss_sb.proofs.Cases.{same_list}
use Rattle.hs_tree.specs.Tree.{Node}
use Rattle.sb_chained.specs.declared.links.Link.{Link}
use Rattle.sb_chained.specs.declared.links.Nodes.{Nodes}
use Rattle.sb_chained.specs.Links.{digest_at, link_at, link_of, linked}
use Rattle.sb_chained.specs.Rules.{committed, down, find, if_next}

pub links-more : (old new : Nodes) (k : Node) (ks : List Node) (digest : List ℕ) (link : Link) → k.digest ≡ digest → link_of k ≡ link → ((d : List ℕ) → link_at old d ≡ linked (find ks d)) →
    ((d : List ℕ) → link_at new d ≡ cond (is_eq (slice_cmp nat_cmp digest d)) (Some link) (link_at old d)) → (d : List ℕ) → link_at new d ≡ linked (find (k ∷ ks) d)
links-more old new k ks digest link hd hl h put d = put d ∙ ap (λ (b : Bool). let o : Option Link = cond b (Some link) (link_at old d) in o) is ∙ go (same_bytes k.digest d)
  where
    is : is_eq (slice_cmp nat_cmp digest d) ≡ same_bytes k.digest d
    is = same_list digest d ∙ ap (λ (z : List ℕ). same_bytes z d) (sym hd)

    go : (b : Bool) → cond b (Some link) (link_at old d) ≡ linked (if b then Some k else find ks d)
    go true = ap (λ (z : Link). let o : Option Link = Some z in o) (sym hl)
    go false = h d

pub record IsLinked (o : Option Node) (l : Link) : Type 0 where
  pub node : Node
  pub is : o ≡ Some node
  pub link : link_of node ≡ l

pub linked-some : (o : Option Node) (l : Link) → linked o ≡ Some l → IsLinked o l
linked-some None l h = absurd cc
linked-some (Some x) l h = record { node = x; is = refl; link = cc }

pub find-digest : (ks : List Node) (d : List ℕ) (z : Node) → find ks d ≡ Some z → z.digest ≡ d
find-digest [] d z h = absurd cc
find-digest (k ∷ ks) d z h = go (same_bytes k.digest d) refl h (find-digest ks d z)
  where
    go : (b : Bool) → same_bytes k.digest d ≡ b → (if b then Some k else find ks d) ≡ Some z → (find ks d ≡ Some z → z.digest ≡ d) → z.digest ≡ d
    go true q e more = let same : k ≡ z = cc in subst (λ (y : Node). y.digest ≡ d) same (same_bytes-is k.digest d q)
    go false q e more = more e

down-digest : (ks : List Node) (k z : Node) → down ks (Some k) ≡ Some z → z.digest ≡ k.parent
down-digest ks k z h = go (find ks k.parent) refl h
  where
    go : (o : Option Node) → find ks k.parent ≡ o → if_next k o ≡ Some z → z.digest ≡ k.parent
    go None q e = absurd cc
    go (Some j) q e = test (suc j.view == k.view) e
      where
        test : (b : Bool) → (if b then Some j else None) ≡ Some z → z.digest ≡ k.parent
        test true e = let same : j ≡ z = cc in subst (λ (y : Node). y.digest ≡ k.parent) same (find-digest ks k.parent j q)
        test false e = absurd cc

-- what is committed has the digest of the parent of the node in the middle
pub committed-digest : (ks : List Node) (d : List ℕ) (x y z : Node) (middle : Link) → find ks d ≡ Some x → down ks (Some x) ≡ Some y → down ks (Some y) ≡ Some z → link_of y ≡ middle → Some middle.parent ≡ digest_at (committed ks d)
committed-digest ks d x y z middle fx fy fz l =
    let parent : z.digest ≡ middle.parent = down-digest ks y z fz ∙ ap (λ (k : Link). k.parent) l in
    let is : committed ks d ≡ Some z = ap (λ (o : Option Node). down ks (down ks o)) fx ∙ ap (λ (o : Option Node). down ks o) fy ∙ fz in
    ap (λ (t : List ℕ). let o : Option (List ℕ) = Some t in o) (sym parent) ∙ sym (ap (λ (o : Option Node). digest_at o) is)
