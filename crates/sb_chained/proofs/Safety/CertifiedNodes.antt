-- What a certificate tells, once each vote's node is known to stand on the root or on a certified node.
use Rattle.std.proofs.Common.{◌≡◌, ◌≤◌, ◌<◌, ℕ, suc, true, List, [], ◌∷◌, refl, sym, ◌∙◌, subst, inl, inr, ◌⊎◌, arith}
use Rattle.std.specs.Prelude.{Bool}
use Rattle.iss_base.specs.Quorum.{count_below}
use Rattle.iss_sb.specs.declared.effects.Params.{Params}
use Rattle.iss_sb.specs.Calls.{IsGoodParams}
use Rattle.iss_sb.specs.Evidence.{IsString, Separate, World, is_correct}
use Rattle.iss_sb.proofs.Quorums.{Meets, few-faulty, meets}
use Rattle.iss_sb.specs.declared.content.Content.{Content}
use Rattle.hs_tree.specs.declared.messages.Message.{Message}
use Rattle.hs_tree.specs.Tree.{root}
use Rattle.sb_chained.specs.Chained.{chained}
use Rattle.sb_chained.specs.Facts.{AreStanding, IsAt, IsCertified, IsCommitted, IsOver, IsStanding, IsVoted, Leads}
use Rattle.sb_chained.proofs.Safety.NodesHaveOneView.{AreOne, branch-one, no-root, node-same}

pub quorums-meet : (p : Params) → IsGoodParams chained p → (t u : ℕ → Bool) → p.setup.quorum ≤ count_below t p.setup.n → p.setup.quorum ≤ count_below u p.setup.n → Meets p t u
quorums-meet p good t u tq uq = let nodes = good.nodes in let majority = good.majority in meets p p.setup.f t u (few-faulty chained p good refl) (omega arith) tq uq

module _ (p : Params) (w : World Message) (good : IsGoodParams chained p) (stands : AreStanding p w) where
  pub some : (v : ℕ) (d : List ℕ) → IsCertified p w v d → (k : ℕ) × (is_correct p.setup k ≡ true) × IsVoted w k v d
  some v d c = let m = quorums-meet p good c.test c.test c.many c.many in (m.node, m.correct, c.each m.node m.first m.correct)

  pub certified-stands : (v : ℕ) (d : List ℕ) → IsCertified p w v d → IsStanding p w v d
  certified-stands v d c = let k = some v d c in stands k.0 v d k.2

  module _ (sep : Separate (IsString w)) where
    pub same-branch : (d : List ℕ) (xs ys : List Content) → Leads p w d root xs → Leads p w d root ys → xs ≡ ys
    same-branch = branch-one p.setup.version (IsString w) sep (inl refl)

    pub same-node : (d : List ℕ) (u v : ℕ) (a b : List ℕ) (c e : Content) → IsAt p w d u a c → IsAt p w d v b e → AreOne u v a b c e
    same-node = node-same p.setup.version (IsString w) sep

    pub not-root : (d : List ℕ) (v : ℕ) (a : List ℕ) (c : Content) → IsAt p w d v a c → d ≡ root → ⊥
    not-root = no-root p.setup.version (IsString w) sep (inl refl)

    pub certified-not-root : (v : ℕ) (d : List ℕ) → IsCertified p w v d → d ≡ root → ⊥
    certified-not-root v d c = let s = certified-stands v d c in not-root d v s.parent s.what s.node

    -- a node is certified in its own view alone
    pub certified-at : (v u : ℕ) (d a : List ℕ) (c : Content) → IsCertified p w v d → IsAt p w d u a c → u ≡ v
    certified-at v u d a c q h = let s = certified-stands v d q in (same-node d u v a s.parent c s.what h s.node).views

    pub certified-once : (v u : ℕ) (d : List ℕ) → IsCertified p w v d → IsCertified p w u d → v ≡ u
    certified-once v u d c q = let s = certified-stands v d c in certified-at u v d s.parent s.what q s.node

    -- the parent of a certified node is the root or certified in a lower view
    pub below-it : (v u : ℕ) (d a : List ℕ) (c : Content) → IsCertified p w v d → IsAt p w d u a c → (a ≡ root) ⊎ ((x : ℕ) × (x < v) × IsCertified p w x a)
    below-it v u d a c q h =
        let s = certified-stands v d q in
        let e = (same-node d v u s.parent a s.what c s.node h).parents in
        subst (λ (z : List ℕ). (z ≡ root) ⊎ ((x : ℕ) × (x < v) × IsCertified p w x z)) e s.just

    -- where it is a node of a view, it is certified in that view
    pub parent-certified : (v u : ℕ) (d a : List ℕ) (c : Content) (x : ℕ) (b : List ℕ) (e : Content) → IsCertified p w v d → IsAt p w d u a c → IsAt p w a x b e → IsCertified p w x a
    parent-certified v u d a c x b e q h g = elim (below-it v u d a c q h) [
      | inl z ↦ absurd (not-root a x b e g z)
      | inr z ↦ subst (λ (y : ℕ). IsCertified p w y a) (sym (certified-at z.0 x a b e z.2 g)) z.2
    ]

    -- down a branch views fall
    pub falls : (cs : List Content) (x low : ℕ) (d e : List ℕ) → IsCertified p w x d → IsCertified p w low e → Leads p w d e cs → low ≤ x
    falls [] x low d e c q h = let same = certified-once x low e (subst (λ (z : List ℕ). IsCertified p w x z) h c) q in omega (arith, same)
    falls (t ∷ cs) x low d e c q h = elim (below-it x h.0 d h.1 t c h.2) [
      | inl z ↦ absurd (none cs h.1 z h.3)
      | inr z ↦ let r = falls cs z.0 low h.1 e z.2 q h.3 in let l = z.1 in omega (arith, r, l)
    ]
      where
        none : (cs : List Content) (a : List ℕ) → a ≡ root → Leads p w a e cs → ⊥
        none [] a z g = certified-not-root low e q (sym g ∙ z)
        none (t ∷ cs) a z g = not-root a g.0 g.1 t g.2 z

    pub middle-certified : (t : ℕ) (z : List ℕ) (c : IsCommitted p w t z) → IsCertified p w (suc t) c.middle
    middle-certified t z c = parent-certified (suc (suc t)) (suc (suc t)) c.top c.middle c.first (suc t) z c.second c.certified c.top_is c.middle_is

    pub low-certified : (t : ℕ) (z : List ℕ) → IsCommitted p w t z → IsCertified p w t z
    low-certified t z c = parent-certified (suc t) (suc t) c.middle z c.second t c.parent c.third (middle-certified t z c) c.middle_is c.node_is

  pub committed-over : (t : ℕ) (z : List ℕ) (c : IsCommitted p w t z) → IsOver p w c.top t z
  committed-over t z c = record { upper = suc (suc t); middle = suc t; between = c.middle; first = c.first; second = c.second; top = c.top_is; mid = c.middle_is; parent = c.parent; third = c.third; low = c.node_is }
