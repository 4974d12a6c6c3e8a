-- HotStuff's safety argument, from facts on single correct replicas: what certificates imply, and that two decided
-- branches agree.
use Rattle.std.proofs.Common.{◌≡◌, ◌≤◌, ◌<◌, ℕ, zero, suc, Bool, true, List, [], ◌∷◌, ◌++◌, Some, refl, sym, ap, ◌∙◌, subst, inl, inr, ◌⊎◌, arith, true≢false}
use Rattle.std.specs.Prelude.{nat_le}
use Rattle.std.proofs.lemmas.Bool.{cases_eq, cases_lt, leb-true}
use Rattle.iss_base.proofs.Lists.{and-true}
use Rattle.iss_base.specs.Quorum.{count_below}
use Rattle.iss_request.specs.declared.requests.Batch.{Batch}
use Rattle.iss_request.specs.declared.requests.Value.{Value}
use Rattle.iss_request.specs.declared.requests.Value.TheVariants.{Batch as Value_batch}
use Rattle.iss_sb.specs.declared.effects.Params.{Params}
use Rattle.iss_sb.specs.Calls.{IsGoodParams}
use Rattle.iss_sb.specs.Evidence.{IsString, Separate, World, is_correct}
use Rattle.iss_sb.proofs.Quorums.{Meets, few-faulty, meets}
use Rattle.iss_sb.specs.declared.content.Content.{Content}
use Rattle.iss_sb.specs.declared.content.Content.TheVariants.{Holds}
use Rattle.hs_tree.specs.declared.messages.Message.{Message}
use Rattle.hs_tree.specs.Certificates.{is_phase}
use Rattle.hs_tree.specs.Paths.{Has, hash}
use Rattle.hs_tree.specs.Tree.{filled, root, value_at}
use Rattle.hs_tree.proofs.Nodes.{branch-one, has-same, no-root, path-on}
use Rattle.hs_tree.proofs.Places.{here-is, value-on}
use Rattle.sb_hotstuff.specs.Facts.{HaveOneNode, IsCertified, IsSafeVote, IsVoted, Leads}
use Rattle.sb_hotstuff.specs.HotStuff.{hotstuff}

pub quorums-meet : (p : Params) → IsGoodParams hotstuff p → (t u : ℕ → Bool) → p.setup.quorum ≤ count_below t p.setup.n → p.setup.quorum ≤ count_below u p.setup.n → Meets p t u
quorums-meet p good t u tq uq = let nodes = good.nodes in let majority = good.majority in meets p p.setup.f t u (few-faulty hotstuff p good refl) (omega arith) tq uq

-- ---- The facts on single replicas

module _ (p : Params) (w : World Message) (acc : ℕ → ℕ → Batch → Type 0) where
  abbrev Holder : List ℕ → Content → Type 0
  Holder a c = Has p.setup.version (IsString w) a c

  -- A prepare vote of replica k: the node with its justification, and that k accepted its batch at the node's place.
  pub record First (k view : ℕ) (d : List ℕ) : Type 0 where
    pub parent : List ℕ
    pub what : Content
    pub has : Has p.setup.version (IsString w) parent what
    pub digest_is : hash p.setup.version parent what ≡ d
    pub just : (parent ≡ root) ⊎ ((x : ℕ) × (x < view) × IsCertified p w 1 x parent)
    pub accepted : (cs : List Content) (b : Batch) → Leads p w parent root cs → what ≡ Holds b → acc k (filled cs) b

  pub record Facts : Type 0 where
    pub one : (k v : ℕ) (d e : List ℕ) → IsVoted w k 1 v d → IsVoted w k 1 v e → d ≡ e
    pub second : (k v : ℕ) (d : List ℕ) → IsVoted w k 2 v d → IsCertified p w 1 v d
    pub third : (k v : ℕ) (d : List ℕ) → IsVoted w k 3 v d → IsCertified p w 2 v d
    pub locked : (k u v : ℕ) (d e : List ℕ) → IsVoted w k 3 u d → IsVoted w k 1 v e → u < v → IsSafeVote p w u v e

  -- a quorum whose correct replicas accepted a batch at a place, by their prepare votes for its node
  pub record Accepted (k : ℕ) (b : Batch) : Type 0 where
    pub view : ℕ
    pub parent : List ℕ
    pub below : List Content
    pub has : Has p.setup.version (IsString w) parent (Holds b)
    pub certified : IsCertified p w 1 view (hash p.setup.version parent (Holds b))
    pub leads : Leads p w parent root below
    pub place : k ≡ filled below
    pub each : (j : ℕ) → certified.test j ≡ true → is_correct p.setup j ≡ true → acc j k b

  module _ (good : IsGoodParams hotstuff p) (facts : Facts) where
    pub some : (q v : ℕ) (d : List ℕ) → IsCertified p w q v d → (k : ℕ) × (is_correct p.setup k ≡ true) × IsVoted w k q v d
    some q v d c = let m = quorums-meet p good c.test c.test c.many c.many in (m.node, m.correct, c.each m.node m.first m.correct)

    pub one-node : (v : ℕ) (d e : List ℕ) → IsCertified p w 1 v d → IsCertified p w 1 v e → d ≡ e
    one-node v d e c g = let m = quorums-meet p good c.test g.test c.many g.many in facts.one m.node v d e (c.each m.node m.first m.correct) (g.each m.node m.second m.correct)

    second-first : (v : ℕ) (d : List ℕ) → IsCertified p w 2 v d → IsCertified p w 1 v d
    second-first v d c = let j = some 2 v d c in facts.second j.0 v d j.2

    pub third-first : (v : ℕ) (d : List ℕ) → IsCertified p w 3 v d → IsCertified p w 1 v d
    third-first v d c = let j = some 3 v d c in second-first v d (facts.third j.0 v d j.2)

    -- a certificate of any phase implies a prepareQC
    first-of : (q v : ℕ) (d : List ℕ) → is_phase 3 q ≡ true → IsCertified p w q v d → IsCertified p w 1 v d
    first-of zero v d h c = absurd (true≢false (sym h))
    first-of (suc zero) v d h c = c
    first-of (suc (suc zero)) v d h c = second-first v d c
    first-of (suc (suc (suc zero))) v d h c = third-first v d c
    first-of (suc (suc (suc (suc q)))) v d h c = let l = leb-true (suc (suc (suc (suc q)))) 3 (and-true _ (nat_le (suc (suc (suc (suc q)))) 3) h).1 in absurd (omega (arith, l))

    pub one-of-view : HaveOneNode p w
    one-of-view q r v d e hq hr c g = one-node v d e (first-of q v d hq c) (first-of r v e hr g)

    above : (n u : ℕ) (d : List ℕ) (v : ℕ) (e : List ℕ) → v < n → u ≤ v → IsCertified p w 3 u d → IsCertified p w 1 v e → (cs : List Content) × Leads p w e d cs
    above zero u d v e l m c g = absurd (omega arith)
    above (suc n) u d v e l m c g = elim (cases_eq u v) [
      | inl q ↦ ([], one-node v e d g (subst (λ (z : ℕ). IsCertified p w 1 z d) q (third-first u d c)))
      | inr ne ↦
          let b = quorums-meet p good c.test g.test c.many g.many in
          let k = facts.locked b.node u v d e (c.each b.node b.first b.correct) (g.each b.node b.second b.correct) (omega arith) in
          let hi = k.high in
          let lo = k.low in
          elim k.safe [
            | inl s ↦
                let r = above n u d k.view k.node (omega arith) (omega arith) c (second-first k.view k.node k.lock) in
                (s.0 ++ r.0, path-on p.setup.version (IsString w) e k.node d s.0 r.0 s.1 r.1)
            | inr s ↦
                let x1 = s.above in
                let x2 = s.below in
                let r = above n u d s.view s.parent (omega arith) (omega arith) c s.certified in
                (s.what ∷ r.0, (s.parent, s.has, s.is, r.1))
          ]
    ]

    -- a node with a prepareQC extends each node with a commitQC of no later view
    pub extends-it : (u : ℕ) (d : List ℕ) (v : ℕ) (e : List ℕ) → u ≤ v → IsCertified p w 3 u d → IsCertified p w 1 v e → (cs : List Content) × Leads p w e d cs
    extends-it u d v e m c g = above (suc v) u d v e (omega arith) m c g

    module _ (sep : Separate (IsString w)) where
      pub same-branch : (d : List ℕ) (xs ys : List Content) → Leads p w d root xs → Leads p w d root ys → xs ≡ ys
      same-branch = branch-one p.setup.version (IsString w) sep (inl refl)

      pub same-node : (a b : List ℕ) (c e : Content) → Holder a c → Holder b e → hash p.setup.version a c ≡ hash p.setup.version b e → (a ≡ b) × (c ≡ e)
      same-node = has-same p.setup.version (IsString w) sep

      agree-below : (u : ℕ) (d : List ℕ) (v : ℕ) (e : List ℕ) (k : ℕ) (cs es : List Content) (x y : Value) → u ≤ v → IsCertified p w 3 u d → IsCertified p w 3 v e →
          Leads p w d root cs → Leads p w e root es → value_at cs k ≡ Some x → value_at es k ≡ Some y → x ≡ y
      agree-below u d v e k cs es x y m c g bd be hx hy =
          let r = extends-it u d v e m c (third-first v e g) in
          let q = path-on p.setup.version (IsString w) e d root r.0 cs r.1 bd in
          let same = same-branch e es (r.0 ++ cs) be q in
          let a : value_at (r.0 ++ cs) k ≡ Some x = value-on r.0 cs k x hx in
          let b : value_at (r.0 ++ cs) k ≡ Some y = ap (λ (z : List Content). value_at z k) (sym same) ∙ hy in
          let both : Some x ≡ Some y = sym a ∙ b in
          cc

      -- two decided branches hold the same value at each place
      pub agree : (u : ℕ) (d : List ℕ) (v : ℕ) (e : List ℕ) (k : ℕ) (cs es : List Content) (x y : Value) → IsCertified p w 3 u d → IsCertified p w 3 v e →
          Leads p w d root cs → Leads p w e root es → value_at cs k ≡ Some x → value_at es k ≡ Some y → x ≡ y
      agree u d v e k cs es x y c g bd be hx hy = elim (cases_lt v u) [
        | inl l ↦ sym (agree-below v e u d k es cs y x (omega arith) g c be bd hy hx)
        | inr l ↦ agree-below u d v e k cs es x y l c g bd be hx hy
      ]

    module _ (sep : Separate (IsString w)) (first : (k v : ℕ) (d : List ℕ) → IsVoted w k 1 v d → First k v d) where
      -- the batch of a certified node itself
      top : (v : ℕ) (d a : List ℕ) (b : Batch) (cs : List Content) → IsCertified p w 1 v d → Holder a (Holds b) → hash p.setup.version a (Holds b) ≡ d → Leads p w a root cs → Accepted (filled cs) b
      top v d a b cs q i h br = record {
        view = v;
        parent = a;
        below = cs;
        has = i;
        certified = record {
          test = q.test;
          many = q.many;
          each = λ j m t. subst (λ (z : List ℕ). IsVoted w j 1 v z) (sym h) (q.each j m t);
        };
        leads = br;
        place = refl;
        each = λ j m t.
            let f = first j v d (q.each j m t) in
            let s = same-node sep f.parent a f.what (Holds b) f.has i (f.digest_is ∙ sym h) in
            f.accepted cs b (subst (λ (z : List ℕ). Leads p w z root cs) (sym s.0) br) s.1;
      }

      -- the parent of a certified node is the root or has a prepareQC
      below-it : (v : ℕ) (d a : List ℕ) (c : Content) → IsCertified p w 1 v d → Holder a c → hash p.setup.version a c ≡ d → (a ≡ root) ⊎ ((x : ℕ) × IsCertified p w 1 x a)
      below-it v d a c q i h =
          let j = some 1 v d q in
          let f = first j.0 v d j.2 in
          let s = same-node sep f.parent a f.what c f.has i (f.digest_is ∙ sym h) in
          elim f.just [
            | inl z ↦ inl (sym s.0 ∙ z)
            | inr z ↦ inr (z.0, subst (λ (y : List ℕ). IsCertified p w 1 z.0 y) s.0 z.2)
          ]

      root-or : (b : Batch) (k : ℕ) (cs : List Content) (a : List ℕ) → ((v : ℕ) → IsCertified p w 1 v a → value_at cs k ≡ Some (Value_batch b) → Accepted k b) →
          (a ≡ root) ⊎ ((v : ℕ) × IsCertified p w 1 v a) → Leads p w a root cs → value_at cs k ≡ Some (Value_batch b) → Accepted k b
      root-or b k [] a r s br h = absurd cc
      root-or b k (c ∷ cs) a r (inl z) br h = absurd (no-root p.setup.version (IsString w) sep (inl refl) br.0 c br.1 (br.2 ∙ z))
      root-or b k (c ∷ cs) a r (inr z) br h = r z.0 z.1 h

      -- each batch of a certified branch was accepted by a quorum at its place
      pub accepted-root : (cs : List Content) (v : ℕ) (d : List ℕ) (k : ℕ) (b : Batch) → IsCertified p w 1 v d → Leads p w d root cs → value_at cs k ≡ Some (Value_batch b) → Accepted k b
      accepted-root [] v d k b q br h = absurd cc
      accepted-root (c ∷ cs) v d k b q br h = elim (here-is k (filled cs) c (value_at cs k) b h) [
        | inl z ↦
            let i = subst (λ (y : Content). Holder br.0 y) z.1 br.1 in
            let e : hash p.setup.version br.0 (Holds b) ≡ d = subst (λ (y : Content). hash p.setup.version br.0 y ≡ d) z.1 br.2 in
            subst (λ (y : ℕ). Accepted y b) (sym z.0) (top v d br.0 b cs q i e br.3)
        | inr z ↦ root-or b k cs br.0 (λ x g r. accepted-root cs x br.0 k b g br.3 r) (below-it v d br.0 c q br.1 br.2) br.3 z
      ]

      pub share : (k m : ℕ) (b c : Batch) → Accepted k b → Accepted m c → (j : ℕ) × (is_correct p.setup j ≡ true) × acc j k b × acc j m c
      share k m b c r q = let s = quorums-meet p good r.certified.test q.certified.test r.certified.many q.certified.many in (s.node, s.correct, r.each s.node s.first s.correct, q.each s.node s.second s.correct)
