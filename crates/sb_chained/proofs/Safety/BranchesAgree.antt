-- From facts on single correct nodes: certified nodes extend what is committed, and two branches that are decided agree.
use Rattle.std.proofs.Common.{◌≡◌, ◌≤◌, ◌<◌, ℕ, zero, suc, true, List, [], ◌∷◌, ◌++◌, Some, refl, sym, ap, ◌∙◌, subst, inl, inr, ◌⊎◌, true≢false, arith}
use Rattle.std.proofs.lemmas.Bool.{cases_eq, cases_lt}
use Rattle.iss_request.specs.declared.requests.Batch.{Batch}
use Rattle.iss_request.specs.declared.requests.Value.{Value}
use Rattle.iss_request.specs.declared.requests.Value.TheVariants.{Batch as Value_batch}
use Rattle.iss_sb.specs.declared.effects.Params.{Params}
use Rattle.iss_sb.specs.Calls.{IsGoodParams}
use Rattle.iss_sb.specs.Evidence.{IsString, Separate, World, is_correct}
use Rattle.iss_sb.specs.declared.content.Content.{Content}
use Rattle.iss_sb.specs.declared.content.Content.TheVariants.{Holds}
use Rattle.hs_tree.specs.declared.messages.Message.{Message}
use Rattle.hs_tree.specs.Tree.{filled, root, value_at}
use Rattle.hs_tree.proofs.Places.{here-is, value-on}
use Rattle.sb_chained.specs.Chained.{chained}
use Rattle.sb_chained.specs.Facts.{AreSafeVotes, AreStanding, IsAt, IsCertified, IsCommitted, IsLate, IsSafeVote, IsVoted, Leads}
use Rattle.sb_chained.proofs.Safety.CertifiedNodes.{below-it, committed-over, low-certified, middle-certified, not-root, quorums-meet, same-branch, same-node}
use Rattle.sb_chained.proofs.Safety.NodesHaveOneView.{path-on}

-- ---- The facts on single replicas

module _ (p : Params) (w : World Message) (acc : ℕ → ℕ → Batch → Type 0) where
  pub record Facts : Type 0 where
    pub one : (k v : ℕ) (d e : List ℕ) → IsVoted w k v d → IsVoted w k v e → d ≡ e
    pub stands : AreStanding p w
    pub locked : AreSafeVotes p w

  -- the batch that node k voted for it accepted at the place where it stands
  pub record First (k view : ℕ) (d : List ℕ) : Type 0 where
    pub parent : List ℕ
    pub what : Content
    pub node : IsAt p w d view parent what
    pub accepted : (cs : List Content) (b : Batch) → Leads p w parent root cs → what ≡ Holds b → acc k (filled cs) b

  -- a quorum that accepted a batch at a place, by their votes for its node
  pub record Accepted (k : ℕ) (b : Batch) : Type 0 where
    pub view : ℕ
    pub at : ℕ
    pub node : List ℕ
    pub parent : List ℕ
    pub below : List Content
    pub is : IsAt p w node at parent (Holds b)
    pub certified : IsCertified p w view node
    pub leads : Leads p w parent root below
    pub place : k ≡ filled below
    pub each : (j : ℕ) → certified.test j ≡ true → is_correct p.setup j ≡ true → acc j k b

  module _ (good : IsGoodParams chained p) (facts : Facts) where
    pub one-node : (v : ℕ) (d e : List ℕ) → IsCertified p w v d → IsCertified p w v e → d ≡ e
    one-node v d e c g = let m = quorums-meet p good c.test g.test c.many g.many in facts.one m.node v d e (c.each m.node m.first m.correct) (g.each m.node m.second m.correct)

    module _ (sep : Separate (IsString w)) where
      -- what a certified node of a view extends
      abbrev Extends : ℕ → List ℕ → List ℕ → Type 0
      Extends v e z = (cs : List Content) × Leads p w e z cs

      by-safe : (t v : ℕ) (e z : List ℕ) → ((x : ℕ) (g : List ℕ) → x < v → t ≤ x → IsCertified p w x g → Extends x g z) → IsSafeVote p w t v e → Extends v e z
      by-safe t v e z below k =
          let hi = k.high in
          let lo = k.low in
          elim k.safe [
            | inl s ↦
                let r = below k.view k.node lo hi k.lock in
                (s.0 ++ r.0, path-on p.setup.version (IsString w) e k.node z s.0 r.0 s.1 r.1)
            | inr s ↦
                let x1 = s.above in
                let x2 = s.below in
                let r = below s.view s.parent x2 (omega (arith, hi, x1)) s.certified in
                (s.what ∷ r.0, (v, s.parent, s.node, r.1))
          ]

      -- the view's leader may have voted late: then a quorum did without it, and no other node is late
      by-quorum : (t v : ℕ) (z e : List ℕ) → IsCommitted p w t z → suc (suc t) < v → ((x : ℕ) (g : List ℕ) → x < v → t ≤ x → IsCertified p w x g → Extends x g z) → IsCertified p w v e → Extends v e z
      by-quorum t v z e c far below g =
          let b = quorums-meet p good c.certified.test g.test c.certified.many g.many in
          elim (facts.locked b.node (suc (suc t)) v t c.top e z (c.certified.each b.node b.first b.correct) (g.each b.node b.second b.correct) far (committed-over p w good facts.stands t z c)) [
            | inl k ↦ by-safe t v e z below k
            | inr late ↦ without b.node late
          ]
        where
          without : (i : ℕ) → IsLate p w i v e → Extends v e z
          without i late =
              let b = quorums-meet p good c.certified.test late.certified.test c.certified.many late.certified.many in
              elim (facts.locked b.node (suc (suc t)) v t c.top e z (c.certified.each b.node b.first b.correct) (late.certified.each b.node b.second b.correct) far (committed-over p w good facts.stands t z c)) [
                | inl k ↦ by-safe t v e z below k
                | inr other ↦
                    let same : b.node ≡ i = sym other.leads ∙ late.leads in
                    absurd (true≢false (sym b.second ∙ ap late.certified.test same ∙ late.without))
              ]

      above : (n t : ℕ) (z : List ℕ) (v : ℕ) (e : List ℕ) → v < n → t ≤ v → IsCommitted p w t z → IsCertified p w v e → Extends v e z
      above zero t z v e l m c g = absurd (omega (arith, l))
      above (suc n) t z v e l m c g = elim (cases_eq v t) [
        | inl q ↦ ([], one-node t e z (subst (λ (x : ℕ). IsCertified p w x e) q g) (low-certified p w good facts.stands sep t z c))
        | inr n0 ↦ elim (cases_eq v (suc t)) [
          | inl q ↦
              let same = one-node (suc t) e c.middle (subst (λ (x : ℕ). IsCertified p w x e) q g) (middle-certified p w good facts.stands sep t z c) in
              subst (λ (x : List ℕ). Extends v x z) (sym same) (c.second ∷ [], (suc t, z, c.middle_is, refl))
          | inr n1 ↦ elim (cases_eq v (suc (suc t))) [
            | inl q ↦
                let same = one-node (suc (suc t)) e c.top (subst (λ (x : ℕ). IsCertified p w x e) q g) c.certified in
                subst (λ (x : List ℕ). Extends v x z) (sym same) (c.first ∷ (c.second ∷ []), (suc (suc t), c.middle, c.top_is, (suc t, z, c.middle_is, refl)))
            | inr n2 ↦ by-quorum t v z e c (omega (arith, m, n0, n1, n2)) (λ x h lt le q. above n t z x h (omega (arith, l, lt)) le c q) g
          ]
        ]
      ]

      -- a node that is certified at or above a committed node's view extends it
      pub extends-it : (t v : ℕ) (z e : List ℕ) → t ≤ v → IsCommitted p w t z → IsCertified p w v e → (cs : List Content) × Leads p w e z cs
      extends-it t v z e m c g = above (suc v) t z v e (omega arith) m c g

      agree-below : (u : ℕ) (d : List ℕ) (v : ℕ) (e : List ℕ) (k : ℕ) (cs es : List Content) (x y : Value) → u ≤ v → IsCommitted p w u d → IsCommitted p w v e →
          Leads p w d root cs → Leads p w e root es → value_at cs k ≡ Some x → value_at es k ≡ Some y → x ≡ y
      agree-below u d v e k cs es x y m c g bd be hx hy =
          let r = extends-it u v d e m c (low-certified p w good facts.stands sep v e g) in
          let q = path-on p.setup.version (IsString w) e d root r.0 cs r.1 bd in
          let same = same-branch p w good facts.stands sep e es (r.0 ++ cs) be q in
          let a : value_at (r.0 ++ cs) k ≡ Some x = value-on r.0 cs k x hx in
          let b : value_at (r.0 ++ cs) k ≡ Some y = ap (λ (z : List Content). value_at z k) (sym same) ∙ hy in
          let both : Some x ≡ Some y = sym a ∙ b in
          cc

      -- what stands at a place of two decided branches is the same
      pub agree : (u : ℕ) (d : List ℕ) (v : ℕ) (e : List ℕ) (k : ℕ) (cs es : List Content) (x y : Value) → IsCommitted p w u d → IsCommitted p w v e →
          Leads p w d root cs → Leads p w e root es → value_at cs k ≡ Some x → value_at es k ≡ Some y → x ≡ y
      agree u d v e k cs es x y c g bd be hx hy = elim (cases_lt v u) [
        | inl l ↦ sym (agree-below v e u d k es cs y x (omega (arith, l)) g c be bd hy hx)
        | inr l ↦ agree-below u d v e k cs es x y l c g bd be hx hy
      ]

      module _ (first : (k v : ℕ) (d : List ℕ) → IsVoted w k v d → First k v d) where
        -- the batch on top of a certified branch
        top : (v : ℕ) (d : List ℕ) (u : ℕ) (a : List ℕ) (b : Batch) (cs : List Content) → IsCertified p w v d → IsAt p w d u a (Holds b) → Leads p w a root cs → Accepted (filled cs) b
        top v d u a b cs q i br = record {
          view = v;
          at = u;
          node = d;
          parent = a;
          below = cs;
          is = i;
          certified = q;
          leads = br;
          place = refl;
          each = λ j m t.
              let f = first j v d (q.each j m t) in
              let s = same-node p w good facts.stands sep d v u f.parent a f.what (Holds b) f.node i in
              f.accepted cs b (subst (λ (z : List ℕ). Leads p w z root cs) (sym s.parents) br) s.contents;
        }

        root-or : (b : Batch) (k : ℕ) (cs : List Content) (a : List ℕ) (v : ℕ) → ((x : ℕ) → IsCertified p w x a → value_at cs k ≡ Some (Value_batch b) → Accepted k b) →
            (a ≡ root) ⊎ ((x : ℕ) × (x < v) × IsCertified p w x a) → Leads p w a root cs → value_at cs k ≡ Some (Value_batch b) → Accepted k b
        root-or b k [] a v r s br h = absurd cc
        root-or b k (c ∷ cs) a v r (inl z) br h = absurd (not-root p w good facts.stands sep a br.0 br.1 c br.2 z)
        root-or b k (c ∷ cs) a v r (inr z) br h = r z.0 z.2 h

        -- a batch of a certified branch was accepted by a quorum there
        pub accepted-root : (cs : List Content) (v : ℕ) (d : List ℕ) (k : ℕ) (b : Batch) → IsCertified p w v d → Leads p w d root cs → value_at cs k ≡ Some (Value_batch b) → Accepted k b
        accepted-root [] v d k b q br h = absurd cc
        accepted-root (c ∷ cs) v d k b q br h = elim (here-is k (filled cs) c (value_at cs k) b h) [
          | inl z ↦
              let i = subst (λ (y : Content). IsAt p w d br.0 br.1 y) z.1 br.2 in
              subst (λ (y : ℕ). Accepted y b) (sym z.0) (top v d br.0 br.1 b cs q i br.3)
          | inr z ↦ root-or b k cs br.1 v (λ x g r. accepted-root cs x br.1 k b g br.3 r) (below-it p w good facts.stands sep v br.0 d br.1 c q br.2) br.3 z
        ]

        pub share : (k m : ℕ) (b c : Batch) → Accepted k b → Accepted m c → (j : ℕ) × (is_correct p.setup j ≡ true) × acc j k b × acc j m c
        share k m b c r q = let s = quorums-meet p good r.certified.test q.certified.test r.certified.many q.certified.many in (s.node, s.correct, r.each s.node s.first s.correct, q.each s.node s.second s.correct)
