-- Agreement from the facts about single correct replicas: one digest a view, the decided digest in all later views,
-- and an accepting quorum for each batch.
use Rattle.std.proofs.Common.{◌≡◌, ◌⊎◌, ◌<◌, ◌≤◌, ◌+◌, ◌*◌, ◌%◌, ◌||◌, ◌∷◌, ◌∙◌, ℕ, zero, suc, Bool, true, false, List, length, Option, Some, None, refl, sym, ap, subst, inl, inr, arith, true≢false}
use Rattle.std.proofs.lemmas.Bool.{cases_Bool, cases_eq, cases_lt, eq-eqb, eqb-true, false≢true, lt-ltb, or_left}
use Rattle.std.specs.Prelude.{nat_lt, ◌==◌}
use Rattle.iss_base.specs.Lists.{In}
use Rattle.iss_base.specs.Quorum.{all_below, distinct, mem}
use Rattle.iss_base.proofs.Lists.{both}
use Rattle.iss_base.proofs.Quorum.{count-distinct}
use Rattle.iss_request.specs.declared.ids.Slot.{Slot}
use Rattle.iss_request.specs.declared.requests.Batch.{Batch}
use Rattle.iss_request.specs.declared.requests.Value.{Value}
use Rattle.iss_request.specs.declared.requests.Value.TheVariants.{Batch as Value_batch}
use Rattle.iss_sb.specs.Calls.{IsGoodParams}
use Rattle.iss_sb.specs.Evidence.{IsSigned, IsString, Separate, World, accepts, is_correct}
use Rattle.iss_sb.specs.Laws.{SharedAcceptor}
use Rattle.iss_sb.specs.declared.effects.Params.{Params}
use Rattle.iss_sb.proofs.Quorums.{Meets, few-faulty, meets}
use Rattle.pbft_wire.specs.Statements.{digest_of, state_at, state_change, string_of}
use Rattle.pbft_wire.specs.declared.messages.Certificate.{Certificate}
use Rattle.pbft_wire.specs.declared.messages.Change.{Change}
use Rattle.pbft_wire.specs.declared.messages.Message.{Message}
use Rattle.pbft_views.specs.Choice.{best, certificates_of, choice, value_or_nil}
use Rattle.pbft_views.specs.Claims.{changes_claims}
use Rattle.pbft_views.specs.Good.{are_enough, primary}
use Rattle.pbft_views.specs.Laws.{makers_of}
use Rattle.pbft_views.proofs.Choices.{Is, best-in, best-max, in-certificates}
use Rattle.pbft_views.proofs.Good.{enough-changes, maker-at}
use Rattle.pbft_views.proofs.Statements.{one-value}
use Rattle.sb_pbft.specs.Facts.{AreTrue, IsDecidedView, IsKnown, IsRooted, Shows}
use Rattle.sb_pbft.specs.Pbft.{pbft}
use Rattle.sb_pbft.proofs.Messages.OwnClaimsWereSent.{primary-zero}

module _ (p : Params) (w : World Message) where
  abbrev pub Signed : ℕ → List ℕ → Type 0
  Signed j t = IsSigned pbft p w j t

  abbrev pub Granted : ℕ → List ℕ → Type 0
  Granted j t = is_correct p.setup j ≡ true → IsSigned pbft p w j t

  abbrev pub Accepted : ℕ → ℕ → Batch → Type 0
  Accepted j s b = In {A = Slot × Batch} (record { 0 = s }, b) (accepts (w j))

  -- a value was prepared in a view: the correct ones among its primary and 2f backups voted for it
  pub record Certified (v s : ℕ) (x : Value) : Type 0 where
    pub makers : List ℕ
    pub count : length makers ≡ 2 * p.setup.f
    pub apart : distinct (primary p v ∷ makers) ≡ true
    pub below : all_below p.setup.n makers ≡ true
    pub first : Granted (primary p v) (state_at p 1 v s (digest_of p x))
    pub rest : (j : ℕ) → mem j makers ≡ true → Granted j (state_at p 2 v s (digest_of p x))

  -- and the value is known, so that its digest names it
  pub record Traced (v s : ℕ) (x : Value) : Type 0 where
    pub votes : Certified v s x
    pub known : IsKnown p w x

  -- 2f+1 good ViewChanges for view v
  pub record Backed (v : ℕ) (xs : List Change) : Type 0 where
    pub enough : are_enough p v xs ≡ true
    pub signed : AreTrue p w (changes_claims p xs)
    pub each : (x : Change) → In x xs → Granted x.node.0 (state_change p v x.certificates)
    pub certs : (c : Certificate) → In c (certificates_of xs) → (c.view < v) × Traced c.view c.slot.0 c.value

  -- the reason of a vote: in view 0 an accepted batch, above it the choice of ViewChanges
  pub record Accepts (j s : ℕ) (d : List ℕ) : Type 0 where
    pub batch : Batch
    pub digest : digest_of p (Value_batch batch) ≡ d
    pub known : IsKnown p w (Value_batch batch)
    pub accepted : Accepted j s batch

  pub record Chooses (v s : ℕ) (d : List ℕ) : Type 0 where
    pub changes : List Change
    pub backed : Backed v changes
    pub digest : digest_of p (choice changes s) ≡ d
    pub known : IsKnown p w (choice changes s)

  abbrev pub Reason : ℕ → ℕ → ℕ → List ℕ → Type 0
  Reason j v s d = ((v ≡ 0) × Accepts j s d) ⊎ ((0 < v) × Chooses v s d)

  pub record Certifies (v s : ℕ) (d : List ℕ) : Type 0 where
    pub value : Value
    pub digest : digest_of p value ≡ d
    pub good : Certified v s value

  -- the facts about each correct replica
  pub record NodeFacts : Type 0 where
    pub one_pre : (j v s : ℕ) (d e : List ℕ) → is_correct p.setup j ≡ true → Signed j (state_at p 1 v s d) →
        Signed j (state_at p 1 v s e) → d ≡ e
    pub one_prepare : (j v s : ℕ) (d e : List ℕ) → is_correct p.setup j ≡ true → Signed j (state_at p 2 v s d) →
        Signed j (state_at p 2 v s e) → d ≡ e
    pub why_pre : (j v s : ℕ) (d : List ℕ) → is_correct p.setup j ≡ true → Signed j (state_at p 1 v s d) →
        Reason j v s d
    pub why_prepare : (j v s : ℕ) (d : List ℕ) → is_correct p.setup j ≡ true → Signed j (state_at p 2 v s d) →
        Reason j v s d
    pub why_commit : (j v s : ℕ) (d : List ℕ) → is_correct p.setup j ≡ true → Signed j (state_at p 3 v s d) →
        Certifies v s d
    pub covers : (j v s : ℕ) (d : List ℕ) (u : ℕ) (cs : List Certificate) → is_correct p.setup j ≡ true →
        Signed j (state_at p 3 v s d) → Signed j (state_change p u cs) → v < u → Shows cs s v

  abbrev Voted : ℕ → ℕ → ℕ → List ℕ → Type 0
  Voted j v s d = (((j == primary p v) ≡ true) × Signed j (state_at p 1 v s d)) ⊎ (((j == primary p v) ≡ false) × Signed j (state_at p 2 v s d))

  module _ (good : IsGoodParams pbft p) where
    nodes-is : p.setup.n ≡ 3 * p.setup.f + 1
    nodes-is = good.nodes

    -- quorum intersection: two lists of 2f+1 distinct replicas share a correct one
    pub meet-lists : (xs ys : List ℕ) → distinct xs ≡ true → distinct ys ≡ true → all_below p.setup.n xs ≡ true →
        all_below p.setup.n ys ≡ true → 2 * p.setup.f + 1 ≤ length xs → 2 * p.setup.f + 1 ≤ length ys →
        Meets p (λ k. mem k xs) (λ k. mem k ys)
    meet-lists xs ys dx dy bx by lx ly =
        let n = nodes-is in
        let q : p.setup.quorum ≡ 2 * p.setup.f + 1 = good.majority in
        let cx = count-distinct p.setup.n xs bx dx in
        let cy = count-distinct p.setup.n ys by dy in
        meets p p.setup.f (λ k. mem k xs) (λ k. mem k ys) (few-faulty pbft p good refl) (omega (arith, n, q)) (omega (arith, q, cx, lx)) (omega (arith, q, cy, ly))

    primary-below : (v : ℕ) → primary p v < p.setup.n
    primary-below v = rw nodes-is (modulo p.setup.f (p.leader.0 + v))
      where
        modulo : (f a : ℕ) → a % (3 * f + 1) < 3 * f + 1
        modulo f a = omega arith

    voters-below : (v : ℕ) (ms : List ℕ) → all_below p.setup.n ms ≡ true → all_below p.setup.n (primary p v ∷ ms) ≡ true
    voters-below v ms h = both (nat_lt (primary p v) p.setup.n) (all_below p.setup.n ms) (lt-ltb (primary p v) p.setup.n (primary-below v)) h

    module _ (facts : NodeFacts) where
      voted : (v s j : ℕ) (x : Value) (c : Certified v s x) → mem j (primary p v ∷ c.makers) ≡ true →
          is_correct p.setup j ≡ true → Voted j v s (digest_of p x)
      voted v s j x c m h = elim (cases_Bool (j == primary p v)) [
        | inl e ↦ let k = eqb-true j (primary p v) e in inl (e, subst (λ (z : ℕ). Signed z (state_at p 1 v s (digest_of p x))) (sym k) (c.first (subst (λ (z : ℕ). is_correct p.setup z ≡ true) k h)))
        | inr e ↦ inr (e, c.rest j (mem-rest (j == primary p v) (mem j c.makers) e m) h)
      ]
        where
          mem-rest : (a b : Bool) → a ≡ false → (a || b) ≡ true → b ≡ true
          mem-rest false b e k = k
          mem-rest true b e k = absurd (true≢false e)

      why : (v s j : ℕ) (d : List ℕ) → is_correct p.setup j ≡ true → Voted j v s d → Reason j v s d
      why v s j d h (inl a) = facts.why_pre j v s d h a.1
      why v s j d h (inr a) = facts.why_prepare j v s d h a.1

      one-vote : (v s j : ℕ) (d e : List ℕ) → is_correct p.setup j ≡ true → Voted j v s d → Voted j v s e → d ≡ e
      one-vote v s j d e h (inl a) (inl b) = facts.one_pre j v s d e h a.1 b.1
      one-vote v s j d e h (inl a) (inr b) = absurd (false≢true (sym b.0 ∙ a.0))
      one-vote v s j d e h (inr a) (inl b) = absurd (false≢true (sym a.0 ∙ b.0))
      one-vote v s j d e h (inr a) (inr b) = facts.one_prepare j v s d e h a.1 b.1

      meet-voters : (v s : ℕ) (x y : Value) (c : Certified v s x) (d : Certified v s y) →
          Meets p (λ k. mem k (primary p v ∷ c.makers)) (λ k. mem k (primary p v ∷ d.makers))
      meet-voters v s x y c d =
          let nc = c.count in
          let nd = d.count in
          meet-lists (primary p v ∷ c.makers) (primary p v ∷ d.makers) c.apart d.apart (voters-below v c.makers c.below) (voters-below v d.makers d.below) (omega (arith, nc)) (omega (arith, nd))

      -- two lists of voters share a correct replica
      pub same-view : (v s : ℕ) (x y : Value) → Certified v s x → Certified v s y → digest_of p x ≡ digest_of p y
      same-view v s x y c d =
          let m = meet-voters v s x y c d in
          one-vote v s m.node (digest_of p x) (digest_of p y) m.correct (voted v s m.node x c m.first m.correct) (voted v s m.node y d m.second m.correct)

      -- above view 0 the value is the choice of good ViewChanges
      backing : (v s : ℕ) (x : Value) → 0 < v → Certified v s x → Chooses v s (digest_of p x)
      backing v s x l c =
          let m = meet-voters v s x x c c in
          elim (why v s m.node (digest_of p x) m.correct (voted v s m.node x c m.first m.correct)) [ inl a ↦ let e = a.0 in absurd (omega (arith, e, l)) | inr a ↦ a.1 ]

      -- a correct replica is in both the ViewChanges for v and the Commits of a lower view, so the best certificate
      -- is not below these Commits
      covered : (u v s : ℕ) (d : List ℕ) (xs : List Change) → u < v → IsDecidedView p w u s d → Backed v xs →
          (e : Certificate) × Is (best s (certificates_of xs)) e × (u ≤ e.view)
      covered u v s d xs l k b =
          let has = enough-changes p v xs b.enough in
          let many = has.count in
          let m = meet-lists (makers_of xs) k.nodes has.apart k.apart has.below k.below (omega (arith, many)) k.count in
          let x = maker-at m.node xs m.first in
          let t = b.each x.0 x.1 (subst (λ (z : ℕ). is_correct p.setup z ≡ true) (sym x.2) m.correct) in
          let t' = subst (λ (z : ℕ). Signed z (state_change p v x.0.certificates)) x.2 t in
          let g = facts.covers m.node u s d v x.0.certificates m.correct (k.each m.node m.second m.correct) t' l in
          let r = best-max s (certificates_of xs) g.certificate (in-certificates g.certificate x.0 xs x.1 g.stands) g.slot in
          let hi = g.high in
          let e = r.2 in
          (r.0, r.1, omega (arith, hi, e))

      -- the best certificate of good ViewChanges is valid and of a lower view
      lower : (v s : ℕ) (xs : List Change) (e : Certificate) → Backed v xs → Is (best s (certificates_of xs)) e →
          (e.view < v) × Traced e.view s e.value
      lower v s xs e b h =
          let i = best-in s (certificates_of xs) e h in
          let c = b.certs e i.0 in
          (c.0, subst (λ (z : ℕ). Traced e.view z e.value) i.1 c.1)

      -- once a view decided a slot, valid certificates of the slot in that view or a higher one have its digest
      later : (n u v s : ℕ) (d : List ℕ) (x : Value) → v < n → u ≤ v → IsDecidedView p w u s d → Certified v s x →
          digest_of p x ≡ d
      later zero u v s d x l m k c = absurd (omega (arith, l))
      later (suc n) u v s d x l m k c = elim (cases_eq u v) [
        | inl e ↦
            let q = meet-lists k.nodes k.nodes k.apart k.apart k.below k.below k.count k.count in
            let y = facts.why_commit q.node u s d q.correct (k.each q.node q.first q.correct) in
            same-view u s x y.value (subst (λ (z : ℕ). Certified z s x) (sym e) c) y.good ∙ y.digest
        | inr ne ↦
            let b = backing v s x (omega (arith, m, ne)) c in
            let r = covered u v s d b.changes (omega (arith, m, ne)) k b.backed in
            let g = lower v s b.changes r.0 b.backed r.1 in
            let h : u ≤ r.0.view = r.2 in
            let i = g.0 in
            let a = later n u r.0.view s d r.0.value (omega (arith, i, l)) h k g.1.votes in
            sym b.digest ∙ (ap (λ (z : Option Certificate). digest_of p (value_or_nil z)) r.1 ∙ a)
      ]

      pub later-same : (u v s : ℕ) (d : List ℕ) (x : Value) → u ≤ v → IsDecidedView p w u s d → Certified v s x →
          digest_of p x ≡ d
      later-same u v s d x m k c = later (suc v) u v s d x (omega arith) m k c

      -- ---- if a certificate holds a batch, a quorum accepted it in view 0

      module _ (sep : Separate (IsString w)) where
        pub one-known : (x y : Value) → IsKnown p w x → IsKnown p w y → digest_of p x ≡ digest_of p y → x ≡ y
        one-known x y h k e = one-value p x y h.spelled k.spelled (sep (string_of p x) (string_of p y) h.hashed k.hashed e)

        holds-same : (b c : Batch) → Value_batch b ≡ Value_batch c → b ≡ c
        holds-same b c h = cc

        accepts-it : (j s : ℕ) (b : Batch) → IsKnown p w (Value_batch b) → Accepts j s (digest_of p (Value_batch b)) →
            Accepted j s b
        accepts-it j s b i a =
            let same = one-known (Value_batch a.batch) (Value_batch b) a.known i a.digest in
            subst (λ (z : Batch). Accepted j s z) (holds-same a.batch b same) a.accepted

        ground-floor : (s : ℕ) (b : Batch) → Traced 0 s (Value_batch b) → IsRooted p w s b
        ground-floor s b t =
            let c = t.votes in
            let n = c.count in
            let zero-is = primary-zero p (p.leader.0) good.leader in
            record {
              quorum = record {
                nodes = primary p 0 ∷ c.makers;
                count = omega (arith, n);
                apart = c.apart;
                below = voters-below 0 c.makers c.below;
                each = λ j m h. elim (why 0 s j (digest_of p (Value_batch b)) h (voted 0 s j (Value_batch b) c m h)) [
                  | inl a ↦ accepts-it j s b t.known a.1
                  | inr a ↦ let z = a.0 in absurd (omega (arith, z))
                ];
              };
              led = or_left (p.leader.0 == primary p 0) (mem p.leader.0 c.makers) (eq-eqb p.leader.0 (primary p 0) (sym zero-is));
            }

        best-value : (o : Option Certificate) (b : Batch) → value_or_nil o ≡ Value_batch b →
            (e : Certificate) × Is o e × (e.value ≡ Value_batch b)
        best-value None b h = absurd (cc)
        best-value (Some e) b h = (e, refl, h)

        down : (n v s : ℕ) (b : Batch) → v < n → Traced v s (Value_batch b) → IsRooted p w s b
        down zero v s b l c = absurd (omega (arith, l))
        down (suc n) v s b l c = elim (cases_eq v 0) [
          | inl e ↦ ground-floor s b (subst (λ (z : ℕ). Traced z s (Value_batch b)) e c)
          | inr ne ↦
              let k = backing v s (Value_batch b) (omega (arith, ne)) c.votes in
              let same = one-known (choice k.changes s) (Value_batch b) k.known c.known k.digest in
              let o = best-value (best s (certificates_of k.changes)) b same in
              let g = lower v s k.changes o.0 k.backed o.1 in
              let i = g.0 in
              down n o.0.view s b (omega (arith, i, l)) (subst (λ (z : Value). Traced o.0.view s z) o.2 g.1)
        ]

        pub rooted : (v s : ℕ) (b : Batch) → Traced v s (Value_batch b) → IsRooted p w s b
        rooted v s b c = down (suc v) v s b (omega arith) c

        -- what deliveries imply

        pub agree : (u v s : ℕ) (x y : Value) → IsDecidedView p w u s (digest_of p x) → Traced u s x →
            IsDecidedView p w v s (digest_of p y) → Traced v s y → x ≡ y
        agree u v s x y k c m d = elim (cases_lt v u) [
          | inl l ↦ one-known x y c.known d.known (later-same v u s (digest_of p y) x (omega (arith, l)) m c.votes)
          | inr l ↦ one-known x y c.known d.known (sym (later-same u v s (digest_of p x) y l k d.votes))
        ]

        pub share : (s t : Slot) (b c : Batch) → IsRooted p w s.0 b → IsRooted p w t.0 c → SharedAcceptor p w s b t c
        share s t b c r q =
            let m = meet-lists r.quorum.nodes q.quorum.nodes r.quorum.apart q.quorum.apart r.quorum.below q.quorum.below r.quorum.count q.quorum.count in
            record { node = m.node; correct = m.correct; first = r.quorum.each m.node m.first m.correct; second = q.quorum.each m.node m.second m.correct }
