-- Facts about single correct replicas in a reachable world: they vote once, and each signature has a reason.
use Rattle.std.proofs.Common.{◌≡◌, ◌<◌, ◌∷◌, ◌∙◌, ℕ, true, List, sym, ap, subst, inl, inr, arith}
use Rattle.iss_request.specs.declared.ids.Slot.{Slot}
use Rattle.iss_request.specs.declared.requests.Batch.{Batch}
use Rattle.iss_request.specs.declared.requests.Value.{Value}
use Rattle.iss_request.specs.declared.requests.Value.TheVariants.{Batch as Value_batch}
use Rattle.iss_sb.specs.Calls.{IsGoodParams, has_slot}
use Rattle.iss_sb.specs.Evidence.{IsReached, IsSigned, Item, Made, World, is_correct}
use Rattle.iss_sb.specs.Legal.{Front, IsLegal}
use Rattle.iss_sb.specs.declared.effects.Params.{Params}
use Rattle.iss_sb.proofs.Legal.{front-in, legal-reached, made-front}
use Rattle.pbft_wire.specs.Statements.{digest_of, state_at, state_change}
use Rattle.pbft_wire.specs.declared.messages.Certificate.{Certificate}
use Rattle.pbft_wire.specs.declared.messages.Change.{Change}
use Rattle.pbft_wire.specs.declared.messages.Message.{Message}
use Rattle.pbft_views.specs.Choice.{choice}
use Rattle.pbft_views.specs.Laws.{makers_of}
use Rattle.pbft_views.proofs.Good.{enough-changes, maker-at}
use Rattle.sb_pbft.specs.Facts.{IsKnown, Shows}
use Rattle.sb_pbft.specs.Makes.{DraftCommit, DraftNewView, DraftPrePrepare, DraftPrepare, inputs, kept}
use Rattle.sb_pbft.specs.Pbft.{pbft}
use Rattle.sb_pbft.specs.Rules.{mode, proposal}
use Rattle.sb_pbft.proofs.ViewChange.NewViewsHaveAQuorum.{completed-known, entered-backed, made-backed}
use Rattle.sb_pbft.proofs.Basics.{In-has, same-some}
use Rattle.sb_pbft.proofs.Safety.DecidedValuesStay.{Accepts, Backed, Certified, Certifies, NodeFacts, Reason, meet-lists}
use Rattle.sb_pbft.proofs.Messages.SignedWasDrafted.{IsDraftedBy, MakesProposal, among, at_first, at_new, by-rule, makes-change, makes-commit, makes-prepare, makes-proposal, signed-drafted}
use Rattle.sb_pbft.proofs.ViewChange.CommitsAreShown.{commit-rule, covers}
use Rattle.sb_pbft.proofs.ViewChange.OneNewViewAView.{IsFromChange, StartsWith, completes-is, from-change, one-new, starts-with}
use Rattle.sb_pbft.proofs.Messages.SentDecodes.{ready-is}
use Rattle.sb_pbft.proofs.History.OnePrepareAView.{Asked, Proposed, SameDraft, one-prepare}
use Rattle.sb_pbft.proofs.Safety.SeenClaimsAreTrue.{Entry, Part, asked-known, certified-from, entered-choice}
use Rattle.sb_pbft.proofs.History.ViewsGrow.{entered}
use Rattle.sb_pbft.proofs.Safety.VotesAreJustified.{IsAnswer, accepted-in, answer-of-rule, change-above, commit-proposed, first-of-rule, first-proposed, to_batch, to_view}

module _ (p : Params) (good : IsGoodParams pbft p) (w : World Message) (reached : IsReached pbft p w) where
  legal : IsLegal pbft p w
  legal = legal-reached pbft p w reached

  front-part : (i : ℕ) (xs : List (Item Message)) → Front xs (w i) → Part p good w legal i xs
  front-part i xs f x h = front-in x xs (w i) f h

  abbrev By : ℕ → List ℕ → Type 0
  By i t = IsDraftedBy p good w reached i t

  module _ (i : ℕ) (correct : is_correct p.setup i ≡ true) where
    draft-of : (t : List ℕ) → IsSigned pbft p w i t → By i t
    draft-of t h = signed-drafted p good w reached i t correct h

    prepare-draft : (v s : ℕ) (d : List ℕ) (b : By i (state_at p 2 v s d)) →
        SameDraft b.draft (DraftPrepare v (record { 0 = s }) d)
    prepare-draft v s d b = makes-prepare p i b.leaf b.draft v s d b.states

    commit-draft : (v s : ℕ) (d : List ℕ) (b : By i (state_at p 3 v s d)) →
        SameDraft b.draft (DraftCommit v (record { 0 = s }) d)
    commit-draft v s d b = makes-commit p i b.leaf b.draft v s d b.states

    -- ---- one vote

    pub one-prepare-signed : (v s : ℕ) (d e : List ℕ) → IsSigned pbft p w i (state_at p 2 v s d) →
        IsSigned pbft p w i (state_at p 2 v s e) → d ≡ e
    one-prepare-signed v s d e a b =
        let x = draft-of (state_at p 2 v s d) a in
        let y = draft-of (state_at p 2 v s e) b in
        one-prepare p i (w i) v (record { 0 = s }) d e (among p good w reached i _ x _ (prepare-draft v s d x)) (among p good w reached i _ y _ (prepare-draft v s e y))

    commit-stands : (v s : ℕ) (d : List ℕ) → IsSigned pbft p w i (state_at p 3 v s d) →
        Proposed p i (inputs (w i)) v s d
    commit-stands v s d a = let x = draft-of (state_at p 3 v s d) a in commit-proposed p i (w i) v (record { 0 = s }) d (among p good w reached i _ x _ (commit-draft v s d x))

    same-proposed : (v s : ℕ) (d e : List ℕ) → Proposed p i (inputs (w i)) v s d → Proposed p i (inputs (w i)) v s e →
        d ≡ e
    same-proposed v s d e x y = sym x.digest ∙ ap (digest_of p) (same-some (proposal p i (inputs (w i)) v s) x.value y.value x.stands y.stands) ∙ y.digest

    pub one-commit-signed : (v s : ℕ) (d e : List ℕ) → IsSigned pbft p w i (state_at p 3 v s d) →
        IsSigned pbft p w i (state_at p 3 v s e) → d ≡ e
    one-commit-signed v s d e a b = same-proposed v s d e (commit-stands v s d a) (commit-stands v s e b)

    -- ---- the ViewChanges of a NewView

    record IsStarted (t : List ℕ) (b : By i t) (v : ℕ) (ys : List Change) : Type 0 where
      pub backed_by : Backed p w v ys
      pub known : (s : ℕ) → has_slot s p.slots ≡ true → IsKnown p w (choice ys s)

    started : (t : List ℕ) (b : By i t) (v : ℕ) (ys : List Change) → SameDraft b.draft (DraftNewView v ys) →
        IsStarted t b v ys
    started t b v ys same = go (starts-with p i b.before b.item.input v ys (by-rule p good w reached i t b _ same)) (from-change p i b.before b.item.input v ys (by-rule p good w reached i t b _ same))
      where
        go : StartsWith p i b.before b.item.input v ys → IsFromChange b.item.input v → IsStarted t b v ys
        go s c =
            let xs = b.item ∷ b.before in
            let sub = front-part i xs b.front in
            let made = made-front pbft p i xs (w i) b.front (legal.made i) in
            let many = (completes-is p i (inputs b.before) b.item.input v s.completes).now in
            record {
              backed_by = subst (λ (z : List Change). Backed p w v z) (sym s.changes) (made-backed p good w legal i xs v sub made many);
              known = λ n h. subst (λ (z : List Change). IsKnown p w (choice z n)) (sym s.changes) (completed-known p good w legal i b.item b.before c.from v n c.certificates c.sig b.taken b.made c.input s.completes sub h);
            }

  -- at least one of 2f+1 ViewChanges is signed by a correct replica
  some-change : (v : ℕ) (xs : List Change) → Backed p w v xs →
      (j : ℕ) × (cs : List Certificate) × (is_correct p.setup j ≡ true) × IsSigned pbft p w j (state_change p v cs)
  some-change v xs b =
      let has = enough-changes p v xs b.enough in
      let many = has.count in
      let m = meet-lists p w good (makers_of xs) (makers_of xs) has.apart has.apart has.below has.below (omega (arith, many)) (omega (arith, many)) in
      let x = maker-at m.node xs m.first in
      let correct = subst (λ (z : ℕ). is_correct p.setup z ≡ true) (sym x.2) m.correct in
      (x.0.node.0, x.0.certificates, correct, b.each x.0 x.1 correct)

  -- hence no correct replica signs a NewView for view 0
  new-above : (v : ℕ) (xs : List Change) → Backed p w v xs → 0 < v
  new-above v xs b =
      let r = some-change v xs b in
      let j = r.0 in
      let d = draft-of j r.2 (state_change p v r.1) r.3 in
      let m = makes-change p j d.leaf d.draft v r.1 d.states in
      change-above p j d.before d.item.input v m.certificates (by-rule p good w reached j _ d _ m.is)

  module _ (i : ℕ) (correct : is_correct p.setup i ≡ true) where
    proposal-draft : (v s : ℕ) (d : List ℕ) (b : By i (state_at p 1 v s d)) → MakesProposal p i b.leaf b.draft v s d
    proposal-draft v s d b = makes-proposal p i b.leaf b.draft v s d b.states

    first-stands : (t : List ℕ) (b : By i t) (s : ℕ) (d : List ℕ) (slot : Slot) (x : Value) →
        SameDraft b.draft (DraftPrePrepare slot x) → slot.0 ≡ s → digest_of p x ≡ d → Proposed p i (inputs (w i)) 0 s d
    first-stands t b s d slot x same at_slot e =
        let r = first-proposed p i (w i) slot x (among p good w reached i t b _ same) in
        subst (λ (z : ℕ). Proposed p i (inputs (w i)) 0 z d) at_slot (subst (λ (z : List ℕ). Proposed p i (inputs (w i)) 0 slot.0 z) e r)

    pub one-pre-signed : (v s : ℕ) (d e : List ℕ) → IsSigned pbft p w i (state_at p 1 v s d) →
        IsSigned pbft p w i (state_at p 1 v s e) → d ≡ e
    one-pre-signed v s d e a b = go (draft-of i correct (state_at p 1 v s d) a) (draft-of i correct (state_at p 1 v s e) b)
      where
        mixed : (t u : List ℕ) (x : By i t) (y : By i u) (ys : List Change) → v ≡ 0 →
            SameDraft y.draft (DraftNewView v ys) → ⊥
        mixed t u x y ys z same = let l = new-above v ys (started i correct u y v ys same).backed_by in absurd (omega (arith, l, z))

        by : (x : By i (state_at p 1 v s d)) (y : By i (state_at p 1 v s e)) → MakesProposal p i x.leaf x.draft v s d →
            MakesProposal p i y.leaf y.draft v s e → d ≡ e
        by x y (at_first t c q z n k) (at_first u g r o m l) = same-proposed i correct 0 s d e (first-stands _ x s d t c q n k) (first-stands _ y s e u g r m l)
        by x y (at_first t c q z n k) (at_new ys u r o m l) = absurd (mixed _ _ x y ys z r)
        by x y (at_new zs t q o n k) (at_first u g r z m l) = absurd (mixed _ _ y x zs z q)
        by x y (at_new zs t q o n k) (at_new ys u r j m l) =
            let same = one-new p i (w i) v zs ys (among p good w reached i _ x _ q) (among p good w reached i _ y _ r) in
            sym k ∙ ap (λ (z : List Change). digest_of p (choice z s)) same ∙ l

        go : By i (state_at p 1 v s d) → By i (state_at p 1 v s e) → d ≡ e
        go x y = by x y (proposal-draft v s d x) (proposal-draft v s e y)

    -- ---- reasons of signatures

    accepts-of : (t : List ℕ) (b : By i t) (slot : Slot) (batch : Batch) (d : List ℕ) →
        Asked p i (inputs b.before) b.item.input (slot, batch) → digest_of p (Value_batch batch) ≡ d →
        Accepts p w i slot.0 d
    accepts-of t b slot batch d asks e = record {
      batch = batch;
      digest = e;
      known = asked-known p good w legal i b.item b.before (slot, batch) b.taken b.made asks;
      accepted = accepted-in (w i) b.item (slot, batch) b.taken (ap (λ (z : Made Message). z.accepted) b.made ∙ asks);
    }

    pub why-pre : (v s : ℕ) (d : List ℕ) → IsSigned pbft p w i (state_at p 1 v s d) → Reason p w i v s d
    why-pre v s d h = go (draft-of i correct (state_at p 1 v s d) h)
      where
        by : (b : By i (state_at p 1 v s d)) → MakesProposal p i b.leaf b.draft v s d → Reason p w i v s d
        by b (at_first t x q z n k) =
            let r = first-of-rule p i b.before b.item.input t x (by-rule p good w reached i _ b _ q) in
            let a = accepts-of _ b t r.batch d r.asked (ap (digest_of p) (sym r.value) ∙ k) in
            inl (z, subst (λ (m : ℕ). Accepts p w i m d) n a)
        by b (at_new ys t q o n k) =
            let g = started i correct _ b v ys q in
            let has : has_slot s p.slots ≡ true = subst (λ (m : ℕ). has_slot m p.slots ≡ true) n (In-has t p.slots o) in
            inr (new-above v ys g.backed_by, record { changes = ys; backed = g.backed_by; digest = k; known = g.known s has })

        go : By i (state_at p 1 v s d) → Reason p w i v s d
        go b = by b (proposal-draft v s d b)

    pub why-prepare : (v s : ℕ) (d : List ℕ) → IsSigned pbft p w i (state_at p 2 v s d) → Reason p w i v s d
    why-prepare v s d h = go (draft-of i correct (state_at p 2 v s d) h)
      where
        slot : Slot
        slot = record { 0 = s }

        by : (b : By i (state_at p 2 v s d)) → IsAnswer p i b.before b.item.input v slot d → Reason p w i v s d
        by b (to_batch batch asks z e) = inl (z, accepts-of _ b slot batch d asks e)
        by b (to_view from ys sigs sig q k o e) =
            let n : Entry p good w legal i b.item b.before from v ys sigs sig = record { taken = b.taken; made = b.made; input = q; enters_it = k } in
            inr (
              (entered p (mode p (inputs b.before)) from.0 v ys sigs k).above,
              record {
                changes = ys;
                backed = entered-backed p good w legal i b.item b.before from v ys sigs sig n;
                digest = e;
                known = entered-choice p good w legal i b.item b.before from v s ys sigs sig n (In-has slot p.slots o);
              },
            )

        go : By i (state_at p 2 v s d) → Reason p w i v s d
        go b = by b (answer-of-rule p i b.before b.item.input v slot d (by-rule p good w reached i _ b _ (prepare-draft i correct v s d b)))

    pub why-commit : (v s : ℕ) (d : List ℕ) → IsSigned pbft p w i (state_at p 3 v s d) → Certifies p w v s d
    why-commit v s d h = go (draft-of i correct (state_at p 3 v s d) h)
      where
        slot : Slot
        slot = record { 0 = s }

        go : By i (state_at p 3 v s d) → Certifies p w v s d
        go b =
            let xs = b.item ∷ b.before in
            let r = commit-rule p i b.before b.item.input v slot d (by-rule p good w reached i _ b _ (commit-draft i correct v s d b)) in
            let a = (ready-is p i (inputs xs) (kept p i b.before) s r.value r.ready).prepared in
            let c = certified-from p good w legal i xs (mode p (inputs xs)).view s r.value (front-part i xs b.front) (made-front pbft p i xs (w i) b.front (legal.made i)) a.proposed a.voted in
            record { value = r.value; digest = sym r.digest; good = subst (λ (z : ℕ). Certified p w z s r.value) (sym r.view) c.votes }

    pub change-covers : (v s : ℕ) (d : List ℕ) (u : ℕ) (cs : List Certificate) →
        IsSigned pbft p w i (state_at p 3 v s d) → IsSigned pbft p w i (state_change p u cs) → v < u → Shows cs s v
    change-covers v s d u cs a b l =
        let x = draft-of i correct (state_at p 3 v s d) a in
        let y = draft-of i correct (state_change p u cs) b in
        let m = makes-change p i y.leaf y.draft u cs y.states in
        let c = covers p i (w i) v (record { 0 = s }) d u m.certificates (among p good w reached i _ x _ (commit-draft i correct v s d x)) (among p good w reached i _ y _ m.is) l in
        let k = m.each c.certificate c.stands in
        let h = c.high in
        let e = k.view in
        record { certificate = k.other; stands = k.stands; slot = k.slot ∙ c.slot; high = omega (arith, h, e) }

  pub node-facts : NodeFacts p w
  node-facts = record {
    one_pre = λ j v s d e c. one-pre-signed j c v s d e;
    one_prepare = λ j v s d e c. one-prepare-signed j c v s d e;
    why_pre = λ j v s d c. why-pre j c v s d;
    why_prepare = λ j v s d c. why-prepare j c v s d;
    why_commit = λ j v s d c. why-commit j c v s d;
    covers = λ j v s d u cs c. change-covers j c v s d u cs;
  }
