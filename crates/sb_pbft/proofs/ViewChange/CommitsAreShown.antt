-- Each Commit has a certificate, and a later ViewChange shows it or one of a higher view.
use Rattle.std.proofs.Common.{◌≡◌, ◌<◌, ◌≤◌, ◌+◌, ◌∷◌, ◌∙◌, ℕ, Bool, true, false, cond, List, [], Option, Some, None, refl, sym, ap, subst, inl, inr, arith}
use Rattle.iss_base.specs.Lists.{In}
use Rattle.iss_base.proofs.Lists.{in_append, in_left, in_right}
use Rattle.iss_request.specs.declared.ids.Slot.{Slot}
use Rattle.iss_request.specs.declared.requests.Value.{Value}
use Rattle.iss_request.specs.declared.requests.Value.TheVariants.{Batch as Value_batch}
use Rattle.iss_sb.specs.Evidence.{Item}
use Rattle.iss_sb.specs.declared.effects.Input.TheVariants.{Timeout}
use Rattle.iss_sb.specs.declared.effects.Params.{Params}
use Rattle.pbft_wire.specs.Statements.{digest_of}
use Rattle.pbft_wire.specs.declared.messages.Certificate.{Certificate}
use Rattle.pbft_wire.specs.declared.messages.Change.{Change}
use Rattle.pbft_wire.specs.declared.messages.Message.{Message}
use Rattle.pbft_views.specs.Choice.{best, choice}
use Rattle.pbft_views.proofs.Choices.{best-in, best-max}
use Rattle.sb_pbft.specs.Makes.{DraftCommit, DraftNewView, DraftPrePrepare, DraftPrepare, DraftViewChange, certificate, certified, certify, drafts, inputs, kept, ready, tops}
use Rattle.sb_pbft.specs.Rules.{Mode, cons_some, mode, mode_after, passes}
use Rattle.sb_pbft.proofs.History.OnePrepareAView.{Rule, SameDraft, by_cast, by_changes, by_proposal, by_timeout, by_view, by_votes, drafted, rule-of}
use Rattle.sb_pbft.proofs.History.ViewsGrow.{Said, SameInput, grows}

-- ---- certificates stay, and each Commit has one

certify-here : (p : Params) (me : ℕ) (xs : List (Item Message)) (s : Slot) (o : Option Value) (x : Value) (cs : List Certificate) → o ≡ Some x → In (certificate p me xs (mode p (inputs xs)).view s x) (certify p me xs s o cs)
certify-here p me xs s None x cs h = absurd (cc)
certify-here p me xs s (Some y) x cs h =
    let e : x ≡ y = cc in
    inl (ap (λ (z : Value). certificate p me xs (mode p (inputs xs)).view s z) e)

certify-more : (p : Params) (me : ℕ) (xs : List (Item Message)) (s : Slot) (o : Option Value) (cs : List Certificate) (c : Certificate) → In c cs → In c (certify p me xs s o cs)
certify-more p me xs s None cs c h = h
certify-more p me xs s (Some y) cs c h = inr h

pub certified-in : (p : Params) (me : ℕ) (xs : List (Item Message)) (old : List Certificate) (ss : List Slot) (s : Slot) (x : Value) → In s ss → ready p me (inputs xs) old s.0 ≡ Some x → In (certificate p me xs (mode p (inputs xs)).view s x) (certified p me xs old ss)
certified-in p me xs old [] s x h e = absurd h
certified-in p me xs old (t ∷ ts) s x (inl q) e =
    subst (λ (z : Slot). In (certificate p me xs (mode p (inputs xs)).view s x) (certify p me xs z (ready p me (inputs xs) old z.0) (certified p me xs old ts))) q
    (certify-here p me xs s (ready p me (inputs xs) old s.0) x (certified p me xs old ts) e)
certified-in p me xs old (t ∷ ts) s x (inr h) e = certify-more p me xs t (ready p me (inputs xs) old t.0) (certified p me xs old ts) _ (certified-in p me xs old ts s x h e)

pub record IsKept (p : Params) (me : ℕ) (xs : List (Item Message)) (v : ℕ) (s : Slot) (d : List ℕ) : Type 0 where
  pub certificate : Certificate
  pub stands : In certificate (kept p me xs)
  pub view : certificate.view ≡ v
  pub slot : certificate.slot ≡ s
  pub within : In s p.slots
  pub digest : digest_of p certificate.value ≡ d

no-pre : (v : ℕ) (s t : Slot) (d : List ℕ) (x : Value) → SameDraft (DraftCommit v s d) (DraftPrePrepare t x) → ⊥
no-pre v s t d x h = cc

no-prepare : (v w : ℕ) (s t : Slot) (d e : List ℕ) → SameDraft (DraftCommit v s d) (DraftPrepare w t e) → ⊥
no-prepare v w s t d e h = cc

no-change : (v w : ℕ) (s : Slot) (d : List ℕ) (cs : List Certificate) →
    SameDraft (DraftCommit v s d) (DraftViewChange w cs) → ⊥
no-change v w s d cs h = cc

no-new : (v w : ℕ) (s : Slot) (d : List ℕ) (ys : List Change) → SameDraft (DraftCommit v s d) (DraftNewView w ys) → ⊥
no-new v w s d ys h = cc

record SameCommit (v w : ℕ) (s t : Slot) (d e : List ℕ) : Type 0 where
  pub view : v ≡ w
  pub slot : s ≡ t
  pub digest : d ≡ e

same-commit : (v w : ℕ) (s t : Slot) (d e : List ℕ) → SameDraft (DraftCommit v s d) (DraftCommit w t e) →
    SameCommit v w s t d e
same-commit v w s t d e h = record { view = cc; slot = cc; digest = cc }

-- a Commit is of the current view
pub record Commits (p : Params) (me : ℕ) (xs : List (Item Message)) (i : Said) (v : ℕ) (s : Slot) (d : List ℕ) : Type 0 where
  pub value : Value
  pub within : In s p.slots
  pub ready : ready p me (i ∷ inputs xs) (kept p me xs) s.0 ≡ Some value
  pub view : v ≡ (mode p (i ∷ inputs xs)).view
  pub digest : d ≡ digest_of p value

pub commit-rule : (p : Params) (me : ℕ) (xs : List (Item Message)) (i : Said) (v : ℕ) (s : Slot) (d : List ℕ) →
    Rule p me xs i (DraftCommit v s d) → Commits p me xs i v s d
commit-rule p me xs i v s d (by_cast a q b e) = absurd (no-pre v s a.0 d (Value_batch a.1) e)
commit-rule p me xs i v s d (by_proposal a q b e) = absurd (no-prepare v 0 s a.0 d (digest_of p (Value_batch a.1)) e)
commit-rule p me xs i v s d (by_votes t x w q e) =
    let r = same-commit v (mode p (i ∷ inputs xs)).view s t d (digest_of p x) e in
    record {
      value = x;
      within = subst (λ (z : Slot). In z p.slots) (sym r.slot) w;
      ready = subst (λ (z : Slot). ready p me (i ∷ inputs xs) (kept p me xs) z.0 ≡ Some x) (sym r.slot) q;
      view = r.view;
      digest = r.digest;
    }
commit-rule p me xs i v s d (by_timeout a b e) = absurd (no-change v _ s d _ e)
commit-rule p me xs i v s d (by_changes from w cs sig a b e) = absurd (no-new v w s d _ e)
commit-rule p me xs i v s d (by_view from w zs sigs sig t a b c k e) = absurd (no-prepare v w s t d (digest_of p (choice zs t.0)) e)

pub commit-kept : (p : Params) (me : ℕ) (xs : List (Item Message)) (v : ℕ) (s : Slot) (d : List ℕ) →
    In (DraftCommit v s d) (drafted p me xs) → IsKept p me xs v s d
commit-kept p me [] v s d h = absurd h
commit-kept p me (x ∷ xs) v s d h = elim (in_append (DraftCommit v s d) (drafts p me xs x.input) (drafted p me xs) h) [
  | inl k ↦
      let r = commit-rule p me xs x.input v s d (rule-of p me xs x.input (DraftCommit v s d) k) in
      let c : Certificate = certificate p me (x ∷ xs) (mode p (inputs (x ∷ xs))).view s r.value in
      record {
        certificate = c;
        stands = in_left c (certified p me (x ∷ xs) (kept p me xs) p.slots) (kept p me xs) (certified-in p me (x ∷ xs) (kept p me xs) p.slots s r.value r.within r.ready);
        view = sym r.view;
        slot = refl;
        within = r.within;
        digest = sym r.digest;
      }
  | inr k ↦
      let r = commit-kept p me xs v s d k in
      record { certificate = r.certificate; stands = in_right r.certificate (certified p me (x ∷ xs) (kept p me xs) p.slots) (kept p me xs) r.stands; view = r.view; slot = r.slot; within = r.within; digest = r.digest }
]

-- ---- the certificates of the highest views

pub record Covered (s : Slot) (v : ℕ) (cs : List Certificate) : Type 0 where
  pub certificate : Certificate
  pub stands : In certificate cs
  pub slot : certificate.slot.0 ≡ s.0
  pub high : v ≤ certificate.view

cons-here : {A : Type 0} (o : Option A) (x : A) (xs : List A) → o ≡ Some x → In x (cons_some o xs)
cons-here None x xs h = absurd (cc)
cons-here (Some y) x xs h = inl cc

cons-more : {A : Type 0} (o : Option A) (x : A) (xs : List A) → In x xs → In x (cons_some o xs)
cons-more None x xs h = h
cons-more (Some y) x xs h = inr h

tops-cover : (cs : List Certificate) (ss : List Slot) (s : Slot) (c : Certificate) → In c cs → c.slot ≡ s → In s ss →
    Covered s c.view (tops cs ss)
tops-cover cs [] s c i e h = absurd h
tops-cover cs (t ∷ ts) s c i e (inl q) =
    let at : c.slot.0 ≡ t.0 = ap (λ (z : Slot). z.0) (e ∙ q) in
    let b = best-max t.0 cs c i at in
    let n = best-in t.0 cs b.0 b.1 in
    record { certificate = b.0; stands = cons-here (best t.0 cs) b.0 (tops cs ts) b.1; slot = n.1 ∙ sym (ap (λ (z : Slot). z.0) q); high = b.2 }
tops-cover cs (t ∷ ts) s c i e (inr h) =
    let r = tops-cover cs ts s c i e h in
    record { certificate = r.certificate; stands = cons-more (best t.0 cs) r.certificate (tops cs ts) r.stands; slot = r.slot; high = r.high }

-- ---- a ViewChange

pub no-change-pre : (w : ℕ) (cs : List Certificate) (t : Slot) (x : Value) →
    SameDraft (DraftViewChange w cs) (DraftPrePrepare t x) → ⊥
no-change-pre w cs t x h = cc

pub no-change-prepare : (w v : ℕ) (cs : List Certificate) (t : Slot) (e : List ℕ) →
    SameDraft (DraftViewChange w cs) (DraftPrepare v t e) → ⊥
no-change-prepare w v cs t e h = cc

pub no-change-commit : (w v : ℕ) (cs : List Certificate) (t : Slot) (e : List ℕ) →
    SameDraft (DraftViewChange w cs) (DraftCommit v t e) → ⊥
no-change-commit w v cs t e h = cc

pub no-change-new : (w v : ℕ) (cs : List Certificate) (ys : List Change) →
    SameDraft (DraftViewChange w cs) (DraftNewView v ys) → ⊥
no-change-new w v cs ys h = cc

same-change : (w v : ℕ) (cs ds : List Certificate) → SameDraft (DraftViewChange w cs) (DraftViewChange v ds) →
    (w ≡ v) × (cs ≡ ds)
same-change w v cs ds h = (cc, cc)

pub record IsPassed (p : Params) (me : ℕ) (xs : List (Item Message)) (i : Said) (w : ℕ) (cs : List Certificate) : Type 0 where
  pub now : w ≡ (mode p (i ∷ inputs xs)).view
  pub holds : cs ≡ tops (kept p me xs) p.slots

passed-mode : (p : Params) (m : Mode) (i : Said) → SameInput i Timeout → passes m ≡ true →
    (mode_after p m i).view ≡ m.view + 1
passed-mode p m i e h = subst (λ (z : Said). (mode_after p m z).view ≡ m.view + 1) (sym e) (ap (λ (b : Bool). (cond b (let u : Mode = record { view = m.view + 1; active = false } in u) m).view) h)

pub change-rule : (p : Params) (me : ℕ) (xs : List (Item Message)) (i : Said) (w : ℕ) (cs : List Certificate) →
    Rule p me xs i (DraftViewChange w cs) → IsPassed p me xs i w cs
change-rule p me xs i w cs (by_cast a q b e) = absurd (no-change-pre w cs a.0 (Value_batch a.1) e)
change-rule p me xs i w cs (by_proposal a q b e) = absurd (no-change-prepare w 0 cs a.0 (digest_of p (Value_batch a.1)) e)
change-rule p me xs i w cs (by_votes t x k q e) = absurd (no-change-commit w (mode p (i ∷ inputs xs)).view cs t (digest_of p x) e)
change-rule p me xs i w cs (by_timeout a b e) =
    let r = same-change w ((mode p (inputs xs)).view + 1) cs (tops (kept p me xs) p.slots) e in
    record { now = r.0 ∙ sym (passed-mode p (mode p (inputs xs)) i a b); holds = r.1 }
change-rule p me xs i w cs (by_changes from v ds sig a b e) = absurd (no-change-new w v cs _ e)
change-rule p me xs i w cs (by_view from v zs sigs sig t a b c k e) = absurd (no-change-prepare w v cs t (digest_of p (choice zs t.0)) e)

pub change-view : (p : Params) (me : ℕ) (xs : List (Item Message)) (w : ℕ) (cs : List Certificate) →
    In (DraftViewChange w cs) (drafted p me xs) → w ≤ (mode p (inputs xs)).view
change-view p me [] w cs h = absurd h
change-view p me (x ∷ xs) w cs h = elim (in_append (DraftViewChange w cs) (drafts p me xs x.input) (drafted p me xs) h) [
  | inl k ↦ let r = (change-rule p me xs x.input w cs (rule-of p me xs x.input (DraftViewChange w cs) k)).now in omega (arith, r)
  | inr k ↦ let r = change-view p me xs w cs k in let g = (grows p (mode p (inputs xs)) x.input).view in omega (arith, r, g)
]

-- a ViewChange shows, for each slot that the replica committed, a certificate of that view or a higher one
pub covers : (p : Params) (me : ℕ) (xs : List (Item Message)) (v : ℕ) (s : Slot) (d : List ℕ) (w : ℕ) (cs : List Certificate) → In (DraftCommit v s d) (drafted p me xs) → In (DraftViewChange w cs) (drafted p me xs) → v < w → Covered s v cs
covers p me [] v s d w cs h k l = absurd h
covers p me (x ∷ xs) v s d w cs h k l = elim (in_append (DraftViewChange w cs) (drafts p me xs x.input) (drafted p me xs) k) [
  | inl b ↦
      let r = change-rule p me xs x.input w cs (rule-of p me xs x.input (DraftViewChange w cs) b) in
      elim (in_append (DraftCommit v s d) (drafts p me xs x.input) (drafted p me xs) h) [
        | inl a ↦
            let c = (commit-rule p me xs x.input v s d (rule-of p me xs x.input (DraftCommit v s d) a)).view in
            let n = r.now in
            absurd (omega (arith, c, n, l))
        | inr a ↦
            let c = commit-kept p me xs v s d a in
            let t = tops-cover (kept p me xs) p.slots s c.certificate c.stands c.slot c.within in
            let up = subst (λ (z : ℕ). Covered s z (tops (kept p me xs) p.slots)) c.view t in
            subst (λ (z : List Certificate). Covered s v z) (sym r.holds) up
      ]
  | inr b ↦ elim (in_append (DraftCommit v s d) (drafts p me xs x.input) (drafted p me xs) h) [
    | inl a ↦
        let c = (commit-rule p me xs x.input v s d (rule-of p me xs x.input (DraftCommit v s d) a)).view in
        let n = change-view p me xs w cs b in
        let g = (grows p (mode p (inputs xs)) x.input).view in
        absurd (omega (arith, c, n, g, l))
    | inr a ↦ covers p me xs v s d w cs a b l
  ]
]
