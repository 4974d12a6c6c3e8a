-- Facts about single correct replicas: one vote for each view and slot, the reason of each vote, and what a
-- ViewChange shows.
use Rattle.std.proofs.Common.{◌≡◌, ◌<◌, ◌+◌, ◌∷◌, ◌∙◌, ℕ, true, List, [], Some, sym, ap, subst, inl, inr, arith}
use Rattle.iss_base.specs.Lists.{In}
use Rattle.iss_base.proofs.Lists.{in_append}
use Rattle.iss_request.specs.declared.ids.NodeId.{NodeId}
use Rattle.iss_request.specs.declared.ids.Slot.{Slot}
use Rattle.iss_request.specs.declared.requests.Batch.{Batch}
use Rattle.iss_request.specs.declared.requests.Value.{Value}
use Rattle.iss_request.specs.declared.requests.Value.TheVariants.{Batch as Value_batch}
use Rattle.iss_sb.specs.Evidence.{Item, accepts}
use Rattle.iss_sb.specs.declared.effects.Input.TheVariants.{Receive}
use Rattle.iss_sb.specs.declared.effects.Params.{Params}
use Rattle.iss_sb.proofs.Worlds.{accepts-new, accepts-old}
use Rattle.pbft_wire.specs.Statements.{digest_of}
use Rattle.pbft_wire.specs.declared.messages.Certificate.{Certificate}
use Rattle.pbft_wire.specs.declared.messages.Change.{Change}
use Rattle.pbft_wire.specs.declared.messages.Message.{Message}
use Rattle.pbft_wire.specs.Signed.{NewView}
use Rattle.pbft_views.specs.Choice.{choice}
use Rattle.sb_pbft.specs.Makes.{DraftCommit, DraftNewView, DraftPrePrepare, DraftPrepare, DraftViewChange, drafts, inputs, kept}
use Rattle.sb_pbft.specs.Rules.{enters, mode, proposal}
use Rattle.sb_pbft.proofs.ViewChange.CommitsAreShown.{commit-rule, no-change-commit, no-change-new, no-change-pre, no-change-prepare}
use Rattle.sb_pbft.proofs.Messages.SentDecodes.{ready-is}
use Rattle.sb_pbft.proofs.History.OnePrepareAView.{Asked, Proposed, Rule, SameDraft, by_cast, by_changes, by_proposal, by_timeout, by_view, by_votes, drafted, no-change, no-commit, no-new, no-pre, proposed-on, rule-of, same-prepare}
use Rattle.sb_pbft.proofs.History.ViewsGrow.{Said, SameInput, proposed-offer}

-- ---- in one replica's history

-- each Commit is for the proposal
pub commit-proposed : (p : Params) (me : ℕ) (xs : List (Item Message)) (v : ℕ) (s : Slot) (d : List ℕ) →
    In (DraftCommit v s d) (drafted p me xs) → Proposed p me (inputs xs) v s.0 d
commit-proposed p me [] v s d h = absurd h
commit-proposed p me (x ∷ xs) v s d h = elim (in_append (DraftCommit v s d) (drafts p me xs x.input) (drafted p me xs) h) [
  | inl k ↦
      let r = commit-rule p me xs x.input v s d (rule-of p me xs x.input (DraftCommit v s d) k) in
      let l : List Said = x.input ∷ inputs xs in
      let a = (ready-is p me l (kept p me xs) s.0 r.value r.ready).prepared.proposed in
      record { value = r.value; stands = subst (λ (z : ℕ). proposal p me l z s.0 ≡ Some r.value) (sym r.view) a; digest = sym r.digest }
  | inr k ↦ proposed-on p me (inputs xs) x.input v s.0 d (commit-proposed p me xs v s d k)
]

no-first-prepare : (s t : Slot) (x : Value) (v : ℕ) (d : List ℕ) →
    SameDraft (DraftPrePrepare s x) (DraftPrepare v t d) → ⊥
no-first-prepare s t x v d h = cc

no-first-commit : (s t : Slot) (x : Value) (v : ℕ) (d : List ℕ) → SameDraft (DraftPrePrepare s x) (DraftCommit v t d) →
    ⊥
no-first-commit s t x v d h = cc

no-first-change : (s : Slot) (x : Value) (v : ℕ) (cs : List Certificate) →
    SameDraft (DraftPrePrepare s x) (DraftViewChange v cs) → ⊥
no-first-change s x v cs h = cc

no-first-new : (s : Slot) (x : Value) (v : ℕ) (ys : List Change) → SameDraft (DraftPrePrepare s x) (DraftNewView v ys) →
    ⊥
no-first-new s x v ys h = cc

record SameFirst (s t : Slot) (x y : Value) : Type 0 where
  pub slot : s ≡ t
  pub value : x ≡ y

same-first : (s t : Slot) (x y : Value) → SameDraft (DraftPrePrepare s x) (DraftPrePrepare t y) → SameFirst s t x y
same-first s t x y h = record { slot = cc; value = cc }

-- a PrePrepare of view 0 is for an accepted batch
pub record IsFirst (p : Params) (me : ℕ) (xs : List (Item Message)) (i : Said) (s : Slot) (x : Value) : Type 0 where
  pub batch : Batch
  pub asked : Asked p me (inputs xs) i (s, batch)
  pub value : x ≡ Value_batch batch

pub first-of-rule : (p : Params) (me : ℕ) (xs : List (Item Message)) (i : Said) (s : Slot) (x : Value) →
    Rule p me xs i (DraftPrePrepare s x) → IsFirst p me xs i s x
first-of-rule p me xs i s x (by_cast a q b e) =
    let r = same-first s a.0 x (Value_batch a.1) e in
    record { batch = a.1; asked = subst (λ (z : Slot). Asked p me (inputs xs) i (z, a.1)) (sym r.slot) q; value = r.value }
first-of-rule p me xs i s x (by_proposal a q b e) = absurd (no-first-prepare s a.0 x 0 (digest_of p (Value_batch a.1)) e)
first-of-rule p me xs i s x (by_votes t y w q e) = absurd (no-first-commit s t x (mode p (i ∷ inputs xs)).view (digest_of p y) e)
first-of-rule p me xs i s x (by_timeout a b e) = absurd (no-first-change s x _ _ e)
first-of-rule p me xs i s x (by_changes from v cs sig a b e) = absurd (no-first-new s x v _ e)
first-of-rule p me xs i s x (by_view from v ys sigs sig t a b c k e) = absurd (no-first-prepare s t x v (digest_of p (choice ys t.0)) e)

pub first-proposed : (p : Params) (me : ℕ) (xs : List (Item Message)) (s : Slot) (x : Value) →
    In (DraftPrePrepare s x) (drafted p me xs) → Proposed p me (inputs xs) 0 s.0 (digest_of p x)
first-proposed p me [] s x h = absurd h
first-proposed p me (y ∷ ys) s x h = elim (in_append (DraftPrePrepare s x) (drafts p me ys y.input) (drafted p me ys) h) [
  | inl k ↦
      let r = first-of-rule p me ys y.input s x (rule-of p me ys y.input (DraftPrePrepare s x) k) in
      record { value = Value_batch r.batch; stands = proposed-offer p me (inputs ys) y.input (s, r.batch) r.asked; digest = ap (digest_of p) (sym r.value) }
  | inr k ↦ proposed-on p me (inputs ys) y.input 0 s.0 (digest_of p x) (first-proposed p me ys s x k)
]

same-view-change : (v u : ℕ) (cs ds : List Certificate) → SameDraft (DraftViewChange v cs) (DraftViewChange u ds) →
    v ≡ u
same-view-change v u cs ds h = cc

-- nobody sends a ViewChange for view 0
pub change-above : (p : Params) (me : ℕ) (xs : List (Item Message)) (i : Said) (v : ℕ) (cs : List Certificate) →
    Rule p me xs i (DraftViewChange v cs) → 0 < v
change-above p me xs i v cs (by_cast a q b e) = absurd (no-change-pre v cs a.0 (Value_batch a.1) e)
change-above p me xs i v cs (by_proposal a q b e) = absurd (no-change-prepare v 0 cs a.0 (digest_of p (Value_batch a.1)) e)
change-above p me xs i v cs (by_votes t y w q e) = absurd (no-change-commit v _ cs t (digest_of p y) e)
change-above p me xs i v cs (by_timeout a b e) = let k = same-view-change v ((mode p (inputs xs)).view + 1) cs _ e in omega (arith, k)
change-above p me xs i v cs (by_changes from u ds sig a b e) = absurd (no-change-new v u cs _ e)
change-above p me xs i v cs (by_view from u ys sigs sig t a b c k e) = absurd (no-change-prepare v u cs t (digest_of p (choice ys t.0)) e)

-- the reason of a Prepare
pub data IsAnswer (p : Params) (me : ℕ) (xs : List (Item Message)) (i : Said) (v : ℕ) (s : Slot) (d : List ℕ) : Type 0 where
  to_batch : (b : Batch) → Asked p me (inputs xs) i (s, b) → v ≡ 0 → digest_of p (Value_batch b) ≡ d →
      IsAnswer p me xs i v s d
  to_view : (from : NodeId) (ys : List Change) (sigs : List (List ℕ)) (sig : List ℕ) →
      SameInput i (Receive from (NewView v ys sigs sig)) → enters p (mode p (inputs xs)) from.0 v ys sigs ≡ true →
      In s p.slots → digest_of p (choice ys s.0) ≡ d → IsAnswer p me xs i v s d

pub answer-of-rule : (p : Params) (me : ℕ) (xs : List (Item Message)) (i : Said) (v : ℕ) (s : Slot) (d : List ℕ) →
    Rule p me xs i (DraftPrepare v s d) → IsAnswer p me xs i v s d
answer-of-rule p me xs i v s d (by_cast a q b e) = absurd (no-pre s a.0 v d (Value_batch a.1) e)
answer-of-rule p me xs i v s d (by_proposal a q b e) =
    let r = same-prepare v 0 s a.0 d (digest_of p (Value_batch a.1)) e in
    to_batch a.1 (subst (λ (z : Slot). Asked p me (inputs xs) i (z, a.1)) (sym r.slot) q) r.view (sym r.digest)
answer-of-rule p me xs i v s d (by_votes t y w q e) = absurd (no-commit s t v (mode p (i ∷ inputs xs)).view d (digest_of p y) e)
answer-of-rule p me xs i v s d (by_timeout a b e) = absurd (no-change s v _ d _ e)
answer-of-rule p me xs i v s d (by_changes from u cs sig a b e) = absurd (no-new s v u d _ e)
answer-of-rule p me xs i v s d (by_view from u ys sigs sig t a b c k e) =
    let r = same-prepare v u s t d (digest_of p (choice ys t.0)) e in
    to_view from ys sigs sig
    (subst (λ (z : ℕ). SameInput i (Receive from (NewView z ys sigs sig))) (sym r.view) a)
    (subst (λ (z : ℕ). enters p (mode p (inputs xs)) from.0 z ys sigs ≡ true) (sym r.view) b)
    (subst (λ (z : Slot). In z p.slots) (sym r.slot) k)
    (subst (λ (z : Slot). digest_of p (choice ys z.0) ≡ d) (sym r.slot) (sym r.digest))

-- a batch that a step accepted is among the accepted ones
pub accepted-in : (xs : List (Item Message)) (x : Item Message) (a : Slot × Batch) → In x xs →
    x.made.accepted ≡ Some a → In a (accepts xs)
accepted-in [] x a h e = absurd h
accepted-in (y ∷ ys) x a (inl q) e = accepts-new y ys a (ap (λ (z : Item Message). z.made.accepted) (sym q) ∙ e)
accepted-in (y ∷ ys) x a (inr h) e = accepts-old y ys a (accepted-in ys x a h e)
