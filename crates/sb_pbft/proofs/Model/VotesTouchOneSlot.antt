-- A Prepare or a Commit touches its slot in its view, and nothing else.
use Rattle.std.proofs.Common.{◌≡◌, ◌≢◌, ◌⊎◌, ◌+◌, ◌*◌, ◌&&◌, ◌∷◌, ◌∙◌, ℕ, Bool, true, false, not, cond, List, [], length, Option, Some, None, refl, sym, ap, subst, inl, inr, arith}
use Rattle.std.specs.Prelude.{◌==◌, nat_le}
use Rattle.std.proofs.lemmas.Bool.{and_left, and_right, ne_eqb}
use Rattle.iss_base.specs.Lists.{In, first_of}
use Rattle.iss_base.proofs.Lists.{first_of-none}
use Rattle.iss_request.specs.declared.ids.NodeId.{NodeId}
use Rattle.iss_request.specs.declared.ids.Slot.{Slot}
use Rattle.iss_request.specs.declared.requests.Value.{Value}
use Rattle.iss_sb.specs.Calls.{has_slot}
use Rattle.iss_sb.specs.Evidence.{Item, Made}
use Rattle.iss_sb.specs.declared.effects.Input.TheVariants.{Receive}
use Rattle.iss_sb.specs.declared.effects.Params.{Params}
use Rattle.iss_sb.proofs.Slots.{has_slot-In}
use Rattle.pbft_wire.specs.Statements.{digest_of}
use Rattle.pbft_wire.specs.declared.messages.Certificate.{Certificate}
use Rattle.pbft_wire.specs.declared.messages.Message.{Message}
use Rattle.pbft_wire.specs.Signed.{Commit, Prepare}
use Rattle.pbft_views.specs.Good.{primary}
use Rattle.sb_pbft.specs.Makes.{has, inputs, kept, ready}
use Rattle.sb_pbft.specs.Rules.{Ballot, commit_of, committed, committed_with, is_at, mode, prepare_of, prepared, prepared_with, proposal, voters, when}
use Rattle.sb_pbft.proofs.Model.DraftsAgree.{calm}
use Rattle.sb_pbft.proofs.Model.SettledAgrees.{Touches}
use Rattle.sb_pbft.proofs.ViewChange.HighestCertificates.{NotAt}
use Rattle.sb_pbft.proofs.History.ViewsGrow.{Said}

module _ (p : Params) where
  -- depends on the votes and the proposal only
  abbrev passes_with : ℕ → (ℕ → Option Ballot) → Option Value → Option Value
  passes_with most g None = None
  passes_with most g (Some x) = when (nat_le most (length (voters g (digest_of p x) 0 p.setup.n))) x

  prepared-by : (l : List Said) (v s : ℕ) (o : Option Value) →
      prepared_with p l v s o ≡ passes_with (2 * p.setup.f) (λ k. prepare_of p l v s k) o
  prepared-by l v s None = refl
  prepared-by l v s (Some x) = refl

  committed-by : (l : List Said) (v s : ℕ) (o : Option Value) →
      committed_with p l v s o ≡ passes_with (2 * p.setup.f + 1) (λ k. commit_of p l v s k) o
  committed-by l v s None = refl
  committed-by l v s (Some x) = refl

  pub prepared-same : (me : ℕ) (i : Said) (l : List Said) (v s : ℕ) → proposal p me (i ∷ l) v s ≡ proposal p me l v s →
      ((k : ℕ) → prepare_of p (i ∷ l) v s k ≡ prepare_of p l v s k) →
      prepared p me (i ∷ l) v s ≡ prepared p me l v s
  prepared-same me i l v s h g =
      prepared-by (i ∷ l) v s (proposal p me (i ∷ l) v s) ∙
      ((λ j. passes_with (2 * p.setup.f) (λ k. g k j) (h j)) ∙ sym (prepared-by l v s (proposal p me l v s)))

  pub committed-same : (me : ℕ) (i : Said) (l : List Said) (v s : ℕ) → prepared p me (i ∷ l) v s ≡ prepared p me l v s →
      ((k : ℕ) → commit_of p (i ∷ l) v s k ≡ commit_of p l v s k) →
      committed p me (i ∷ l) v s ≡ committed p me l v s
  committed-same me i l v s h g =
      committed-by (i ∷ l) v s (prepared p me (i ∷ l) v s) ∙
      ((λ j. passes_with (2 * p.setup.f + 1) (λ k. g k j) (h j)) ∙ sym (committed-by l v s (prepared p me l v s)))

  -- ---- votes elsewhere

  not-at : (from w t v s k : ℕ) → (v ≢ w) ⊎ (s ≢ t) → is_at from w t v s k ≡ false
  not-at from w t v s k (inl off) = and_right (from == k) _ (and_left (v == w) (s == t) (ne_eqb v w off))
  not-at from w t v s k (inr off) = and_right (from == k) _ (and_right (v == w) (s == t) (ne_eqb s t off))

  prepare-apart : (from : NodeId) (w : ℕ) (t : Slot) (d sig : List ℕ) (l : List Said) (v s k : ℕ) →
      (v ≢ w) ⊎ (s ≢ t.0) → prepare_of p (Receive from (Prepare w t d sig) ∷ l) v s k ≡ prepare_of p l v s k
  prepare-apart from w t d sig l v s k off =
      ap (λ (b : Bool). first_of (prepare_of p l v s k) (when (b && (has_slot t.0 p.slots && not (from.0 == primary p w))) (record { digest = d; sig = sig }))) (not-at from.0 w t.0 v s k off) ∙ first_of-none (prepare_of p l v s k)

  commit-apart : (from : NodeId) (w : ℕ) (t : Slot) (d sig : List ℕ) (l : List Said) (v s k : ℕ) → (v ≢ w) ⊎ (s ≢ t.0) →
      commit_of p (Receive from (Commit w t d sig) ∷ l) v s k ≡ commit_of p l v s k
  commit-apart from w t d sig l v s k off =
      ap (λ (b : Bool). first_of (commit_of p l v s k) (when (b && has_slot t.0 p.slots) (record { digest = d; sig = sig }))) (not-at from.0 w t.0 v s k off) ∙ first_of-none (commit_of p l v s k)

  -- ---- of one slot

  pub in-slots : (slot : Slot) → has_slot slot.0 p.slots ≡ true → (t : Slot) → In t (slot ∷ []) → In t p.slots
  in-slots slot has t (inl e) = subst (λ (z : Slot). In z p.slots) (sym e) (has_slot-In slot p.slots has)
  in-slots slot has t (inr h) = absurd h

  pub at-slot : (slot : Slot) (s : ℕ) → NotAt s (slot ∷ []) → s ≢ slot.0
  at-slot slot s off e = off slot (inl refl) (sym e)

  -- ---- what votes do not change

  module _ (me : ℕ) (i : Said) (l : List Said) where
    pub ready-same : (ks : List Certificate) (s : ℕ) → mode p (i ∷ l) ≡ mode p l →
        prepared p me (i ∷ l) (mode p l).view s ≡ prepared p me l (mode p l).view s →
        ready p me (i ∷ l) ks s ≡ ready p me l ks s
    ready-same ks s m h =
        ap (λ z. cond (z.active && not (has z.view s ks)) (prepared p me (i ∷ l) z.view s) None) m ∙
        ap (λ (o : Option Value). cond ((mode p l).active && not (has (mode p l).view s ks)) o None) h

  -- ---- an input without votes and proposals

  module _ (me : ℕ) (x : Item Message) (xs : List (Item Message)) where
    pub record BringsNone : Type 0 where
      pub values : (v s : ℕ) → proposal p me (inputs (x ∷ xs)) v s ≡ proposal p me (inputs xs) v s
      pub prepares : (v s k : ℕ) → prepare_of p (inputs (x ∷ xs)) v s k ≡ prepare_of p (inputs xs) v s k
      pub commits : (v s k : ℕ) → commit_of p (inputs (x ∷ xs)) v s k ≡ commit_of p (inputs xs) v s k

    module _ (none : BringsNone) where
      prepared-still : (v s : ℕ) → prepared p me (inputs (x ∷ xs)) v s ≡ prepared p me (inputs xs) v s
      prepared-still v s = prepared-same me x.input (inputs xs) v s (none.values v s) (λ k. none.prepares v s k)

      -- no Commit becomes due in the current view
      pub quiet-still : mode p (inputs (x ∷ xs)) ≡ mode p (inputs xs) → (t : Slot) → In t p.slots →
          ready p me (inputs (x ∷ xs)) (kept p me xs) t.0 ≡ None
      quiet-still m t i = ready-same me x.input (inputs xs) (kept p me xs) t.0 m (prepared-still (mode p (inputs xs)).view t.0) ∙ calm p me xs t i

      pub touches-none : ((t : Slot) → In t p.slots → ready p me (inputs (x ∷ xs)) (kept p me xs) t.0 ≡ None) →
          Touches p me x xs 0 []
      touches-none quiet = record {
        within = λ t i. absurd i;
        ascending = tt;
        quiet = λ t i off. quiet t i;
        still = λ s off w. committed-same me x.input (inputs xs) w s (prepared-still w s) (λ k. none.commits w s k);
        one = λ t i w off. absurd i;
      }

  -- ---- votes

  module _ (me : ℕ) (from : NodeId) (v : ℕ) (slot : Slot) (d sig : List ℕ) (leaf : ℕ) (made : Made Message) (xs : List (Item Message)) where
    commit-proposal : (w s : ℕ) →
        proposal p me (Receive from (Commit v slot d sig) ∷ inputs xs) w s ≡ proposal p me (inputs xs) w s
    commit-proposal w s = first_of-none (proposal p me (inputs xs) w s)

    commit-prepared : (w s : ℕ) →
        prepared p me (Receive from (Commit v slot d sig) ∷ inputs xs) w s ≡ prepared p me (inputs xs) w s
    commit-prepared w s = prepared-same me (Receive from (Commit v slot d sig)) (inputs xs) w s (commit-proposal w s) (λ k. first_of-none (prepare_of p (inputs xs) w s k))

    pub commit-touches : has_slot slot.0 p.slots ≡ true → Touches p me (record { input = Receive from (Commit v slot d sig); leaf = leaf; made = made }) xs v (slot ∷ [])
    commit-touches has = record {
      within = in-slots slot has;
      ascending = (omega arith, tt);
      quiet = λ t i off. ready-same me (Receive from (Commit v slot d sig)) (inputs xs) (kept p me xs) t.0 refl (commit-prepared (mode p (inputs xs)).view t.0) ∙ calm p me xs t i;
      still = λ s off w. committed-same me (Receive from (Commit v slot d sig)) (inputs xs) w s (commit-prepared w s) (λ k. commit-apart from v slot d sig (inputs xs) w s k (inr (at-slot slot s off)));
      one = λ t i w off. committed-same me (Receive from (Commit v slot d sig)) (inputs xs) w t.0 (commit-prepared w t.0) (λ k. commit-apart from v slot d sig (inputs xs) w t.0 k (inl off));
    }

    prepare-prepared : (w s : ℕ) → (w ≢ v) ⊎ (s ≢ slot.0) →
        prepared p me (Receive from (Prepare v slot d sig) ∷ inputs xs) w s ≡ prepared p me (inputs xs) w s
    prepare-prepared w s off = prepared-same me (Receive from (Prepare v slot d sig)) (inputs xs) w s (first_of-none (proposal p me (inputs xs) w s)) (λ k. prepare-apart from v slot d sig (inputs xs) w s k off)

    prepare-committed : (w s : ℕ) → (w ≢ v) ⊎ (s ≢ slot.0) →
        committed p me (Receive from (Prepare v slot d sig) ∷ inputs xs) w s ≡ committed p me (inputs xs) w s
    prepare-committed w s off = committed-same me (Receive from (Prepare v slot d sig)) (inputs xs) w s (prepare-prepared w s off) (λ k. first_of-none (commit_of p (inputs xs) w s k))

    pub prepare-touches : has_slot slot.0 p.slots ≡ true → Touches p me (record { input = Receive from (Prepare v slot d sig); leaf = leaf; made = made }) xs v (slot ∷ [])
    prepare-touches has = record {
      within = in-slots slot has;
      ascending = (omega arith, tt);
      quiet = λ t i off. ready-same me (Receive from (Prepare v slot d sig)) (inputs xs) (kept p me xs) t.0 refl (prepare-prepared (mode p (inputs xs)).view t.0 (inr (at-slot slot t.0 off))) ∙ calm p me xs t i;
      still = λ s off w. prepare-committed w s (inr (at-slot slot s off));
      one = λ t i w off. prepare-committed w t.0 (inl off);
    }
