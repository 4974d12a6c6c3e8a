-- PBFT's rules once more, as functions of what a replica holds and not of the whole list. A theorem ties both: what is
-- held after an input, and what is sent, are what the list's functions say.
use Rattle.std.specs.Prelude.{◌≡◌, ℕ, ◌+◌, ◌*◌, ◌==◌, ◌&&◌, ◌||◌, Bool, true, false, not, cond, nat_lt, nat_le, List, [], ◌∷◌, ◌++◌, length, take}
use Rattle.std.specs.Prelude.{Option, Some, None, is_some}
use Rattle.iss_base.specs.Lists.{first_of, set_at, set_at2}
use Rattle.iss_request.specs.declared.ids.NodeId.{NodeId}
use Rattle.iss_request.specs.declared.ids.Slot.{Slot}
use Rattle.iss_request.specs.declared.requests.Batch.{Batch}
use Rattle.iss_request.specs.declared.requests.Value.{Value}
use Rattle.iss_request.specs.declared.requests.Value.TheVariants.{Batch as Value_batch}
use Rattle.iss_sb.specs.declared.effects.Input.{Input}
use Rattle.iss_sb.specs.declared.effects.Input.TheVariants.{Cast, Receive, Timeout}
use Rattle.iss_sb.specs.declared.effects.Params.{Params}
use Rattle.iss_sb.specs.Calls.{Delivers, has_slot}
use Rattle.iss_sb.specs.Evidence.{Item, and_then, delivered}
use Rattle.pbft_wire.specs.declared.messages.Certificate.{Certificate}
use Rattle.pbft_wire.specs.declared.messages.Change.{Change}
use Rattle.pbft_wire.specs.declared.messages.Message.{Message}
use Rattle.pbft_wire.specs.declared.messages.Body.{Body}
use Rattle.pbft_wire.specs.declared.messages.Body.TheVariants.{PrePrepare, Prepare, Commit, ViewChange, NewView}
use Rattle.pbft_wire.specs.Statements.{digest_of}
use Rattle.pbft_views.specs.Choice.{best, certificates_of, choice}
use Rattle.pbft_views.specs.Good.{all_good, primary}
use Rattle.sb_pbft.specs.declared.proposals.Proposal.{Proposal}
use Rattle.sb_pbft.specs.Makes.{Draft, DraftCommit, DraftNewView, DraftPrepare, DraftViewChange, asked_strings, choice_strings, drafts, first_draft}
use Rattle.sb_pbft.specs.Makes.{first_sig, inputs, kept, or_empty, proposal_sig, sig_for, strings, value_strings}
use Rattle.sb_pbft.specs.Pbft.{asks, pbft}
use Rattle.sb_pbft.specs.Rules.{Ballot, Mode, change_in, change_of, changes_from, commit_in, commit_of, cons_some, enters, mode, offer, passes}
use Rattle.sb_pbft.specs.Rules.{prepare_in, prepare_of, proposal, voters, when}

-- ---- what is held

-- the state of a replica. Commits are stored without their signatures; top is the certificate of the highest view at
-- a slot, done whether the slot is delivered
pub record Held : Type 0 where
  pub mode : Mode
  pub proposal : ℕ → ℕ → Option Proposal
  pub prepare : ℕ → ℕ → ℕ → Option Ballot
  pub commit : ℕ → ℕ → ℕ → Option Ballot
  pub change : ℕ → ℕ → Option Change
  pub top : ℕ → Option Certificate
  pub done : ℕ → Bool

-- a vote without its signature
abbrev pub bare : Option Ballot → Option Ballot
bare None = None
bare (Some b) = Some (record { digest = b.digest; sig = [] })

abbrev pub placed : Params → Option Value → Option (List ℕ) → Option Proposal
placed p None sig = None
placed p (Some x) sig = Some (record { value = x; digest = digest_of p x; sig = or_empty sig })

-- the state of a replica with this history
abbrev pub model : Params → ℕ → List (Item Message) → Held
model p me xs = record {
  mode = mode p (inputs xs);
  proposal = λ v s. placed p (proposal p me (inputs xs) v s) (proposal_sig p me xs v s);
  prepare = λ v s k. prepare_of p (inputs xs) v s k;
  commit = λ v s k. bare (commit_of p (inputs xs) v s k);
  change = λ v k. change_of p (inputs xs) v k;
  top = λ s. best s (kept p me xs);
  done = λ s. is_some (delivered pbft p me xs s);
}

-- ---- what is prepared and committed at a slot

-- whether at least that many replicas voted for the proposal
abbrev pub voted : Params → (ℕ → Option Ballot) → ℕ → Proposal → Bool
voted p g most q = nat_le most (length (voters g q.digest 0 p.setup.n))

abbrev pub only_if : {A : Type 0} → (A → Bool) → Option A → Option A
only_if test None = None
only_if test (Some x) = when (test x) x

abbrev pub prepared_at : Params → Held → ℕ → ℕ → Option Proposal
prepared_at p h v s = only_if (voted p (h.prepare v s) (2 * p.setup.f)) (h.proposal v s)

abbrev pub committed_at : Params → Held → ℕ → ℕ → Option Proposal
committed_at p h v s = only_if (voted p (h.commit v s) (2 * p.setup.f + 1)) (prepared_at p h v s)

-- whether there is a certificate, of this view
abbrev pub is_of : ℕ → Option Certificate → Bool
is_of v None = false
is_of v (Some c) = v == c.view

-- the proposal for which a Commit is due: it is prepared in the current view, which is active, and no Commit for it
-- was sent there
-- rule: PBFT: A replica commits once a view and slot to what 2f distinct replicas prepared
abbrev pub ready_at : Params → Held → ℕ → Option Proposal
ready_at p h s = cond (h.mode.active && not (is_of h.mode.view (h.top s))) (prepared_at p h h.mode.view s) None

abbrev pub certificate_of : Params → Held → Slot → Option Proposal → Option Certificate
certificate_of p h slot None = None
certificate_of p h slot (Some q) = Some (record {
  slot = slot;
  view = h.mode.view;
  value = q.value;
  sig = q.sig;
  prepares = take (2 * p.setup.f) (voters (h.prepare h.mode.view slot.0) q.digest 0 p.setup.n);
})

-- the proposal to deliver: it is committed in this view, and the slot was not delivered before
-- rule: PBFT: A slot is delivered once, when 2f+1 distinct replicas committed it in one view
abbrev pub newly_at : Params → Held → ℕ → ℕ → Option Proposal
newly_at p h v s = cond (h.done s) None (committed_at p h v s)

-- ---- what follows at a slot that an input touched in view v

-- with the prepared certificate stored, if a Commit is due
abbrev pub certified : Params → Held → Slot → Held
certified p h slot =
    record h { top = set_at h.top slot.0 (first_of (certificate_of p h slot (ready_at p h slot.0)) (h.top slot.0)) }

-- with the slot marked as delivered, if it is to be delivered
abbrev pub handed : Params → Held → ℕ → ℕ → Held
handed p h v s = record h { done = set_at h.done s (h.done s || is_some (newly_at p h v s)) }

abbrev pub settled : Params → Held → ℕ → Slot → Held
settled p h v slot = handed p (certified p h slot) v slot.0

abbrev pub commits_to : ℕ → Slot → Option Proposal → List Draft
commits_to v slot None = []
commits_to v slot (Some q) = DraftCommit v slot q.digest ∷ []

abbrev pub prepares_to : ℕ → Slot → Option Proposal → List Draft
prepares_to v slot None = []
prepares_to v slot (Some q) = DraftPrepare v slot q.digest ∷ []

-- a Prepare, if the replica answers, before the Commit
abbrev pub drafts_at : Params → Held → Bool → ℕ → Slot → List Draft
drafts_at p h answers v slot =
    cond answers (prepares_to v slot (h.proposal v slot.0)) [] ++ commits_to h.mode.view slot (ready_at p h slot.0)

abbrev pub delivery : Slot → Option Proposal → List (Slot × Value)
delivery slot None = []
delivery slot (Some q) = (slot, q.value) ∷ []

-- each slot in order
abbrev pub settled_all : Params → Held → ℕ → List Slot → Held
settled_all p h v [] = h
settled_all p h v (s ∷ ss) = settled_all p (settled p h v s) v ss

abbrev pub drafts_all : Params → Held → Bool → ℕ → List Slot → List Draft
drafts_all p h answers v [] = []
drafts_all p h answers v (s ∷ ss) = drafts_at p h answers v s ++ drafts_all p (settled p h v s) answers v ss

abbrev pub deliveries : Params → Held → ℕ → List Slot → List (Slot × Value)
deliveries p h v [] = []
deliveries p h v (s ∷ ss) = delivery s (newly_at p h v s.0) ++ deliveries p (settled p h v s) v ss

-- ---- the step of an input

pub record Turn : Type 0 where
  pub held : Held
  pub drafts : List Draft
  pub strings : List (List ℕ)
  pub accepted : Option (Slot × Batch)
  pub delivers : List (Slot × Value)

abbrev pub idle : Held → Turn
idle h = record { held = h; drafts = []; strings = []; accepted = None; delivers = [] }

-- an input touched these slots in view v
abbrev pub at_slots : Params → Held → Bool → ℕ → List Slot → Turn
at_slots p h answers v slots = record {
  held = settled_all p h v slots;
  drafts = drafts_all p h answers v slots;
  strings = [];
  accepted = None;
  delivers = deliveries p h v slots;
}

-- the batch, if there is no proposal yet
abbrev pub free : Held → Option (Slot × Batch) → Option (Slot × Batch)
free h None = None
free h (Some a) = cond (is_some (h.proposal 0 a.0.0)) None (Some a)

-- the batch that an input makes the replica accept
abbrev pub asked_at : Params → ℕ → Held → Input Message → Option (Slot × Batch)
asked_at p me h i = free h (offer p me h.mode i)

abbrev pub with_proposal : Held → ℕ → ℕ → Proposal → Held
with_proposal h v s q = record h { proposal = set_at2 h.proposal v s (Some q) }

abbrev pub first_proposal : Params → Slot × Batch → List ℕ → Proposal
first_proposal p a sig = record { value = Value_batch a.1; digest = digest_of p (Value_batch a.1); sig = sig }

-- the PrePrepare or Prepare for an accepted batch is sent first
abbrev pub and_said : Params → ℕ → Slot × Batch → Turn → Turn
and_said p me a t =
    record t { drafts = first_draft p me (Some a) ++ t.drafts; strings = asked_strings p (Some a); accepted = Some a }

abbrev pub accepts_of : Params → ℕ → ℕ → Held → Input Message → Option (Slot × Batch) → Turn
accepts_of p me leaf h i None = idle h
accepts_of p me leaf h i (Some a) =
    and_said p me a
    (at_slots p (with_proposal h 0 a.0.0 (first_proposal p a (first_sig p me leaf a i))) false 0 (a.0 ∷ []))

abbrev pub and_prepare : Params → Held → Input Message → Held
and_prepare p h i = record h { prepare = λ v s k. first_of (h.prepare v s k) (prepare_in p i v s k) }

abbrev pub and_commit : Params → Held → Input Message → Held
and_commit p h i = record h { commit = λ v s k. first_of (h.commit v s k) (bare (commit_in p i v s k)) }

abbrev pub and_change : Params → Held → Input Message → Held
and_change p h i = record h { change = λ v k. first_of (h.change v k) (change_in p i v k) }

-- the stored ViewChanges for a view
abbrev pub changes_at : Params → Held → ℕ → List Change
changes_at p h v = changes_from (h.change v) 0 p.setup.n

-- whether ViewChanges reach 2f+1 between the states h and u, at the primary
-- rule: PBFT: The primary sends a NewView once, with the ViewChange that makes 2f+1
abbrev pub completes_at : Params → ℕ → Held → Held → ℕ → Bool
completes_at p me h u v =
    ((me == primary p v) && nat_le h.mode.view v) &&
    (nat_lt (length (changes_at p h v)) (2 * p.setup.f + 1) && (length (changes_at p u v) == 2 * p.setup.f + 1))

abbrev pub changed : Params → ℕ → Held → Held → NodeId → ℕ → List Certificate → Turn
changed p me h u from v cs = record (idle u) {
  drafts = cond (completes_at p me h u v) (DraftNewView v (changes_at p u v) ∷ []) [];
  strings =
      cond (all_good p v cs && not (is_some (h.change v from.0))) (value_strings p cs) [] ++
      cond (completes_at p me h u v) (choice_strings p (changes_at p u v) p.slots) [];
}

-- the proposals of a NewView
abbrev pub chosen_at : Params → ℕ → List Change → List (List ℕ) → ℕ → ℕ → Option Proposal
chosen_at p v xs sigs w s =
    cond ((w == v) && has_slot s p.slots) (placed p (Some (choice xs s)) (sig_for s p.slots sigs)) None

abbrev pub entered : Params → Held → ℕ → List Change → List (List ℕ) → Held
entered p h v xs sigs = record h {
  mode = record { view = v; active = true };
  proposal = λ w s. first_of (chosen_at p v xs sigs w s) (h.proposal w s);
}

abbrev pub begins : Params → ℕ → Held → ℕ → List Change → List (List ℕ) → Turn
begins p me h v xs sigs = record (at_slots p (entered p h v xs sigs) (not (me == primary p v)) v p.slots) {
  strings = value_strings p (certificates_of xs) ++ choice_strings p xs p.slots;
}

abbrev pub tops_of : (ℕ → Option Certificate) → List Slot → List Certificate
tops_of top [] = []
tops_of top (s ∷ ss) = cons_some (top s.0) (tops_of top ss)

-- rule: PBFT: A timeout leaves the view and sends each slot's certificate of the highest view
abbrev pub gives_up : Params → Held → Turn
gives_up p h = record (idle (record h { mode = record { view = h.mode.view + 1; active = false } })) {
  drafts = DraftViewChange (h.mode.view + 1) (tops_of h.top p.slots) ∷ [];
}

abbrev pub turn_heard : Params → ℕ → ℕ → Held → NodeId → Message → Body → Turn
turn_heard p me leaf h from msg (PrePrepare v slot x) =
    accepts_of p me leaf h (Receive from msg) (asked_at p me h (Receive from msg))
turn_heard p me leaf h from msg (Prepare v slot d) =
    cond (has_slot slot.0 p.slots && not (from.0 == primary p v))
    (at_slots p (and_prepare p h (Receive from msg)) false v (slot ∷ [])) (idle h)
turn_heard p me leaf h from msg (Commit v slot d) =
    cond (has_slot slot.0 p.slots) (at_slots p (and_commit p h (Receive from msg)) false v (slot ∷ [])) (idle h)
turn_heard p me leaf h from msg (ViewChange v cs) = changed p me h (and_change p h (Receive from msg)) from v cs
turn_heard p me leaf h from msg (NewView v xs sigs) =
    cond (enters p h.mode from.0 v xs sigs) (begins p me h v xs sigs) (idle h)

abbrev pub turn : Params → ℕ → ℕ → Held → Input Message → Turn
turn p me leaf h (Cast slot batch) = accepts_of p me leaf h (Cast slot batch) (asked_at p me h (Cast slot batch))
turn p me leaf h (Receive from msg) = turn_heard p me leaf h from msg msg.body
turn p me leaf h Timeout = cond (passes h.mode) (gives_up p h) (idle h)

-- the turn agrees with the definitions over the whole history
pub record TurnsTo (p : Params) (me : ℕ) (xs : List (Item Message)) (i : Input Message) (leaf : ℕ)
    (t : Turn) : Type 0 where
  pub held : t.held ≡ model p me (and_then pbft p me xs i leaf)
  pub drafts : t.drafts ≡ drafts p me xs i
  pub strings : t.strings ≡ strings p me (inputs xs) i
  pub accepted : t.accepted ≡ asks p me xs i
  pub delivers : Delivers pbft p me xs (and_then pbft p me xs i leaf) t.delivers
