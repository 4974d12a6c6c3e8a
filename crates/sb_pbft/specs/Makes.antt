-- What a replica makes at an input: messages as drafts in their order, their signatures by the next leaves, and the
-- strings that it hashes. It keeps a certificate for each Commit that it sends.
use Rattle.std.specs.Prelude.{ℕ, suc, ◌+◌, ◌*◌, ◌==◌, ◌&&◌, ◌||◌, Bool, false, not, cond, List, [], ◌∷◌, ◌++◌, length, take, Option, Some, None, is_some}
use Rattle.iss_base.specs.Lists.{first_of}
use Rattle.iss_request.specs.declared.ids.NodeId.{NodeId}
use Rattle.iss_request.specs.declared.ids.Slot.{Slot}
use Rattle.iss_request.specs.declared.requests.Batch.{Batch}
use Rattle.iss_request.specs.declared.requests.Value.{Value}
use Rattle.iss_request.specs.declared.requests.Value.TheVariants.{Batch as Value_batch}
use Rattle.iss_sb.specs.declared.effects.Input.{Input}
use Rattle.iss_sb.specs.declared.effects.Input.TheVariants.{Cast, Receive, Timeout}
use Rattle.iss_sb.specs.declared.effects.Params.{Params}
use Rattle.iss_sb.specs.declared.effects.To.{To}
use Rattle.iss_sb.specs.declared.effects.To.TheVariants.{All as To_all}
use Rattle.iss_sb.specs.Calls.{has_slot}
use Rattle.iss_sb.specs.Evidence.{Item, Made}
use Rattle.iss_sb.specs.Statements.{signature}
use Rattle.pbft_wire.specs.declared.messages.Certificate.{Certificate}
use Rattle.pbft_wire.specs.declared.messages.Change.{Change}
use Rattle.pbft_wire.specs.declared.messages.Message.{Message}
use Rattle.pbft_wire.specs.declared.messages.Body.{Body}
use Rattle.pbft_wire.specs.declared.messages.Body.TheVariants.{PrePrepare, Prepare, Commit, ViewChange, NewView}
use Rattle.pbft_wire.specs.Statements.{digest_of, state_at, stated, string_of}
use Rattle.pbft_views.specs.Choice.{best, certificates_of, choice}
use Rattle.pbft_views.specs.Good.{all_good, primary}
use Rattle.sb_pbft.specs.Rules.{asked, change_of, changes, completes, cons_some, enters, mode, Mode, offer, passes, prepared, prepares, when}

abbrev pub inputs : List (Item Message) → List (Input Message)
inputs [] = []
inputs (x ∷ xs) = x.input ∷ inputs xs

-- ---- the signature of a proposal's PrePrepare

-- the signature of a PrePrepare
abbrev pub sig_heard : Body → List ℕ → List ℕ
sig_heard (PrePrepare v slot x) sig = sig
sig_heard other sig = []

-- in view 0: the leader's own, which is the first signature of a step that accepts a cast, or that of the PrePrepare
abbrev pub first_sig : Params → ℕ → ℕ → Slot × Batch → Input Message → List ℕ
first_sig p me leaf a (Cast slot batch) = signature p me leaf (state_at p 1 0 a.0.0 (digest_of p (Value_batch a.1)))
first_sig p me leaf a (Receive from msg) = sig_heard msg.body msg.sig
first_sig p me leaf a Timeout = []

abbrev pub offered_sig : Params → ℕ → Option (Slot × Batch) → ℕ → ℕ → Item Message → Option (List ℕ)
offered_sig p me None v s x = None
offered_sig p me (Some a) v s x = when ((v == 0) && (s == a.0.0)) (first_sig p me x.leaf a x.input)

-- the k-th signature, where s is the k-th slot
abbrev pub sig_for : ℕ → List Slot → List (List ℕ) → Option (List ℕ)
sig_for s [] sigs = None
sig_for s (t ∷ ts) [] = None
sig_for s (t ∷ ts) (sig ∷ sigs) = cond (t.0 == s) (Some sig) (sig_for s ts sigs)

abbrev pub chosen_sig_heard : Params → Mode → ℕ → Body → ℕ → ℕ → Option (List ℕ)
chosen_sig_heard p m from (NewView w xs sigs) v s =
    cond ((v == w) && (has_slot s p.slots && enters p m from w xs sigs)) (sig_for s p.slots sigs) None
chosen_sig_heard p m from other v s = None

abbrev pub chosen_sig : Params → Mode → Input Message → ℕ → ℕ → Option (List ℕ)
chosen_sig p m (Cast slot batch) v s = None
chosen_sig p m (Receive from msg) v s = chosen_sig_heard p m from.0 msg.body v s
chosen_sig p m Timeout v s = None

-- the signature of the PrePrepare of 'proposal', by the same recursion
abbrev pub proposal_sig : Params → ℕ → List (Item Message) → ℕ → ℕ → Option (List ℕ)
proposal_sig p me [] v s = None
proposal_sig p me (x ∷ xs) v s =
    first_of (chosen_sig p (mode p (inputs xs)) x.input v s)
    (first_of (proposal_sig p me xs v s) (offered_sig p me (offer p me (mode p (inputs xs)) x.input) v s x))

abbrev pub or_empty : Option (List ℕ) → List ℕ
or_empty None = []
or_empty (Some sig) = sig

-- ---- Commits, and the certificates that are kept with them

abbrev pub has : ℕ → ℕ → List Certificate → Bool
has v s [] = false
has v s (c ∷ cs) = ((v == c.view) && (s == c.slot.0)) || has v s cs

-- the value for which a Commit is due: it is prepared in the current view, which is active and has no certificate for
-- the slot. The list l includes the input; the certificates are those from before it
abbrev pub ready : Params → ℕ → List (Input Message) → List Certificate → ℕ → Option Value
ready p me l kept s =
    cond ((mode p l).active && not (has (mode p l).view s kept)) (prepared p me l (mode p l).view s) None

-- a prepared certificate with the Prepares of the 2f lowest replicas
abbrev pub certificate : Params → ℕ → List (Item Message) → ℕ → Slot → Value → Certificate
certificate p me xs v slot x = record {
  slot = slot;
  view = v;
  value = x;
  sig = or_empty (proposal_sig p me xs v slot.0);
  prepares = take (2 * p.setup.f) (prepares p (inputs xs) v slot.0 (digest_of p x));
}

abbrev pub certify : Params → ℕ → List (Item Message) → Slot → Option Value → List Certificate → List Certificate
certify p me xs slot None cs = cs
certify p me xs slot (Some x) cs = certificate p me xs (mode p (inputs xs)).view slot x ∷ cs

-- the certificates that an input adds at these slots; xs includes the input
abbrev pub certified : Params → ℕ → List (Item Message) → List Certificate → List Slot → List Certificate
certified p me xs kept [] = []
certified p me xs kept (s ∷ ss) = certify p me xs s (ready p me (inputs xs) kept s.0) (certified p me xs kept ss)

-- all certificates of the history, one for each Commit sent
abbrev pub kept : Params → ℕ → List (Item Message) → List Certificate
kept p me [] = []
kept p me (x ∷ xs) = certified p me (x ∷ xs) (kept p me xs) p.slots ++ kept p me xs

-- for each slot the certificate of the highest view, if there is one
abbrev pub tops : List Certificate → List Slot → List Certificate
tops cs [] = []
tops cs (s ∷ ss) = cons_some (best s.0 cs) (tops cs ss)

-- ---- messages before they are signed

pub data Draft : Type 0 where
  DraftPrePrepare : (slot : Slot) (value : Value) → Draft
  DraftPrepare : (view : ℕ) (slot : Slot) (digest : List ℕ) → Draft
  DraftCommit : (view : ℕ) (slot : Slot) (digest : List ℕ) → Draft
  DraftViewChange : (view : ℕ) (certificates : List Certificate) → Draft
  DraftNewView : (view : ℕ) (changes : List Change) → Draft

-- the leader sends a PrePrepare for the batch that it accepts, a backup a Prepare
abbrev pub first_draft : Params → ℕ → Option (Slot × Batch) → List Draft
first_draft p me None = []
first_draft p me (Some a) =
    cond (me == p.leader.0) (DraftPrePrepare a.0 (Value_batch a.1))
    (DraftPrepare 0 a.0 (digest_of p (Value_batch a.1))) ∷ []

-- the messages that come first: for an accepted batch, a due NewView, or a timeout
abbrev pub lead_heard : Params → ℕ → List (Item Message) → Input Message → Body → List Draft
lead_heard p me xs i (PrePrepare v slot x) = first_draft p me (asked p me (inputs xs) i)
lead_heard p me xs i (ViewChange v cs) =
    cond (completes p me (inputs xs) i v) (DraftNewView v (changes p (i ∷ inputs xs) v) ∷ []) []
lead_heard p me xs i other = []

abbrev pub lead : Params → ℕ → List (Item Message) → Input Message → List Draft
lead p me xs (Cast slot batch) = first_draft p me (asked p me (inputs xs) (Cast slot batch))
lead p me xs (Receive from msg) = lead_heard p me xs (Receive from msg) msg.body
lead p me xs Timeout =
    cond (passes (mode p (inputs xs)))
    (DraftViewChange ((mode p (inputs xs)).view + 1) (tops (kept p me xs) p.slots) ∷ []) []

-- the Prepare of a backup for the slot when it enters a new view
abbrev pub answer_heard : Params → ℕ → Mode → ℕ → Body → Slot → List Draft
answer_heard p me m from (NewView v xs sigs) s =
    cond (enters p m from v xs sigs && not (me == primary p v)) (DraftPrepare v s (digest_of p (choice xs s.0)) ∷ []) []
answer_heard p me m from other s = []

abbrev pub answer : Params → ℕ → Mode → Input Message → Slot → List Draft
answer p me m (Cast slot batch) s = []
answer p me m (Receive from msg) s = answer_heard p me m from.0 msg.body s
answer p me m Timeout s = []

-- the Commit for the slot, if one is due
abbrev pub commit_draft : Params → ℕ → Slot → Option Value → List Draft
commit_draft p v slot None = []
commit_draft p v slot (Some x) = DraftCommit v slot (digest_of p x) ∷ []

-- slot by slot, the Prepare before the Commit
abbrev pub by_slot : Params → ℕ → List (Item Message) → Input Message → List Slot → List Draft
by_slot p me xs i [] = []
by_slot p me xs i (s ∷ ss) =
    answer p me (mode p (inputs xs)) i s ++
    (commit_draft p (mode p (i ∷ inputs xs)).view s (ready p me (i ∷ inputs xs) (kept p me xs) s.0) ++
    by_slot p me xs i ss)

abbrev pub drafts : Params → ℕ → List (Item Message) → Input Message → List Draft
drafts p me xs i = lead p me xs i ++ by_slot p me xs i p.slots

-- ---- signatures: leaves (one-time keys) in the order of the messages

-- signatures of a NewView's PrePrepares, slot by slot
abbrev pub choice_sigs : Params → ℕ → ℕ → ℕ → List Change → List Slot → List (List ℕ)
choice_sigs p me leaf v xs [] = []
choice_sigs p me leaf v xs (s ∷ ss) =
    signature p me leaf (state_at p 1 v s.0 (digest_of p (choice xs s.0))) ∷ choice_sigs p me (suc leaf) v xs ss

-- the number of one-time keys that a message takes
abbrev pub uses : Params → Draft → ℕ
uses p (DraftPrePrepare slot x) = 1
uses p (DraftPrepare v slot d) = 1
uses p (DraftCommit v slot d) = 1
uses p (DraftViewChange v cs) = 1
uses p (DraftNewView v xs) = length p.slots + 1

-- the body, with the signature of its statement by this leaf
abbrev pub signed_by : Params → ℕ → ℕ → Body → Message
signed_by p me leaf body = record { body = body; sig = signature p me leaf (stated p body) }

-- a NewView signs its PrePrepares first, and then itself
-- rule: PBFT: A new view's primary signs a PrePrepare of each slot's choice, and then its NewView
abbrev pub sign : Params → ℕ → ℕ → Draft → Message
sign p me leaf (DraftPrePrepare slot x) = signed_by p me leaf (PrePrepare 0 slot x)
sign p me leaf (DraftPrepare v slot d) = signed_by p me leaf (Prepare v slot d)
sign p me leaf (DraftCommit v slot d) = signed_by p me leaf (Commit v slot d)
sign p me leaf (DraftViewChange v cs) = signed_by p me leaf (ViewChange v cs)
sign p me leaf (DraftNewView v xs) =
    signed_by p me (leaf + length p.slots) (NewView v xs (choice_sigs p me leaf v xs p.slots))

-- each message is sent to all
abbrev pub sign_all : Params → ℕ → ℕ → List Draft → List (To × Message)
sign_all p me leaf [] = []
sign_all p me leaf (d ∷ ds) = (To_all, sign p me leaf d) ∷ sign_all p me (leaf + uses p d) ds

abbrev pub uses_all : Params → List Draft → ℕ
uses_all p [] = 0
uses_all p (d ∷ ds) = uses p d + uses_all p ds

-- ---- strings

abbrev pub value_strings : Params → List Certificate → List (List ℕ)
value_strings p [] = []
value_strings p (c ∷ cs) = string_of p c.value ∷ value_strings p cs

abbrev pub choice_strings : Params → List Change → List Slot → List (List ℕ)
choice_strings p xs [] = []
choice_strings p xs (s ∷ ss) = string_of p (choice xs s.0) ∷ choice_strings p xs ss

abbrev pub asked_strings : Params → Option (Slot × Batch) → List (List ℕ)
asked_strings p None = []
asked_strings p (Some a) = string_of p (Value_batch a.1) ∷ []

-- the strings that an input hashes: of an accepted batch; of the values in a stored ViewChange, or in a NewView that
-- is entered. A NewView that is sent or entered adds those of its choices, slot by slot
abbrev pub strings_heard : Params → ℕ → List (Input Message) → NodeId → Message → Body → List (List ℕ)
strings_heard p me l from msg (PrePrepare v slot x) = asked_strings p (asked p me l (Receive from msg))
strings_heard p me l from msg (ViewChange v cs) =
    cond (all_good p v cs && not (is_some (change_of p l v from.0))) (value_strings p cs) [] ++
    cond (completes p me l (Receive from msg) v) (choice_strings p (changes p (Receive from msg ∷ l) v) p.slots) []
strings_heard p me l from msg (NewView v xs sigs) =
    cond (enters p (mode p l) from.0 v xs sigs) (value_strings p (certificates_of xs) ++ choice_strings p xs p.slots) []
strings_heard p me l from msg other = []

abbrev pub strings : Params → ℕ → List (Input Message) → Input Message → List (List ℕ)
strings p me l (Cast slot batch) = asked_strings p (asked p me l (Cast slot batch))
strings p me l (Receive from msg) = strings_heard p me l from msg msg.body
strings p me l Timeout = []

abbrev pub made_of : Params → ℕ → ℕ → Option (Slot × Batch) → List (List ℕ) → List Draft → Made Message
made_of p me leaf a strings ds =
    record { sends = sign_all p me leaf ds; accepted = a; strings = strings; used = uses_all p ds }

abbrev pub makes : Params → ℕ → List (Item Message) → Input Message → ℕ → Made Message
makes p me xs i leaf = made_of p me leaf (asked p me (inputs xs) i) (strings p me (inputs xs) i) (drafts p me xs i)
