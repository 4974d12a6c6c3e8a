-- PBFT's rules as functions of the list of inputs, newest first: the view and whether it is active, the proposal at a
-- view and slot, and the first Prepare, Commit and ViewChange of each replica. A slot is prepared with Prepares of 2f
-- replicas other than the primary, and committed with Commits of 2f+1. A NewView is due with the (2f+1)-th good
-- ViewChange.
use Rattle.std.specs.Prelude.{ℕ, zero, suc, ◌+◌, ◌*◌, ◌==◌, ◌&&◌, ◌||◌, Bool, true, false, not, cond, nat_lt, nat_le, List, [], ◌∷◌, length, Option, Some, None}
use Rattle.iss_base.specs.Lists.{first_of, same_bytes}
use Rattle.iss_request.specs.declared.ids.NodeId.{NodeId}
use Rattle.iss_request.specs.declared.ids.Slot.{Slot}
use Rattle.iss_request.specs.declared.requests.Batch.{Batch}
use Rattle.iss_request.specs.declared.requests.Value.{Value}
use Rattle.iss_request.specs.declared.requests.Value.TheVariants.{Batch as Value_batch}
use Rattle.iss_sb.specs.declared.effects.Input.{Input}
use Rattle.iss_sb.specs.declared.effects.Input.TheVariants.{Cast, Receive, Timeout}
use Rattle.iss_sb.specs.declared.effects.Params.{Params}
use Rattle.iss_sb.specs.Calls.{has_slot}
use Rattle.pbft_wire.specs.declared.messages.Change.{Change}
use Rattle.iss_sb.specs.declared.signers.Signed.{Signed}
use Rattle.pbft_wire.specs.declared.messages.Message.{Message}
use Rattle.pbft_wire.specs.declared.messages.Body.{Body}
use Rattle.pbft_wire.specs.declared.messages.Body.TheVariants.{PrePrepare, Prepare, Commit, ViewChange, NewView}
use Rattle.pbft_wire.specs.Statements.{digest_of}
use Rattle.pbft_views.specs.Choice.{choice}
use Rattle.pbft_views.specs.Good.{all_good, are_enough, primary}

-- x, if the test passes
abbrev pub when : {A : Type 0} → Bool → A → Option A
when b x = cond b (Some x) None

-- ---- the view

pub record Mode : Type 0 where
  pub view : ℕ
  pub active : Bool

-- a view above the current one, or the current one if it is not active
abbrev pub is_newer : Mode → ℕ → Bool
is_newer m v = nat_lt m.view v || ((m.view == v) && not m.active)

-- whether a NewView starts its view: it is of the primary, has 2f+1 good ViewChanges, and a signature for each slot
-- rule: PBFT: A replica enters a view above its own, or its inactive own one, by the primary's NewView
abbrev pub enters : Params → Mode → ℕ → ℕ → List Change → List (List ℕ) → Bool
enters p m from v xs sigs =
    is_newer m v && (are_enough p v xs && ((from == primary p v) && (nat_lt 0 v && (length sigs == length p.slots))))

-- whether a timeout has an effect: views are at most 65,535
abbrev pub passes : Mode → Bool
passes m = nat_lt m.view 65535

abbrev pub mode_heard : Params → Mode → ℕ → Body → Mode
mode_heard p m from (NewView v xs sigs) = cond (enters p m from v xs sigs) (record { view = v; active = true }) m
mode_heard p m from other = m

abbrev pub mode_after : Params → Mode → Input Message → Mode
mode_after p m (Cast slot batch) = m
mode_after p m (Receive from msg) = mode_heard p m from.0 msg.body
mode_after p m Timeout = cond (passes m) (record { view = m.view + 1; active = false }) m

abbrev pub mode : Params → List (Input Message) → Mode
mode p [] = record { view = 0; active = true }
mode p (i ∷ l) = mode_after p (mode p l) i

-- ---- proposals

-- whether view 0 is active, and the slot in the segment
-- rule: PBFT: A replica takes a batch for a slot once, in view 0 while that is active
abbrev pub is_open : Params → Mode → ℕ → Bool
is_open p m s = (m.view == 0) && (m.active && has_slot s p.slots)

-- the batch that a body proposes in view 0
abbrev pub offer_heard : Params → ℕ → Mode → ℕ → Body → Option (Slot × Batch)
offer_heard p me m from (PrePrepare v slot (Value_batch b)) =
    when ((not (me == p.leader.0) && (from == p.leader.0)) && ((v == 0) && is_open p m slot.0)) (slot, b)
offer_heard p me m from other = None

-- the batch that an input proposes in view 0, whether or not there is a proposal already: a cast at the leader, or
-- the leader's PrePrepare at a backup
-- rule: PBFT: The leader alone casts, and replicas take a batch from the leader alone
abbrev pub offer : Params → ℕ → Mode → Input Message → Option (Slot × Batch)
offer p me m (Cast slot batch) = when ((me == p.leader.0) && is_open p m slot.0) (slot, batch)
offer p me m (Receive from msg) = offer_heard p me m from.0 msg.body
offer p me m Timeout = None

-- the value that an offer proposes at (v, s)
abbrev pub offered : Option (Slot × Batch) → ℕ → ℕ → Option Value
offered None v s = None
offered (Some a) v s = when ((v == 0) && (s == a.0.0)) (Value_batch a.1)

-- the value that a NewView proposes at (v, s)
abbrev pub chosen_heard : Params → Mode → ℕ → Body → ℕ → ℕ → Option Value
chosen_heard p m from (NewView w xs sigs) v s =
    when ((v == w) && (has_slot s p.slots && enters p m from w xs sigs)) (choice xs s)
chosen_heard p m from other v s = None

abbrev pub chosen : Params → Mode → Input Message → ℕ → ℕ → Option Value
chosen p m (Cast slot batch) v s = None
chosen p m (Receive from msg) v s = chosen_heard p m from.0 msg.body v s
chosen p m Timeout v s = None

-- the replica's proposal at (v, s): the value of the PrePrepare that it sent or accepted
abbrev pub proposal : Params → ℕ → List (Input Message) → ℕ → ℕ → Option Value
proposal p me [] v s = None
proposal p me (i ∷ l) v s =
    first_of (chosen p (mode p l) i v s) (first_of (proposal p me l v s) (offered (offer p me (mode p l) i) v s))

-- the batch, if there is no proposal yet
abbrev pub unless : Option Value → Slot × Batch → Option (Slot × Batch)
unless None a = Some a
unless (Some x) a = None

abbrev pub asked_of : Params → ℕ → List (Input Message) → Option (Slot × Batch) → Option (Slot × Batch)
asked_of p me l None = None
asked_of p me l (Some a) = unless (proposal p me l 0 a.0.0) a

-- the batch that an input makes the replica accept
abbrev pub asked : Params → ℕ → List (Input Message) → Input Message → Option (Slot × Batch)
asked p me l i = asked_of p me l (offer p me (mode p l) i)

-- ---- votes

-- a vote: the digest and the signature of a Prepare or a Commit
pub record Ballot : Type 0 where
  pub digest : List ℕ
  pub sig : List ℕ

abbrev pub is_at : ℕ → ℕ → ℕ → ℕ → ℕ → ℕ → Bool
is_at from w t v s k = (from == k) && ((v == w) && (s == t))

abbrev pub prepare_heard : Params → ℕ → Body → List ℕ → ℕ → ℕ → ℕ → Option Ballot
prepare_heard p from (Prepare w slot d) sig v s k =
    when (is_at from w slot.0 v s k && (has_slot slot.0 p.slots && not (from == primary p w)))
    (record { digest = d; sig = sig })
prepare_heard p from other sig v s k = None

abbrev pub prepare_in : Params → Input Message → ℕ → ℕ → ℕ → Option Ballot
prepare_in p (Cast slot batch) v s k = None
prepare_in p (Receive from msg) v s k = prepare_heard p from.0 msg.body msg.sig v s k
prepare_in p Timeout v s k = None

-- rule: PBFT: A replica's first Prepare and first Commit count, once a view and slot
-- rule: PBFT: A Prepare of the primary does not count
abbrev pub prepare_of : Params → List (Input Message) → ℕ → ℕ → ℕ → Option Ballot
prepare_of p [] v s k = None
prepare_of p (i ∷ l) v s k = first_of (prepare_of p l v s k) (prepare_in p i v s k)

abbrev pub commit_heard : Params → ℕ → Body → List ℕ → ℕ → ℕ → ℕ → Option Ballot
commit_heard p from (Commit w slot d) sig v s k =
    when (is_at from w slot.0 v s k && has_slot slot.0 p.slots) (record { digest = d; sig = sig })
commit_heard p from other sig v s k = None

abbrev pub commit_in : Params → Input Message → ℕ → ℕ → ℕ → Option Ballot
commit_in p (Cast slot batch) v s k = None
commit_in p (Receive from msg) v s k = commit_heard p from.0 msg.body msg.sig v s k
commit_in p Timeout v s k = None

abbrev pub commit_of : Params → List (Input Message) → ℕ → ℕ → ℕ → Option Ballot
commit_of p [] v s k = None
commit_of p (i ∷ l) v s k = first_of (commit_of p l v s k) (commit_in p i v s k)

-- the vote of replica k put before the others, if it is for the digest
abbrev pub cons_vote : List ℕ → ℕ → Option Ballot → List Signed → List Signed
cons_vote d k None xs = xs
cons_vote d k (Some b) xs = cond (same_bytes d b.digest) (record { by = record { 0 = k }; sig = b.sig } ∷ xs) xs

-- the votes for the digest among replicas k, .., k+m-1
abbrev pub voters : (ℕ → Option Ballot) → List ℕ → ℕ → ℕ → List Signed
voters g d k zero = []
voters g d k (suc m) = cons_vote d k (g k) (voters g d (suc k) m)

abbrev pub prepares : Params → List (Input Message) → ℕ → ℕ → List ℕ → List Signed
prepares p l v s d = voters (prepare_of p l v s) d 0 p.setup.n

abbrev pub commits : Params → List (Input Message) → ℕ → ℕ → List ℕ → List Signed
commits p l v s d = voters (commit_of p l v s) d 0 p.setup.n

-- PBFT's "prepared": the proposal, if 2f distinct replicas other than the primary prepared it
abbrev pub prepared_with : Params → List (Input Message) → ℕ → ℕ → Option Value → Option Value
prepared_with p l v s None = None
prepared_with p l v s (Some x) = when (nat_le (2 * p.setup.f) (length (prepares p l v s (digest_of p x)))) x

abbrev pub prepared : Params → ℕ → List (Input Message) → ℕ → ℕ → Option Value
prepared p me l v s = prepared_with p l v s (proposal p me l v s)

-- PBFT's "committed-local": prepared, with Commits of 2f+1 distinct replicas
abbrev pub committed_with : Params → List (Input Message) → ℕ → ℕ → Option Value → Option Value
committed_with p l v s None = None
committed_with p l v s (Some x) = when (nat_le (2 * p.setup.f + 1) (length (commits p l v s (digest_of p x)))) x

abbrev pub committed : Params → ℕ → List (Input Message) → ℕ → ℕ → Option Value
committed p me l v s = committed_with p l v s (prepared p me l v s)

-- the value that is committed in the lowest of the views 0 to v. No view above the current one has a proposal
abbrev pub lowest : (ℕ → Option Value) → ℕ → Option Value
lowest in_view zero = in_view 0
lowest in_view (suc v) = first_of (lowest in_view v) (in_view (suc v))

-- ---- ViewChanges

-- the ViewChange that an input brings, if it is good
abbrev pub change_heard : Params → NodeId → Body → List ℕ → ℕ → ℕ → Option Change
change_heard p from (ViewChange w cs) sig v k =
    when (((from.0 == k) && (v == w)) && all_good p w cs)
    (record { node = from; view = w; certificates = cs; sig = sig })
change_heard p from other sig v k = None

abbrev pub change_in : Params → Input Message → ℕ → ℕ → Option Change
change_in p (Cast slot batch) v k = None
change_in p (Receive from msg) v k = change_heard p from msg.body msg.sig v k
change_in p Timeout v k = None

-- rule: PBFT: A replica's first good ViewChange of a view is kept
abbrev pub change_of : Params → List (Input Message) → ℕ → ℕ → Option Change
change_of p [] v k = None
change_of p (i ∷ l) v k = first_of (change_of p l v k) (change_in p i v k)

abbrev pub cons_some : {A : Type 0} → Option A → List A → List A
cons_some None xs = xs
cons_some (Some x) xs = x ∷ xs

abbrev pub changes_from : (ℕ → Option Change) → ℕ → ℕ → List Change
changes_from g k zero = []
changes_from g k (suc m) = cons_some (g k) (changes_from g (suc k) m)

-- the stored ViewChanges for view v, in ascending order of their senders
abbrev pub changes : Params → List (Input Message) → ℕ → List Change
changes p l v = changes_from (change_of p l v) 0 p.setup.n

-- whether the primary of view v sends its NewView at this input: with it, and not before, it has 2f+1 ViewChanges
abbrev pub completes : Params → ℕ → List (Input Message) → Input Message → ℕ → Bool
completes p me l i v =
    ((me == primary p v) && nat_le (mode p l).view v) &&
    (nat_lt (length (changes p l v)) (2 * p.setup.f + 1) && (length (changes p (i ∷ l) v) == 2 * p.setup.f + 1))
