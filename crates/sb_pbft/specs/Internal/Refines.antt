-- When PBFT's code refines a list of inputs, and what its parts do: what is signed and sent, kept as certificate, and
-- delivered.
use Rattle.std.specs.Prelude.{◌≡◌, ℕ, ◌+◌, ◌*◌, ◌==◌, ◌&&◌, Bool, cond, not, nat_le, nat_lt, List, [], ◌∷◌, ◌++◌, length, Option, Some, None, is_some}
use Rattle.std.specs.BTreeSet.{contains}
use Rattle.std.specs.Ordering.{nat_cmp}
use Rattle.iss_keys.specs.Directories.{AreKeysOf}
use Rattle.iss_keys.specs.KeyStates.{KeyState}
use Rattle.iss_request.specs.declared.ids.Slot.{Slot}
use Rattle.iss_request.specs.declared.requests.Batch.{Batch}
use Rattle.iss_request.specs.declared.requests.Value.{Value}
use Rattle.iss_request.specs.declared.requests.Value.TheVariants.{Batch as Value_batch}
use Rattle.iss_sb.specs.declared.effects.Effects.{Effects}
use Rattle.iss_sb.specs.declared.effects.Input.{Input}
use Rattle.iss_sb.specs.declared.effects.Params.{Params}
use Rattle.iss_sb.specs.declared.effects.To.{To}
use Rattle.iss_sb.specs.Calls.{AreToNodes, IsWithin, has_slot}
use Rattle.iss_sb.specs.Evidence.{Item}
use Rattle.pbft_wire.specs.declared.messages.Change.{Change}
use Rattle.pbft_wire.specs.declared.messages.Message.{Message}
use Rattle.pbft_views.specs.Choice.{choice}
use Rattle.pbft_views.specs.Good.{primary}
use Rattle.pbft_wire.specs.Statements.{digest_of, string_of}
use Rattle.sb_pbft.specs.declared.pbft.Pbft.{Pbft}
use Rattle.sb_pbft.specs.declared.proposals.Proposal.{Proposal}
use Rattle.sb_pbft.specs.Makes.{Draft, DraftNewView, choice_strings, sig_for, sign_all, uses_all}
use Rattle.sb_pbft.specs.Pbft.{pbft}
use Rattle.sb_pbft.specs.Places.{change_at, proposal_at, top_at, vote_at}
use Rattle.sb_pbft.specs.Rules.{is_open}
use Rattle.sb_pbft.specs.Internal.Turns.{Held, Turn, certified, changes_at, commits_to, deliveries, delivery}
use Rattle.sb_pbft.specs.Internal.Turns.{drafts_all, handed, model, newly_at, placed, prepares_to, ready_at}
use Rattle.sb_pbft.specs.Internal.Turns.{settled_all, turn}

-- the code's state as the model's
abbrev pub held : Pbft → Held
held m = record {
  mode = record { view = m.view; active = m.active };
  proposal = λ v s. proposal_at m.proposals v s;
  prepare = λ v s k. vote_at m.prepares v s k;
  commit = λ v s k. vote_at m.commits v s k;
  change = λ v k. change_at m.changes v k;
  top = λ s. top_at m.tops s;
  done = λ s. contains nat_cmp m.delivered s;
}

-- the code's state represents the history xs of replica me
pub record Refines (m : Pbft) (p : Params) (me : ℕ) (xs : List (Item Message)) : Type 0 where
  pub node : m.me.0 ≡ me
  pub state : held m ≡ model p me xs

-- ---- the code's tests

abbrev pub is_free : Params → Held → ℕ → Bool
is_free p h s = is_open p h.mode s && not (is_some (h.proposal 0 s))

abbrev pub may_cast : Params → Pbft → ℕ → Bool
may_cast p m s = (m.me.0 == p.leader.0) && is_free p (held m) s

abbrev pub may_take : Params → Pbft → ℕ → ℕ → ℕ → Bool
may_take p m from v s = (not (m.me.0 == p.leader.0) && (from == p.leader.0)) && ((v == 0) && is_free p (held m) s)

-- ---- what is signed and sent

-- these drafts were signed with the next leaves and appended to the messages
pub record Sent (p : Params) (ds : List Draft) (before later : KeyState) (old new : List (To × Message)) : Type 0 where
  pub used : later ≡ record before { used = before.used + uses_all p ds }
  pub sends : (me : ℕ) → AreKeysOf me p.setup.keys before → new ≡ old ++ sign_all p me before.used ds
  pub addressed : (n : ℕ) → AreToNodes n old → AreToNodes n new

-- ---- what the parts of a step do

abbrev pub digest_in : Option Proposal → Option (List ℕ)
digest_in None = None
digest_in (Some q) = Some q.digest

abbrev pub value_in : Option Proposal → Option Value
value_in None = None
value_in (Some q) = Some q.value

-- if a Commit was due at the slot, its certificate is stored and its digest returned
pub record HasCertified (p : Params) (old new : Pbft) (slot : Slot) (told : Option (List ℕ)) : Type 0 where
  pub node : new.me ≡ old.me
  pub holds : held new ≡ certified p (held old) slot
  pub digest : told ≡ digest_in (ready_at p (held old) slot.0)

-- if the slot was committed and not delivered, it is marked as delivered and its value returned
pub record HasDelivered (p : Params) (old new : Pbft) (v s : ℕ) (taken : Option Value) : Type 0 where
  pub node : new.me ≡ old.me
  pub holds : held new ≡ handed p (held old) v s
  pub value : taken ≡ value_in (newly_at p (held old) v s)

-- if the replica answers, a Prepare for the proposal was sent
pub record Answers (p : Params) (answers : Bool) (v : ℕ) (slot : Slot) (m : Pbft) (before later : KeyState)
    (e f : Effects Message) : Type 0 where
  pub sent : Sent p (cond answers (prepares_to v slot ((held m).proposal v slot.0)) []) before later e.sends f.sends
  pub delivers : f.delivers ≡ e.delivers
  pub accepted : f.accepted ≡ e.accepted
  pub hashed : f.hashed ≡ e.hashed

-- if a Commit was due at the slot, its certificate is stored and the Commit sent
pub record Commits (p : Params) (slot : Slot) (old new : Pbft) (before later : KeyState)
    (e f : Effects Message) : Type 0 where
  pub node : new.me ≡ old.me
  pub holds : held new ≡ certified p (held old) slot
  pub sent : Sent p (commits_to (held old).mode.view slot (ready_at p (held old) slot.0)) before later e.sends f.sends
  pub delivers : f.delivers ≡ e.delivers
  pub accepted : f.accepted ≡ e.accepted
  pub hashed : f.hashed ≡ e.hashed

-- if the slot was committed and not delivered, its value was delivered
pub record HandsOver (p : Params) (v : ℕ) (slot : Slot) (old new : Pbft) (e f : Effects Message) : Type 0 where
  pub node : new.me ≡ old.me
  pub holds : held new ≡ handed p (held old) v slot.0
  pub sends : f.sends ≡ e.sends
  pub delivers : f.delivers ≡ e.delivers ++ delivery slot (newly_at p (held old) v slot.0)
  pub accepted : f.accepted ≡ e.accepted
  pub hashed : f.hashed ≡ e.hashed

-- each of these slots was settled, in order
pub record Settles (p : Params) (answers : Bool) (v : ℕ) (slots : List Slot) (old new : Pbft) (before later : KeyState)
    (e f : Effects Message) : Type 0 where
  pub node : new.me ≡ old.me
  pub holds : held new ≡ settled_all p (held old) v slots
  pub sent : Sent p (drafts_all p (held old) answers v slots) before later e.sends f.sends
  pub delivers : f.delivers ≡ e.delivers ++ deliveries p (held old) v slots
  pub accepted : f.accepted ≡ e.accepted
  pub hashed : f.hashed ≡ e.hashed

-- the effects are those of the turn t, signed from this leaf on
pub record IsTurn (p : Params) (new : Pbft) (me leaf : ℕ) (t : Turn) (e : Effects Message)
    (before later : KeyState) : Type 0 where
  pub holds : held new ≡ t.held
  pub sends : e.sends ≡ sign_all p me leaf t.drafts
  pub used : later.used ≡ leaf + uses_all p t.drafts
  pub accepted : e.accepted ≡ t.accepted
  pub hashed : e.hashed ≡ t.strings
  pub delivers : e.delivers ≡ t.delivers

-- the contract of a step: if the keys are the replica's own, it is the turn of its state; with any keys its effects
-- are within the segment
pub record Does (p : Params) (old new : Pbft) (i : Input Message) (before later : KeyState)
    (e : Effects Message) : Type 0 where
  pub node : new.me ≡ old.me
  pub turns : AreKeysOf old.me.0 p.setup.keys before →
      IsTurn p new old.me.0 before.used (turn p old.me.0 before.used (held old) i) e before later
  pub within : IsWithin pbft p before later e

-- the effects of accepting a batch at the slot, with its value and digest
pub record HasAccepted (p : Params) (slot : Slot) (batch : Batch) (x : Value) (d : List ℕ)
    (e : Effects Message) : Type 0 where
  pub value : x ≡ Value_batch batch
  pub digest : d ≡ digest_of p (Value_batch batch)
  pub sends : e.sends ≡ []
  pub accepted : e.accepted ≡ Some (slot, batch)
  pub hashed : e.hashed ≡ string_of p (Value_batch batch) ∷ []
  pub delivers : e.delivers ≡ []

-- these strings were appended to the hashed ones
pub record HasHashed (strings : List (List ℕ)) (e f : Effects Message) : Type 0 where
  pub hashed : f.hashed ≡ e.hashed ++ strings
  pub sends : f.sends ≡ e.sends
  pub accepted : f.accepted ≡ e.accepted
  pub delivers : f.delivers ≡ e.delivers

-- whether the NewView is due: the primary, in no higher view, has just reached 2f+1 ViewChanges
abbrev pub is_due : Params → Pbft → ℕ → ℕ → Bool
is_due p m v before =
    ((m.me.0 == primary p v) && nat_le m.view v) &&
    (nat_lt before (2 * p.setup.f + 1) && (length (changes_at p (held m) v) == 2 * p.setup.f + 1))

-- if it is due, the NewView with the stored ViewChanges was sent, and the strings of its choices hashed
pub record Renews (p : Params) (due : Bool) (m : Pbft) (v : ℕ) (before later : KeyState)
    (e f : Effects Message) : Type 0 where
  pub sent : Sent p (cond due (DraftNewView v (changes_at p (held m) v) ∷ []) []) before later e.sends f.sends
  pub hashed : f.hashed ≡ e.hashed ++ cond due (choice_strings p (changes_at p (held m) v) p.slots) []
  pub accepted : f.accepted ≡ e.accepted
  pub delivers : f.delivers ≡ e.delivers

-- a new view's proposals at these slots: the values that these ViewChanges choose, with their signatures
abbrev pub chosen_among : Params → ℕ → List Change → List Slot → List (List ℕ) → ℕ → ℕ → Option Proposal
chosen_among p v xs slots sigs w s =
    cond ((w == v) && has_slot s slots) (placed p (Some (choice xs s)) (sig_for s slots sigs)) None
