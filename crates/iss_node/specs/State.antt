-- What is seen of a node, and when it refines a core of the model. Its log, waiting requests, batches in flight, marks
-- and ballots are the core's, and each instance refines the list of what was taken there. Of earlier epochs only the
-- log is compared. Most steps look at no vote, so they are stated for a core without votes and certificates.
use Rattle.std.specs.Prelude.{◌≡◌, ℕ, ◌+◌, ◌*◌, ◌<◌, ◌≤◌, ◌==◌, Bool, false, cond, is_some, List, [], ◌∷◌, length, reverse, Option, Some, None, slice_get}
use Rattle.iss_keys.specs.Directories.{AreKeysOf, DirectoryView}
use Rattle.iss_keys.specs.KeyStates.{KeyState}
use Rattle.iss_layout.specs.Layout.{Conduct, IsStanding, Plan, epochs, leads}
use Rattle.iss_log.specs.Chains.{ChainsState, IsChainOf}
use Rattle.iss_log.specs.LogState.{LogState, value_at}
use Rattle.iss_ballots.specs.Ballots.{AreKept, BallotsState}
use Rattle.iss_checkpoint.specs.declared.votes.Cert.{Cert}
use Rattle.iss_checkpoint.specs.declared.votes.Vote.{Vote}
use Rattle.iss_rules.specs.Concrete.{keys_of, rules_of}
use Rattle.iss_model.specs.Node.{Core, Early as Kept_early, flown, joined}
use Rattle.iss_rules.specs.Past.{Past, before_own, log_of, taken_in}
use Rattle.iss_rules.specs.Rules.{Rules}
use Rattle.iss_rules.specs.Setups.{IsSetupOf}
use Rattle.iss_model.specs.Sound.{IsSoundCore}
use Rattle.iss_node.specs.Flights.{FlightState}
use Rattle.iss_node.specs.Saved.{SavedState}
use Rattle.iss_node.specs.declared.answers.Accepted.{Accepted}
use Rattle.iss_node.specs.declared.answers.Early.{Early}
use Rattle.iss_request.specs.Log.{log_ids}
use Rattle.iss_request.specs.declared.ids.NodeId.{NodeId}
use Rattle.iss_request.specs.declared.ids.ReqId.{ReqId}
use Rattle.iss_request.specs.declared.ids.Slot.{Slot}
use Rattle.iss_request.specs.declared.requests.Batch.{Batch}
use Rattle.iss_request.specs.declared.requests.Request.{Request}
use Rattle.iss_request.specs.declared.requests.Value.{Value}
use Rattle.iss_request.specs.declared.setups.Setup.{Setup}
use Rattle.iss_sb.specs.Evidence.{Item, Module, accepts, delivered}
use Rattle.iss_sb.specs.declared.effects.Params.{Params}
use Rattle.iss_sb.specs.Calls.{Relation}
use Rattle.iss_segment.specs.Ground.{RestsOn}
use Rattle.iss_segment.specs.Instance.{RefinesItems, SameIds, SegmentState}
use Rattle.iss_window.specs.Kept.{Kept}

-- The set-up is a good one, with this directory, and this is one of its nodes.
pub record IsMember {Msg : Type 0} (m : Module Msg) (s : Setup) (keys : DirectoryView) (node : ℕ) : Type 0 where
  pub good : IsSetupOf m s
  pub directory : keys ≡ keys_of s
  pub me : node < s.n

-- The state of a node in its epoch.
pub record StateView (M Msg : Type 0) : Type 0 where
  pub setup : Setup
  pub me : NodeId
  pub directory : DirectoryView
  pub epoch : ℕ
  -- The basis of the epoch: its layout, the windows, and the leader policy's record of each node.
  pub plan : Plan
  pub windows : Kept
  pub standing : List Conduct
  -- By node: its instance, if it leads the epoch.
  pub segments : List (Option (SegmentState M))
  -- The batches that the instances accepted, oldest first.
  pub accepted : List Accepted
  pub log : LogState
  -- The digest and the number of requests of each prefix of the log.
  pub chains : ChainsState
  pub waiting : List Request
  pub flight : FlightState
  pub early : List (Early Msg)
  -- The identities that were logged in this epoch.
  pub logged : List ReqId
  pub ballots : BallotsState
  -- What the snapshots in the journal hold. No step reads it.
  pub saved : SavedState
  pub keys : KeyState

pub record NodeView (M Msg : Type 0) : Type 0 where
  pub state : StateView M Msg
  -- The node ran out of memory, or has retreated.
  pub stale : Bool

-- The instance of a node, if it leads the epoch.
abbrev pub led_in : {M : Type 0} → Option (Option (SegmentState M)) → Option (SegmentState M)
led_in None = None
led_in (Some o) = o

abbrev pub led : {M : Type 0} → List (Option (SegmentState M)) → ℕ → Option (SegmentState M)
led segments l = led_in (slice_get segments l)

abbrev pub seen_one : {Msg : Type 0} → Early Msg → Kept_early Msg
seen_one x = record { from = x.from.0; leader = x.leader.0; msg = x.msg }

abbrev pub seen_early : {Msg : Type 0} → List (Early Msg) → List (Kept_early Msg)
seen_early [] = []
seen_early (x ∷ xs) = seen_one x ∷ seen_early xs

-- The batches that the instance of a leader accepted, oldest first.
abbrev pub accepted_of : ℕ → List Accepted → List (Slot × Batch)
accepted_of l [] = []
accepted_of l (x ∷ xs) = cond (x.leader.0 == l) ((x.slot, x.batch) ∷ accepted_of l xs) (accepted_of l xs)

-- The core with this history, without votes and certificates: no step of an instance reads those.
abbrev pub core_of : {M Msg : Type 0} → StateView M Msg → Past Msg → Core Msg
core_of v past =
    record {
      past = past;
      waiting = v.waiting;
      flight = v.flight.casts;
      early = seen_early v.early;
      votes = [];
      certs = [];
      leaf = v.keys.used;
    }

-- The value that the instances of an epoch deliver for a slot.
abbrev pub slot_value : {Msg : Type 0} → Rules → Module Msg → ℕ → List Value → Past Msg → ℕ → Option Value
slot_value R M me before past s =
    let l = R.leader before past.epoch s in
    delivered M (R.params before past.epoch l) me (taken_in past l) s

-- The instance of a leader refines the inputs that the node took for it.
pub record RefinesTaken {M Msg : Type 0} (refines : Relation M Msg) (p : Params) (me : NodeId) (taken : List (Item Msg))
    (g : SegmentState M) : Type 0 where
  pub params : g.params ≡ p
  pub node : g.me ≡ me
  pub instance : RefinesItems refines g taken

-- The state refines this history. `before` is the log before the current epoch.
pub record RefinesPastOver {M Msg : Type 0} (m : Module Msg) (refines : Relation M Msg)
    (v : StateView M Msg) (past : Past Msg) (before : List Value) : Type 0 where
  pub epoch : v.epoch ≡ past.epoch
  pub log : log_of (rules_of v.setup) m v.me.0 past ≡ reverse v.log.entries
  pub chained : IsChainOf v.chains v.log.entries
  -- The basis of the epoch.
  pub rests : RestsOn v.setup before past.epoch v.plan v.windows
  pub standing : IsStanding v.setup (epochs v.setup past.epoch before) v.standing
  -- The slots of the epoch: the log has all slots before them, and no slot after them has a value.
  pub start : v.plan.start ≡ past.epoch * v.setup.epoch
  pub begun : v.plan.start ≤ length v.log.entries
  pub cells : (s : ℕ) → v.plan.start ≤ s → s < v.plan.start + v.setup.epoch →
      value_at v.log s ≡ slot_value (rules_of v.setup) m v.me.0 before past s
  pub outside : (s : ℕ) → v.plan.start + v.setup.epoch ≤ s → value_at v.log s ≡ None
  pub hole : value_at v.log (length v.log.entries) ≡ None
  -- The instances of the epoch.
  pub leading : (l : ℕ) → is_some (led v.segments l) ≡ leads v.plan l
  pub instances : (l : ℕ) (g : SegmentState M) → led v.segments l ≡ Some g →
      RefinesTaken refines ((rules_of v.setup).params before past.epoch l) v.me (taken_in past l) g
  pub accepted : (l : ℕ) → reverse (accepted_of l v.accepted) ≡ accepts (taken_in past l)
  -- The requests that the node knows.
  pub logged : SameIds v.logged (log_ids (joined v.plan.start (log_of (rules_of v.setup) m v.me.0 past)))
  pub flown : SameIds v.flight.ids (flown v.flight.casts)
  pub sound : IsSoundCore (rules_of v.setup) m v.me.0 (core_of v past)
  pub keys : AreKeysOf v.me.0 v.setup.keys v.keys

abbrev pub RefinesPast : {M Msg : Type 0} → Module Msg → Relation M Msg → StateView M Msg → Past Msg → Type 0
RefinesPast m refines v past = RefinesPastOver m refines v past (before_own (rules_of v.setup) m v.me.0 past)

-- The state refines a core without votes and certificates. Of earlier epochs only the log is compared.
pub record RefinesBareCore {M Msg : Type 0} (m : Module Msg) (refines : Relation M Msg) (v : StateView M Msg)
    (c : Core Msg) : Type 0 where
  pub core : c ≡ core_of v c.past
  pub tied : RefinesPast m refines v c.past

-- A core without its votes and certificates, then a core with others.
abbrev pub bare : {Msg : Type 0} → Core Msg → Core Msg
bare c = record c { votes = []; certs = [] }

abbrev pub holding : {Msg : Type 0} → List Vote → List Cert → Core Msg → Core Msg
holding votes certs c = record c { votes = votes; certs = certs }

-- The state refines a core, with its votes and certificates.
pub record StateRefinesCore {M Msg : Type 0} (m : Module Msg) (refines : Relation M Msg) (v : StateView M Msg)
    (c : Core Msg) : Type 0 where
  pub state : RefinesBareCore m refines v (bare c)
  pub kept : AreKept v.ballots c.votes c.certs

-- The node is not stale, and its state refines the core.
pub record RefinesCore {M Msg : Type 0} (m : Module Msg) (refines : Relation M Msg) (v : NodeView M Msg)
    (c : Core Msg) : Type 0 where
  pub fresh : v.stale ≡ false
  pub held : StateRefinesCore m refines v.state c
