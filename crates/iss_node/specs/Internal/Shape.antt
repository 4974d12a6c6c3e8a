-- The invariant of a node, whatever it took: its instances are of its set-up and identity, and it refines some core
-- unless it is stale.
use Rattle.std.specs.Prelude.{◌≡◌, ◌⊎◌, ℕ, ◌+◌, ◌^◌, ◌<◌, true, List, [], ◌∷◌, length, Some}
use Rattle.iss_checkpoint.specs.Votes.{voters_of}
use Rattle.iss_rules.specs.Concrete.{keys_of}
use Rattle.iss_model.specs.Node.{Core}
use Rattle.iss_rules.specs.Setups.{IsSetupOf}
use Rattle.iss_node.specs.State.{NodeView, RefinesCore, StateView, led}
use Rattle.iss_node.specs.declared.answers.Early.{Early}
use Rattle.iss_request.specs.declared.ids.NodeId.{NodeId}
use Rattle.iss_request.specs.declared.setups.Setup.{Setup}
use Rattle.iss_sb.specs.Evidence.{Module}
use Rattle.iss_sb.specs.Calls.{Relation}
use Rattle.iss_segment.specs.Instance.{SegmentState}

-- An instance of leader l at this node, with this set-up.
pub record IsAt {M : Type 0} (s : Setup) (me : NodeId) (l : ℕ) (g : SegmentState M) : Type 0 where
  pub setup : g.params.setup ≡ s
  pub leader : g.params.leader.0 ≡ l
  pub node : g.me ≡ me

-- Early messages come from existing nodes.
abbrev pub AreFrom : {Msg : Type 0} → ℕ → List (Early Msg) → Type 0
AreFrom n [] = Unit {0}
AreFrom n (x ∷ xs) = (x.from.0 < n) × AreFrom n xs

pub record IsNodeState {M Msg : Type 0} (m : Module Msg) (v : StateView M Msg) : Type 0 where
  pub good : IsSetupOf m v.setup
  pub me : v.me.0 < v.setup.n
  pub directory : v.directory ≡ keys_of v.setup
  pub count : length v.segments ≡ v.setup.n
  pub slots : v.plan.slots ≡ v.setup.epoch
  pub nodes : v.plan.nodes ≡ v.setup.n
  pub fits : v.plan.start + v.setup.epoch < 2 ^ 64
  pub segments : (l : ℕ) (g : SegmentState M) → led v.segments l ≡ Some g → IsAt v.setup v.me l g
  pub early : AreFrom v.setup.n v.early
  pub version : v.chains.version ≡ v.setup.version
  pub voters : v.ballots.voters ≡ voters_of v.setup v.directory

-- The invariant of a node: it refines a core, or it is stale.
abbrev pub IsNode : {M Msg : Type 0} → Module Msg → Relation M Msg → NodeView M Msg → Type 0
IsNode {Msg = Msg} m refines v = (v.stale ≡ true) ⊎ ((c : Core Msg) × RefinesCore m refines v c)
