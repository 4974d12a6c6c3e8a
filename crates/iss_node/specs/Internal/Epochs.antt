-- How the end of an epoch changes a node: the policy and the windows learn what joined the log, and fresh instances
-- start for the leaders of the next epoch.
use Rattle.std.specs.Prelude.{◌≡◌, ◌<◌, ℕ, [], ◌∷◌, ◌++◌, List, None, Some, is_some, reverse, Option, Err, Ok, Result}
use Rattle.std.specs.List.{filter}
use Rattle.iss_base.specs.Lists.{first_of}
use Rattle.iss_layout.specs.Layout.{Ended, IsGoodPlan, IsStanding, Plan, conduct_of, leads, plan_by, segment, slots_from}
use Rattle.iss_rules.specs.Concrete.{keys_of}
use Rattle.iss_model.specs.Node.{is_nil_at}
use Rattle.iss_rules.specs.declared.events.Why.{Why}
use Rattle.iss_node.specs.State.{StateView, led}
use Rattle.iss_node.specs.declared.answers.Outcome.{Outcome}
use Rattle.iss_request.specs.declared.ids.NodeId.{NodeId}
use Rattle.iss_request.specs.declared.ids.ReqId.{ReqId}
use Rattle.iss_request.specs.declared.setups.Setup.{Setup}
use Rattle.iss_sb.specs.declared.effects.Params.{Params}
use Rattle.iss_sb.specs.Calls.{IsGoodParams, Relation}
use Rattle.iss_sb.specs.Evidence.{Module}
use Rattle.iss_segment.specs.Instance.{RefinesItems, SegmentState}
use Rattle.iss_window.specs.Kept.{RefinesNoted}
use Rattle.iss_window.specs.Window.{Noted, and_closed, and_noted}

-- The concatenation of two outcomes. The later snapshot counts.
abbrev pub appended : Outcome → Outcome → Outcome
appended a b = record {
  sends = a.sends ++ b.sends;
  own = a.own ++ b.own;
  early = a.early ++ b.early;
  hashed = a.hashed ++ b.hashed;
  entered = first_of b.entered a.entered;
}

-- The outcome of a step, which is empty if the event was dropped.
abbrev pub or_nothing : Result Outcome Why → Outcome
or_nothing (Ok outcome) = outcome
or_nothing (Err why) = record { sends = []; own = []; early = []; hashed = []; entered = None }

-- These identities were noted, in order.
abbrev pub notes : Noted → List ReqId → Noted
notes n [] = n
notes n (x ∷ xs) = notes (and_noted n x) xs

-- What the leader policy learns from the epoch: its layout, and which of its slots are nil.
abbrev pub ended_of : {M Msg : Type 0} → StateView M Msg → Ended
ended_of v = record {
  plan = v.plan;
  nils = filter (λ s. is_nil_at (reverse v.log.entries) s.0) (slots_from v.plan.start v.setup.epoch);
}

-- The leader policy learned from the epoch. The windows noted the requests that were logged in it, and moved on.
pub record HasClosed {M Msg : Type 0} (old new : StateView M Msg) : Type 0 where
  pub standing : (past : List Ended) → IsStanding old.setup past old.standing →
      IsStanding old.setup (ended_of old ∷ past) new.standing
  pub windows : (n : Noted) → RefinesNoted old.windows n → RefinesNoted new.windows (and_closed (notes n old.logged))
  pub width : new.windows.width ≡ old.windows.width

-- The parameters with which the instance of a leader is started.
abbrev pub params_by : Setup → ℕ → Plan → ℕ → Params
params_by s e plan l =
    record {
      setup = s;
      epoch = record { 0 = e };
      leader = record { 0 = l };
      slots = segment plan l;
      directory = keys_of s;
    }

-- A good plan of n nodes.
pub record IsPlanOf (n : ℕ) (plan : Plan) : Type 0 where
  pub good : IsGoodPlan plan
  pub nodes : plan.nodes ≡ n

-- Good parameters of an instance at this node of their set-up.
pub record AreParamsAt {Msg : Type 0} (m : Module Msg) (p : Params) (node : ℕ) : Type 0 where
  pub good : IsGoodParams m p
  pub me : node < p.setup.n

-- Each leader has a fresh instance, and no other node has one.
pub record AreStarted {M Msg : Type 0} (refines : Relation M Msg) (s : Setup) (me : NodeId) (e : ℕ) (plan : Plan)
    (segments : List (Option (SegmentState M))) : Type 0 where
  pub leading : (l : ℕ) → is_some (led segments l) ≡ leads plan l
  pub params : (l : ℕ) (g : SegmentState M) → led segments l ≡ Some g → g.params ≡ params_by s e plan l
  pub node : (l : ℕ) (g : SegmentState M) → led segments l ≡ Some g → g.me ≡ me
  pub instances : (l : ℕ) (g : SegmentState M) → led segments l ≡ Some g → RefinesItems refines g []

-- An epoch was started, with the layout that the leader policy gives it.
pub record HasOpened {M Msg : Type 0} (refines : Relation M Msg) (old new : StateView M Msg)
    (e start : ℕ) : Type 0 where
  pub plan : (past : List Ended) → IsStanding old.setup past old.standing →
      new.plan ≡ plan_by old.setup e start (conduct_of past)
  pub started : AreStarted refines old.setup old.me e new.plan new.segments
  pub rest : new ≡ record old { epoch = e; plan = new.plan; segments = new.segments; accepted = []; logged = [] }
