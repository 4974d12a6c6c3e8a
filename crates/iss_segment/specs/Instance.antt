-- One instance: parameters, node, module state, and the identities that it accepted. It refines the list of inputs
-- that it took if its module does, and its identities have the same members as the model's marks.
use Rattle.std.specs.Prelude.{◌≡◌, ℕ, List}
use Rattle.iss_rules.specs.Judge.{marks}
use Rattle.iss_request.specs.Log.{has_id}
use Rattle.iss_request.specs.declared.ids.NodeId.{NodeId}
use Rattle.iss_request.specs.declared.ids.ReqId.{ReqId}
use Rattle.iss_sb.specs.declared.effects.Params.{Params}
use Rattle.iss_sb.specs.Evidence.{Item, accepts}

-- An instance: its parameters, its node, its module, and the identities that it accepted.
pub record SegmentState (M : Type 0) : Type 0 where
  pub params : Params
  pub me : NodeId
  pub ordering : M
  pub marked : List ReqId

-- The lists have the same members.
abbrev pub SameIds : List ReqId → List ReqId → Type 0
SameIds a b = (x : ReqId) → has_id x a ≡ has_id x b

-- The instance refines this list of inputs.
pub record RefinesItems {M Msg : Type 0} (refines : M → Params → ℕ → List (Item Msg) → Type 0) (g : SegmentState M)
    (xs : List (Item Msg)) : Type 0 where
  pub ordering : refines g.ordering g.params g.me.0 xs
  pub marked : SameIds g.marked (marks (accepts xs))
