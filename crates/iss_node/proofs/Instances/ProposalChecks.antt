-- A proposal, by the results of the node's checks.
use Rattle.std.proofs.Common.{◌≡◌, ℕ, List, true, false, Some, None, refl, subst, Ok, Err}
use Rattle.iss_rules.specs.Concrete.{rules_of}
use Rattle.iss_rules.specs.Formats.{formats_of}
use Rattle.iss_model.specs.Node.{Turn, advance_epochs, has_leaves, next_slot, step}
use Rattle.iss_rules.specs.Past.{Past, leads_in, params_of}
use Rattle.iss_rules.specs.declared.events.NodeEvent.TheVariants.{Propose as On_propose}
use Rattle.iss_rules.specs.declared.events.Why.TheVariants.{NothingToCast, NoKeys, NotLeader}
use Rattle.iss_node.proofs.Instances.ProposalRefines.{proposal-is}
use Rattle.iss_node.specs.Internal.Casts.{casting}
use Rattle.iss_node.specs.Internal.Shape.{IsNodeState}
use Rattle.iss_node.specs.State.{RefinesPast, StateView, core_of}
use Rattle.iss_node.specs.Steps.{IsLater, IsStep, IsTurnBehind, IsTurned}
use Rattle.iss_node.specs.declared.answers.Outcome.{Outcome}
use Rattle.iss_request.specs.declared.ids.NodeId.{NodeId}
use Rattle.iss_request.specs.declared.ids.Slot.{Slot}
use Rattle.iss_request.specs.declared.setups.Setup.{Setup}
use Rattle.iss_sb.specs.Evidence.{Item, Module}
use Rattle.iss_sb.specs.declared.effects.Params.{Params}

-- The node does not lead.
pub no-leader : {M Msg : Type 0} (m : Module Msg) (refines : M → Params → ℕ → List (Item Msg) → Type 0) (v : StateView M Msg) (shape : IsNodeState m v) (past : Past Msg) (tied : RefinesPast m refines v past) →
    leads_in (rules_of v.setup) m v.me.0 past v.me.0 ≡ false → IsStep m refines (core_of v past) (step (formats_of v.setup m) (rules_of v.setup) m v.me.0 (core_of v past) On_propose) v (Err NotLeader)
no-leader m refines v shape past tied leading = record {
  step_is = proposal-is m refines v shape past tied (formats_of v.setup m) false (has_leaves m (params_of (rules_of v.setup) m v.me.0 past v.me.0) v.keys.used) (next_slot (rules_of v.setup) m v.me.0 (core_of v past)) leading refl refl;
  refined = record { core = refl; tied = tied };
}

module _ {M Msg : Type 0} (m : Module Msg) (refines : M → Params → ℕ → List (Item Msg) → Type 0)
    (v : StateView M Msg) (shape : IsNodeState m v) (past : Past Msg) (tied : RefinesPast m refines v past) (leading : leads_in (rules_of v.setup) m v.me.0 past v.me.0 ≡ true) where
  pub no-slot : next_slot (rules_of v.setup) m v.me.0 (core_of v past) ≡ None → IsStep m refines (core_of v past) (step (formats_of v.setup m) (rules_of v.setup) m v.me.0 (core_of v past) On_propose) v (Err NothingToCast)
  no-slot next = record {
    step_is = proposal-is m refines v shape past tied (formats_of v.setup m) true (has_leaves m (params_of (rules_of v.setup) m v.me.0 past v.me.0) v.keys.used) None leading next refl;
    refined = record { core = refl; tied = tied };
  }

  pub no-keys : (s : Slot) → next_slot (rules_of v.setup) m v.me.0 (core_of v past) ≡ Some s → has_leaves m (params_of (rules_of v.setup) m v.me.0 past v.me.0) v.keys.used ≡ false →
      IsStep m refines (core_of v past) (step (formats_of v.setup m) (rules_of v.setup) m v.me.0 (core_of v past) On_propose) v (Err NoKeys)
  no-keys s next leaves = record { step_is = proposal-is m refines v shape past tied (formats_of v.setup m) true false (Some s) leading next leaves; refined = record { core = refl; tied = tied } }

  pub proposed-so : (s : Slot) → next_slot (rules_of v.setup) m v.me.0 (core_of v past) ≡ Some s → has_leaves m (params_of (rules_of v.setup) m v.me.0 past v.me.0) v.keys.used ≡ true →
      (u w : StateView M Msg) (first last : Outcome) → IsLater v u → IsTurned m refines (casting (formats_of v.setup m) (rules_of v.setup) m v.me.0 (core_of v past) s) u first →
      IsTurnBehind m refines u (λ F R me t. advance_epochs F R m me t) first w last →
      IsStep m refines (core_of v past) (step (formats_of v.setup m) (rules_of v.setup) m v.me.0 (core_of v past) On_propose) w (Ok last)
  proposed-so s next leaves u w first last later cast behind =
      let t : Turn Msg = casting (formats_of v.setup m) (rules_of v.setup) m v.me.0 (core_of v past) s in
      record {
        turn = advance_epochs (formats_of v.setup m) (rules_of v.setup) m v.me.0 t;
        step_is = proposal-is m refines v shape past tied (formats_of v.setup m) true true (Some s) leading next leaves;
        turned =
            subst (λ (z : Setup). IsTurned m refines (advance_epochs (formats_of z m) (rules_of z) m v.me.0 t) w last) later.setup
            (subst (λ (i : NodeId). IsTurned m refines (advance_epochs (formats_of u.setup m) (rules_of u.setup) m i.0 t) w last) later.me (behind t cast));
      }
