-- How a node casts: the first open slot of its segment, and the first waiting requests whose buckets it owns and that
-- nothing marks.
use Rattle.std.specs.Prelude.{◌≡◌, ℕ, Bool, ◌&&◌, ◌==◌, not, is_some, List, [], ◌∷◌, ◌++◌, Some}
use Rattle.std.specs.List.{list_any}
use Rattle.iss_buckets.specs.Waiting.{cut, may_cast, uncut}
use Rattle.iss_window.specs.Ids.{and_ids}
use Rattle.iss_log.specs.LogState.{LogState, value_at}
use Rattle.iss_rules.specs.Parcels.{Formats}
use Rattle.iss_model.specs.Node.{Core, Turn, is_mine, step_unjudged}
use Rattle.iss_rules.specs.Rules.{Rules}
use Rattle.iss_node.specs.State.{StateView, led}
use Rattle.iss_request.specs.declared.ids.Slot.{Slot}
use Rattle.iss_request.specs.declared.requests.Batch.{Batch}
use Rattle.iss_sb.specs.Evidence.{Item, Module}
use Rattle.iss_sb.specs.declared.effects.Input.TheVariants.{Cast}
use Rattle.iss_sb.specs.declared.effects.Params.{Params}
use Rattle.iss_segment.specs.Instance.{SegmentState}

-- The slot has no value, no proposal in flight, and the module accepts proposals for it.
abbrev pub is_open : {Msg : Type 0} → Module Msg → Params → ℕ → List (Item Msg) → LogState →
    List (Slot × Batch) → Slot → Bool
is_open m p me xs log flight s = not (list_any (λ (x : Slot × Batch). x.0.0 == s.0) flight) &&
    (not (is_some (value_at log s.0)) && is_some (m.asks p me xs (Cast s [])))

-- A batch was cut for a slot: its requests left the waiting list and are in flight. Requests that the node's own
-- instance accepted before are not cut.
pub record IsCut {M Msg : Type 0} (old new : StateView M Msg) (slot : Slot) (batch : Batch) : Type 0 where
  pub own : SegmentState M
  pub at : led old.segments old.me.0 ≡ Some own
  pub taken : batch ≡ cut old.setup.batch (may_cast old.plan old.me.0 own.marked) old.waiting
  pub left : new.waiting ≡ uncut old.setup.batch (may_cast old.plan old.me.0 own.marked) old.waiting
  pub flies : new.flight ≡ record { casts = old.flight.casts ++ (slot, batch) ∷ []; ids = and_ids old.flight.ids batch }
  pub rest : new ≡ record old { waiting = new.waiting; flight = new.flight }

-- The turn of a proposal for a slot.
abbrev pub casting : {Msg : Type 0} → Formats Msg → Rules → Module Msg → ℕ → Core Msg → Slot → Turn Msg
casting F R m me c s =
    let batch = cut R.batch (is_mine R m me c) c.waiting in
    step_unjudged F R m me (record c {
      waiting = uncut R.batch (is_mine R m me c) c.waiting;
      flight = c.flight ++ (s, batch) ∷ [];
    }) me (Cast s batch)
