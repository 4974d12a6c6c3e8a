-- When the relay's code refines a list of inputs: it has marked the slots that were cast and those that are decided.
use Rattle.std.specs.Prelude.{◌≡◌, ℕ, ◌==◌, ◌&&◌, Bool, not, List, is_some, IfSome}
use Rattle.iss_base.specs.Lists.{In}
use Rattle.iss_request.specs.declared.ids.NodeId.{NodeId}
use Rattle.iss_request.specs.declared.ids.Slot.{Slot}
use Rattle.iss_sb.specs.declared.effects.Effects.{Effects}
use Rattle.iss_sb.specs.declared.effects.Params.{Params}
use Rattle.iss_sb.specs.Calls.{AllIn, AreToNodes, has_slot, slots_of}
use Rattle.iss_sb.specs.Evidence.{Item}
use Rattle.sb_relay.specs.declared.relay.Relay.{Relay}
use Rattle.sb_relay.specs.declared.say.Say.{Say}
use Rattle.sb_relay.specs.Relay.{decided, was_cast}

-- the state represents the history: its two lists hold the slots that were cast at, and the decided ones
pub record Refines (m : Relay) (p : Params) (me : ℕ) (xs : List (Item Say)) : Type 0 where
  pub node : m.me.0 ≡ me
  pub cast : (s : ℕ) → has_slot s m.cast ≡ was_cast s xs
  pub delivered : (s : ℕ) → has_slot s m.delivered ≡ is_some (decided p me xs s)

-- the tests of the code, over its state
abbrev pub may_cast : Relay → Params → Slot → Bool
may_cast m p slot = (m.me.0 == p.leader.0) && (has_slot slot.0 p.slots && not (has_slot slot.0 m.cast))

abbrev pub may_deliver : Relay → Params → NodeId → Slot → Bool
may_deliver m p from slot = (from.0 == p.leader.0) && (has_slot slot.0 p.slots && not (has_slot slot.0 m.delivered))

-- the effects are within the segment
pub record IsOfSegment (p : Params) (e : Effects Say) : Type 0 where
  pub delivered : AllIn (slots_of e.delivers) p.slots
  pub accepted : IfSome e.accepted (λ a. In a.0 p.slots)
  pub addressed : AreToNodes p.setup.n e.sends
