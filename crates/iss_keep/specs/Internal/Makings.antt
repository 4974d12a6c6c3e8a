-- What each event made at a node: its turn, and the first leaf it may have used. No leaf belongs to two events.
use Rattle.std.specs.Prelude.{ℕ, ◌≤◌, List, [], ◌∷◌}
use Rattle.iss_model.specs.Node.{Core, Dropped, Stepped, Taken, Turn, initial_core}
use Rattle.iss_rules.specs.declared.events.NodeEvent.{NodeEvent}
use Rattle.iss_request.specs.declared.setups.Setup.{Setup}
use Rattle.iss_sb.specs.Evidence.{Module}
use Rattle.iss_keep.specs.Cores.{step_of}

-- The turn that an event produced, and the first unused leaf before it. The event may have used the leaves from `first`
-- up to, but not including, the next leaf of the core after it.
pub record Making (Msg : Type 0) : Type 0 where
  pub first : ℕ
  pub turn : Turn Msg

-- One turn from a core, then the makings that follow it. A dropped event makes nothing.
abbrev pub made_on : {Msg : Type 0} → Core Msg → Stepped Msg → (Core Msg → List (Making Msg)) → List (Making Msg)
made_on c (Dropped why) more = more c
made_on c (Taken turn) more = record { first = c.leaf; turn = turn } ∷ more turn.core

-- The makings of these events, oldest first, starting from a core.
abbrev pub makings_from : {Msg : Type 0} → Setup → Module Msg → ℕ → List NodeEvent → Core Msg → List (Making Msg)
makings_from s m me [] c = []
makings_from s m me (event ∷ events) c = made_on c (step_of s m me c event) (makings_from s m me events)

abbrev pub makings_of : {Msg : Type 0} → Setup → Module Msg → ℕ → List NodeEvent → List (Making Msg)
makings_of s m me events = makings_from s m me events initial_core

-- The ranges of leaves are disjoint and ascending, and none begins below `leaf`.
-- rule: Persistence: No leaf is used by two entries, over all restarts
abbrev pub AreApart : {Msg : Type 0} → ℕ → List (Making Msg) → Type 0
AreApart leaf [] = Unit {0}
AreApart leaf (x ∷ xs) = (leaf ≤ x.first) × (x.first ≤ x.turn.core.leaf) × AreApart x.turn.core.leaf xs
