-- The disk of a core, as a run sees it: the journaled events, newest first, how many calls pass before all others
-- fail, and whether one has failed since the last restart. An event is journaled by four calls, or not at all.
use Rattle.std.specs.Prelude.{ℕ, ◌-◌, nat_le, Bool, true, false, List, [], ◌∷◌, Option, Some, None}
use Rattle.iss_rules.specs.declared.events.NodeEvent.{NodeEvent}

-- the disk of one core
pub record Disk : Type 0 where
  -- the journaled events, newest first
  pub kept : List NodeEvent
  -- how many more calls succeed before all fail; `None` if no failure is planned
  pub passes : Option ℕ
  -- whether a call has failed since the core was last recovered
  pub failed : Bool

-- an empty disk that works
abbrev pub new_disk : Disk
new_disk = record { kept = []; passes = None; failed = false }

-- Journaling an event takes four device calls. The entry is written behind a closed gate and synced; then the gate is
-- opened and synced. If any call fails, the event is not journaled: a crash image has no trace of an unsynced open
-- gate.
abbrev pub entry_calls : ℕ
entry_calls = 4

-- whether enough calls are left to journal the next event
-- rule: Recovery: An event takes four disk calls, and is kept only if all four pass
abbrev pub may_keep : Option ℕ → Bool
may_keep None = true
may_keep (Some calls) = nat_le entry_calls calls

-- the calls that are left after it
abbrev pub left_behind : Option ℕ → Option ℕ
left_behind None = None
left_behind (Some calls) = Some (calls - entry_calls)

-- the event is journaled
abbrev pub keeps : Disk → NodeEvent → Disk
keeps d event = record { kept = event ∷ d.kept; passes = left_behind d.passes; failed = d.failed }

-- a call failed, and so will all later ones
abbrev pub fails : Disk → Disk
fails d = record { kept = d.kept; passes = Some 0; failed = true }

-- n more calls succeed and all later ones fail; a disk that has failed stays failed
-- rule: Recovery: After a crash n more disk calls of a core pass, and all others fail until it recovers
abbrev pub fused : Disk → ℕ → Disk
fused d calls = record { kept = d.kept; passes = Some calls; failed = d.failed }

-- the disk works again, and holds what was synced: the journaled events
abbrev pub works_again : Disk → Disk
works_again d = record { kept = d.kept; passes = None; failed = false }
