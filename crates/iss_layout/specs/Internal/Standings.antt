-- How the code keeps what the past epochs say about a node, and how the end of an epoch changes it.
use Rattle.std.specs.Prelude.{ℕ, suc, ◌-◌, max, nat_lt, Bool, if◌then◌else◌, Option, Some, None}
use Rattle.iss_request.specs.declared.ids.Slot.{Slot}
use Rattle.iss_layout.specs.Layout.{Conduct, doubled}
use Rattle.iss_layout.specs.declared.standing.Record.{Record}

-- one more than the slot, 0 if there is none
abbrev pub behind : Option Slot → ℕ
behind None = 0
behind (Some s) = suc s.0

abbrev pub shown : Record → Conduct
shown r = record { weight = r.weight; ban = r.ban; worst = behind r.worst }

-- A node's conduct after an epoch. `led`: whether it led the epoch. `worst`: one more than the greatest slot that
-- became nil under it there, 0 if there is none.
abbrev pub changed : Conduct → Bool → ℕ → Conduct
changed c led worst = record {
  weight = if led then (if nat_lt 0 worst then doubled c.weight else c.weight - 1) else c.weight;
  ban = if led then (if nat_lt 0 worst then doubled c.weight else 0) else c.ban - 1;
  worst = max worst c.worst;
}
