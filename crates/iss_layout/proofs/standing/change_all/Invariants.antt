use Rattle.std.proofs.Common.{◌≡◌, ◌<◌, ◌≤◌, ℕ, length, map}
use Rattle.std.specs.List.{filter}
use Rattle.iss_layout.specs.Layout.{carried, is_slot_of_leader, leads, past_all}
use Rattle.iss_layout.specs.Internal.Standings.{changed, shown}
use Rattle.iss_layout.proofs.standing.change_all.Given as goal

abbrev pub invariant-loop-i : goal.invariant-loop-i
invariant-loop-i l = record {
  size : length l.nodes ≡ 10;
  done : (j : ℕ) → j < l.i → carried (map shown l.nodes) j ≡ changed (carried (map shown l.fn.nodes) j) (leads l.ended.layout.now j) (past_all (filter (is_slot_of_leader l.ended.layout.now j) l.ended.nil_slots.now));
  left : (j : ℕ) → l.i ≤ j → carried (map shown l.nodes) j ≡ carried (map shown l.fn.nodes) j;
}
