use Rattle.std.proofs.Common.{◌≡◌, ◌-◌, ◌++◌}
use Rattle.iss_lab.specs.Generated.{drawn_events}
use Rattle.iss_lab.proofs.generating.draw_events.Given as goal

abbrev pub invariant-loop-place : goal.invariant-loop-place
invariant-loop-place l = record {
  rest : l.events ++ drawn_events l.place (l.count - l.place) l.draws.state ≡ drawn_events 0 l.count l.number;
}
