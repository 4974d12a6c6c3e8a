use Rattle.std.proofs.Common.{◌≡◌, List, Some, drop}
use Rattle.iss_links.specs.Ends.{End}
use Rattle.iss_loops.specs.Loop.{send_packets}
use Rattle.iss_loops.proofs.events.send_from.Given as goal

abbrev pub invariant-loop-k : goal.invariant-loop-k
invariant-loop-k g l = record {
  still : g.L.Links.faults l.links ≡ g.L.Links.faults l.fn.links;
  sent : (ends : List End) → g.L.Links.ends l.fn.links ≡ Some ends
      → (now : List End) × (g.L.Links.ends l.links ≡ Some now) × (send_packets l.k (drop l.k l.packets) now ≡ send_packets l.first (drop l.first l.packets) ends);
}
