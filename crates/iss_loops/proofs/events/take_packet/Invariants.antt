use Rattle.std.proofs.Common.{◌≡◌, List, Some}
use Rattle.iss_links.specs.Ends.{End}
use Rattle.iss_loops.specs.Loop.{packet_at}
use Rattle.iss_loops.proofs.TakeLemmas.{Takes}
use Rattle.iss_loops.proofs.events.take_packet.Given as goal

abbrev pub invariant-loop : goal.invariant-loop
invariant-loop g l = record {
  still : g.L.Links.faults l.links ≡ g.L.Links.faults l.fn.links;
  taken : (ends : List End) → g.L.Links.ends l.fn.links ≡ Some ends
      → Takes l.at l.most l.counter (g.L.Links.ends l.links) (packet_at l.at l.most ends);
}
