use Rattle.std.proofs.Common.{◌≡◌, List, Some}
use Rattle.iss_links.specs.Ends.{End}
use Rattle.iss_loops.specs.NodeLoop.{send_below}
use Rattle.iss_loops.proofs.sending.Sender.send_below.Given as goal

abbrev pub invariant-loop-node : goal.invariant-loop-node
invariant-loop-node g l = record {
  still : g.L.Links.faults l.links ≡ g.L.Links.faults l.fn.links;
  sent : (ends : List End) → g.L.Links.ends l.fn.links ≡ Some ends → g.L.Links.ends l.links ≡ Some (send_below l.self.me l.count l.node l.bytes ends);
}
