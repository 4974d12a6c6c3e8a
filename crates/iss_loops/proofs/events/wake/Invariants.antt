use Rattle.std.proofs.Common.{◌≡◌, take}
use Rattle.iss_loops.specs.Loop.{times_out}
use Rattle.iss_loops.specs.Progress.{Goes, seen}
use Rattle.iss_loops.proofs.events.wake.Given as goal

abbrev pub invariant-loop-leader : goal.invariant-loop-leader
invariant-loop-leader g l = record {
  still : g.L.Links.faults l.links ≡ g.L.Links.faults l.fn.links;
  goes : Goes 0 (λ B. times_out B l.core (take l.leader-index l.leaders))
      (seen g.C.TracedCluster.behavior g.C.TracedCluster.events g.C.TracedCluster.stale g.L.Links.ends g.L.Links.faults l.fn.cluster l.fn.links l.fn.progress)
      (seen g.C.TracedCluster.behavior g.C.TracedCluster.events g.C.TracedCluster.stale g.L.Links.ends g.L.Links.faults l.cluster l.links l.progress);
}
