use Rattle.std.proofs.Common.{◌≡◌}
use Rattle.iss_loops.specs.Loop.{each_below, requests}
use Rattle.iss_loops.specs.Progress.{Goes, seen}
use Rattle.iss_loops.proofs.turns.hand_out.Given as goal

abbrev pub invariant-loop-core : goal.invariant-loop-core
invariant-loop-core g l = record {
  still : g.L.Links.faults l.links ≡ g.L.Links.faults l.fn.links;
  goes : Goes 0 (λ B. each_below (requests B l.i) l.core)
      (seen g.C.TracedCluster.behavior g.C.TracedCluster.events g.C.TracedCluster.stale g.L.Links.ends g.L.Links.faults l.fn.cluster l.fn.links l.fn.progress)
      (seen g.C.TracedCluster.behavior g.C.TracedCluster.events g.C.TracedCluster.stale g.L.Links.ends g.L.Links.faults l.cluster l.links l.progress);
}
