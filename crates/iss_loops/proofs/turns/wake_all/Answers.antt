use Rattle.std.proofs.Common.{rules}
use Rattle.iss_loops.proofs.LoopLemmas.{each-more, went}
use Rattle.iss_loops.specs.Loop.{wakes}
use Rattle.iss_loops.proofs.turns.wake_all.Goals as goal

pub loop-core-preserved : goal.loop-core-preserved
loop-core-preserved g c = record {
  still = search rules;
  goes = each-more (λ B. wakes B) c.loop-core.core _ _ _ c.loop-core.invariant.goes (went _ c.wake.result _ c.in_ok-wake.was c.wake.ensures.goes);
}
