use Rattle.std.proofs.Common.{rules}
use Rattle.iss_loops.proofs.LoopLemmas.{each-more, went}
use Rattle.iss_loops.specs.Loop.{receives}
use Rattle.iss_loops.proofs.turns.receive_all.Goals as goal

pub loop-core-preserved : goal.loop-core-preserved
loop-core-preserved g c = record {
  still = search rules;
  goes = each-more (λ B. receives B c.args.most) c.loop-core.core _ _ _ c.loop-core.invariant.goes (went _ c.receive.result _ c.in_ok-receive.was c.receive.ensures.goes);
}
