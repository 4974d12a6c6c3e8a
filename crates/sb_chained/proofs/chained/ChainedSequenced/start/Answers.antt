use Rattle.std.proofs.Common.{refl, ap}
use Rattle.iss_request.specs.declared.ids.NodeId.{NodeId}
use Rattle.sb_chained.proofs.chained.ChainedSequenced.start.Goals as goal

pub returns : goal.returns
returns c = record {
  node = ap (λ (z : NodeId). z.0) c.start.ensures.me;
  keeps = c.start.ensures.state c.args._p.now;
  batches = c.new.ensures;
  reached = λ n. refl;
}
