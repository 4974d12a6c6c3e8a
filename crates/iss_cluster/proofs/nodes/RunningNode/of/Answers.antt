use Rattle.std.proofs.Common.{ap}
use Rattle.iss_cluster.proofs.NodeLemmas.{starts}
use Rattle.iss_request.specs.declared.setups.Setup.{Setup}
use Rattle.iss_cluster.proofs.nodes.RunningNode.of.Goals as goal

pub invariant_of-result : goal.invariant_of-result
invariant_of-result g c =
    starts g.M.Sequenced.spec g.M.Sequenced.refines g.D.Disk.state c.args.fresh.setup c.me-me.result c.args.fresh.me c.setup.result.now.n c.of.result
    c.requires c.me-me.ensures.member (ap (λ (s : Setup). s.n) c.setup.ensures) c.me-me.ensures.same
    c.of.ensures.same.0 c.of.ensures.same.1 c.of.ensures.stale
