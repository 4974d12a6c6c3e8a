use Rattle.std.proofs.Common.{◌<◌, subst, sym}
use Rattle.iss_request.specs.declared.setups.Setup.{Setup}
use Rattle.iss_rules.specs.Setups.{IsSetupOf}
use Rattle.iss_cluster.proofs.nodes.start_node.Goals as goal

pub start-requires : goal.start-requires
start-requires g c = record {
  good = subst (λ (s : Setup). IsSetupOf g.M.Sequenced.spec s) (sym c.in_ok-setup.ensures.value) c.requires.good;
  directory = c.in_ok-directory.ensures;
  me = subst (λ (s : Setup). c.args.me.0 < s.n) (sym c.in_ok-setup.ensures.value) c.requires.me;
}
