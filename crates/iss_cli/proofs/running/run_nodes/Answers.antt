use Rattle.std.proofs.Common.{List, Option, IfOk, subst}
use Rattle.iss_links.specs.Ends.{End}
use Rattle.iss_cli.specs.Running.{IsOfCluster}
use Rattle.iss_cli.specs.Views.{Under}
use Rattle.iss_cli.proofs.running.run_nodes.Goals as goal

pub returns-clause-ok : goal.returns-clause-ok
returns-clause-ok g c =
    subst (λ (ends : Option (List End)). IfOk c.run_nodes_by_module.result (λ a. Under c.args.config.now.module (IsOfCluster c.args.config.now ends (g.L.Links.ends c.run_nodes_by_module.new.links) a))) c.in_ok-attach.ensures.ends
    c.run_nodes_by_module.ensures.ok
