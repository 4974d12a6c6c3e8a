use Rattle.std.proofs.Common.{List, Option, IfOk, subst}
use Rattle.iss_disk.specs.File.{File}
use Rattle.iss_links.specs.Ends.{End}
use Rattle.iss_cli.specs.Running.{IsOfNode}
use Rattle.iss_cli.specs.Views.{Under}
use Rattle.iss_cli.proofs.running.run_existing.Goals as goal

pub returns-clause-ok : goal.returns-clause-ok
returns-clause-ok g c =
    let k = c.args.config.now in
    let r = c.run_by_module.result in
    let ends_now = g.L.Links.ends c.run_by_module.new.links in
    let now = (g.D.Disk.state c.run_by_module.new.disk).history in
    subst (λ (ends : Option (List End)). IfOk r (λ a. Under k.module (IsOfNode k c.args.order.node ends ends_now ((g.D.Disk.state c.args.disk.now).files c.args.order.file.now) now a))) c.in_ok-attach.ensures.ends
    (subst (λ (file : List File). IfOk r (λ a. Under k.module (IsOfNode k c.args.order.node (g.L.Links.ends c.attach.new.links) ends_now file now a))) c.in_ok-attach.ensures.file c.run_by_module.ensures.ok)
