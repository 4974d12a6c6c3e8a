use Rattle.std.proofs.Common.{arith}
use Rattle.iss_cli.specs.Running.{devices}
use Rattle.iss_cli.proofs.RunningLemmas.{of-existing}
use Rattle.iss_cli.proofs.running.run_one.Goals as goal

pub returns-clause-ok : goal.returns-clause-ok
returns-clause-ok g c =
    let before = devices (g.L.Links.ends c.args.links.now) (g.D.Disk.state c.args.disk.now) in
    let now = devices (g.L.Links.ends c.run_existing.new.links) (g.D.Disk.state c.run_existing.new.disk) in
    of-existing c.args.order before now c.args.config.now c.run_existing.result (omega (arith, c.if-branch.false, c.in_ok-nodes_of.ensures.same)) c.run_existing.ensures.ok
