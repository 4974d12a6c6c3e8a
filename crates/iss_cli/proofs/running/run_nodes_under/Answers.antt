use Rattle.iss_cli.proofs.RunningLemmas.{of-traced}
use Rattle.iss_cli.proofs.running.run_nodes_under.Goals as goal

pub returns-clause-ok : goal.returns-clause-ok
returns-clause-ok g c =
    let t = c.in_ok-traced.traced in
    rw (← c.config.ensures.same)
    (of-traced g.M.Sequenced.spec g.M.Sequenced.refines c.config.result.now t.trace t.report.world t.report.drops t.report.ended c.config.ensures.range c.in_ok-traced.ensures.run
    (g.L.Links.ends c.args.links.now) (g.L.Links.ends c.cluster.new.links) c.in_ok-print_traced.field-0 c.in_ok-print_traced.ensures.printed c.in_ok-print_traced.ensures.outcome c.in_ok-traced.ensures.loops)
