use Rattle.std.proofs.Common.{ap, inr, ◌∙◌}
use Rattle.std.proofs.lemmas.Result.{err_from_is_err_and}
use Rattle.iss_cluster.proofs.CauseLemmas.{loop-failed}
use Rattle.iss_cluster.proofs.NodeLemmas.{cut-short, has-fresh, node-ran, opened-by, same-node}
use Rattle.iss_request.specs.declared.ids.NodeId.{NodeId}
use Rattle.iss_cluster.proofs.nodes.node.Goals as goal

pub run_node_loop-requires : goal.run_node_loop-requires
run_node_loop-requires g c =
    opened-by g.M.Sequenced.spec g.M.Sequenced.refines g.D.Disk.state c.reopen.new.self (g.D.Disk.state c.args.running.now.disk).history c.in_ok-reopen.ensures.read

pub block-requires : goal.block-requires
block-requires g c =
    let m = g.M.Sequenced.spec in
    let refines = g.M.Sequenced.refines in
    let o = opened-by m refines g.D.Disk.state c.reopen.new.self (g.D.Disk.state c.args.running.now.disk).history c.in_ok-reopen.ensures.read in
    let l = c.in_ok-run_node_loop.ensures.goes o.0 o.1 o.2 in
    has-fresh m refines g.D.Disk.state c.run_node_loop.new.node o.0 l.later l.there

pub returns-in_err-run_node_loop-clause-stopped : goal.returns-in_err-run_node_loop-clause-stopped
returns-in_err-run_node_loop-clause-stopped g c q =
    let p = err_from_is_err_and c.from_residual-in_err-run_node_loop.result c.from_residual-in_err-run_node_loop.ensures.1 in
    let cut = c.run_node_loop.ensures.cut (loop-failed c.run_node_loop.result _ c.from_residual-in_err-run_node_loop.result p.0 c.in_err-run_node_loop.was p.1 p.2 q) in
    inr (cut-short g.M.Sequenced.spec g.M.Sequenced.refines g.D.Disk.state c.args.config.now c.args.running.now.me.0 c.reopen.new.self c.run_node_loop.new.node
    (c.reopen.ensures.same.setup ∙ c.requires) (ap (λ (i : NodeId). i.0) c.reopen.ensures.same.me) (g.D.Disk.state c.args.running.now.disk).history c.in_ok-reopen.ensures.read
    (g.L.Links.ends c.args.links.now) (g.L.Links.ends c.run_node_loop.new.links) cut c.run_node_loop.ensures.same)

pub returns-clause-run : goal.returns-clause-run
returns-clause-run g c =
    node-ran g.M.Sequenced.spec g.M.Sequenced.refines g.D.Disk.state c.args.config.now c.args.running.now.me.0 c.reopen.new.self c.run_node_loop.new.node
    (c.reopen.ensures.same.setup ∙ c.requires) (ap (λ (i : NodeId). i.0) c.reopen.ensures.same.me) (g.D.Disk.state c.args.running.now.disk).history c.in_ok-reopen.ensures.read
    (g.L.Links.ends c.args.links.now) (g.L.Links.ends c.run_node_loop.new.links)
    c.in_ok-block.field-0 c.block.ensures.durable c.in_ok-run_node_loop.ensures.goes c.in_ok-block.ensures.block

pub returns-clause-same : goal.returns-clause-same
returns-clause-same g c =
    let same = same-node g.M.Sequenced.spec g.M.Sequenced.refines g.D.Disk.state c.args.config.now c.args.running.now.me.0 c.reopen.new.self c.run_node_loop.new.node
    (c.reopen.ensures.same.setup ∙ c.requires) (ap (λ (i : NodeId). i.0) c.reopen.ensures.same.me) (g.D.Disk.state c.args.running.now.disk).history c.in_ok-reopen.ensures.read
    (g.L.Links.ends c.args.links.now) (g.L.Links.ends c.run_node_loop.new.links) c.in_ok-run_node_loop.ensures.goes in
    (same.0 ∙ c.reopen.ensures.same.setup, same.1 ∙ c.reopen.ensures.same.me)
