use Rattle.iss_replay.proofs.RunLemmas.{summary-next}
use Rattle.iss_replay.proofs.summaries.put_node_lines.Goals as goal

pub loop-node-preserved : goal.loop-node-preserved
loop-node-preserved g c = λ p st. summary-next g.M.Sequenced.spec g.M.Sequenced.refines c.args.world.now.simulation.setup p.state.held.net c.args.out.now.items c.loop-node.out.items c.put_line.new.out.items c.loop-node.node (c.loop-node.invariant p st) (c.in_ok-put_line.ensures p st)
