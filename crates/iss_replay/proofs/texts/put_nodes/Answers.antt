use Rattle.iss_replay.proofs.RunLemmas.{blocks-next}
use Rattle.iss_replay.proofs.texts.put_nodes.Goals as goal

pub loop-node-preserved : goal.loop-node-preserved
loop-node-preserved g c = λ p st. blocks-next g.M.Sequenced.spec g.M.Sequenced.refines c.args.world.now.simulation.setup p.state.held.net c.args.out.now.items c.loop-node.out.items c.put_block.new.out.items c.loop-node.node (c.loop-node.invariant p st) (c.in_ok-put_block.ensures p st)
