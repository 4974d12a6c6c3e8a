use Rattle.iss_theorems.specs.Headline.{shown}
use Rattle.iss_replies.proofs.NodeLemmas.{nodes-next}
use Rattle.iss_replies.proofs.texts.put_nodes.Goals as goal

pub loop-node-preserved : goal.loop-node-preserved
loop-node-preserved g c = λ p st.
    let s = c.args.world.now.simulation.setup in
    nodes-next s (shown s g.M.Sequenced.spec p.state.held) c.args.out.now.items c.loop-node.out.items c.put_node.new.out.items c.loop-node.node (c.loop-node.invariant p st) (c.in_ok-put_node.ensures p st)
