use Rattle.std.proofs.Common.{◌≡◌, ◌++◌}
use Rattle.iss_model.specs.Courses.{Course}
use Rattle.iss_theorems.specs.Headline.{shown}
use Rattle.iss_world.specs.Refines.{RefinesRun}
use Rattle.iss_replies.proofs.NodeLemmas.{lines_of_nodes}
use Rattle.iss_replies.proofs.texts.put_nodes.Given as goal

abbrev pub invariant-loop-node : goal.invariant-loop-node
invariant-loop-node g l = (p : Course g.row.M-Msg.Denot) → RefinesRun g.M.Sequenced.spec g.M.Sequenced.refines l.world p →
    l.out.items ≡ l.fn.out.items ++ lines_of_nodes l.world.simulation.setup (shown l.world.simulation.setup g.M.Sequenced.spec p.state.held) l.node
