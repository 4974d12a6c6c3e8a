use Rattle.iss_keys.proofs.tree.+node_of.Given as goal

abbrev pub decreases-node_of : goal.decreases-node_of
decreases-node_of l = l.level
