use Rattle.iss_node.proofs.state.NodeState.claims_of_bytes.Goals as goal
