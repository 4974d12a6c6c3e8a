use Rattle.std.proofs.Common.{length, refl, ap}
use Rattle.iss_node.proofs.WaitingRequests.RequestRefines.{landed-all}
use Rattle.iss_node.proofs.state.NodeState.complete_casts.Goals as goal

pub returns-clause-landed : goal.returns-clause-landed
returns-clause-landed g c = rw (← c.self.view_is) (landed-all _ _ _ _ _ c.requeue_nil_casts.result refl (ap (λ xs. length xs) c.entries.ensures) c.in_ok-casts.ensures.gone c.in_ok-casts.ensures.left c.requeue_nil_casts.ensures.back c.requeue_nil_casts.ensures.rest)
