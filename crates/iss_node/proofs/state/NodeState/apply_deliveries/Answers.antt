use Rattle.std.proofs.Common.{◌∙◌, ap, refl, sym}
use Rattle.iss_node.proofs.WaitingRequests.RequestRefines.{chained-all, grown-all}
use Rattle.iss_node.proofs.state.NodeState.apply_deliveries.Goals as goal

pub returns-clause-grown : goal.returns-clause-grown
returns-clause-grown g c = rw (← c.self.view_is) (grown-all _ _ _ _ _ _ _ c.complete_casts.result refl c.in_ok-held.ensures.grown c.entries.ensures c.behind-joined.ensures c.in_ok-retire_ordered.ensures.waiting c.in_ok-retire_ordered.ensures.logged c.complete_casts.ensures.landed c.complete_casts.ensures.rest)

pub returns-clause-hashed : goal.returns-clause-hashed
returns-clause-hashed g c = rw (← c.self.view_is) (chained-all _ c.complete_casts.new.self _ _ _ _ _ _ _ c.complete_casts.result (c.entries.ensures ∙ sym (ap (λ z. z.log.entries) c.complete_casts.ensures.rest)) c.behind-joined.ensures
    c.in_ok-held.ensures.grown.count refl (ap (λ z. z.chains) c.complete_casts.ensures.rest) c.in_ok-join_all.ensures.joined c.join_all.ensures.version)
