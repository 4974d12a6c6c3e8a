use Rattle.std.proofs.Common.{◌∙◌, ◌++◌, ◌∷◌, [], refl, ap}
use Rattle.iss_buckets.specs.Waiting.{cut, may_cast, uncut}
use Rattle.iss_window.specs.Ids.{and_ids}
use Rattle.iss_node.proofs.Instances.InputKeepsInvariant.{leads-there, place}
use Rattle.iss_node.proofs.state.NodeState.cut.Goals as goal

pub returns-clause-cut : goal.returns-clause-cut
returns-clause-cut g c = rw (← c.self.view_is) (record {
  own = c.in-Some.segment;
  at = place g.M.Sequenced.spec g.M.Sequenced.refines _ c.self.invariant c.self.inside.me.0 c.self.invariant.me c.in-Some.segment c.index.result.now c.index.ensures c.in-Some.is;
  taken = c.in_ok-batch.ensures.taken ∙ ap (λ ms. cut c.self.inside.setup.batch (may_cast c.self.inside.layout c.self.inside.me.0 ms) c.self.inside.waiting) (c.as_slice-marked.ensures ∙ c.marked.ensures);
  left = c.in_ok-batch.ensures.left ∙ ap (λ ms. uncut c.self.inside.setup.batch (may_cast c.self.inside.layout c.self.inside.me.0 ms) c.self.inside.waiting) (c.as_slice-marked.ensures ∙ c.marked.ensures);
  flies = c.in_ok-push.ensures ∙ ap (λ b. record { casts = c.self.inside.flight.casts ++ (c.args.slot, b) ∷ []; ids = and_ids c.self.inside.flight.ids b }) c.in_ok-copy.ensures;
  rest = refl;
})

pub unreachable-requires : goal.unreachable-requires
unreachable-requires g c = leads-there g.M.Sequenced.spec _ c.self.invariant c.self.inside.me.0 c.index.result.now c.self.invariant.me c.index.ensures c.in_default.is (rw (← c.self.view_is) at c.requires)
