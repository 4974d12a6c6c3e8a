use Rattle.std.proofs.Common.{◌∙◌, ap, refl, sym, ℕ}
use Rattle.iss_keep.proofs.ReplayLemmas.{goes-dropped, goes-nowhere, goes-taken}
use Rattle.iss_keep.specs.Entries.{event_in}
use Rattle.iss_keep.proofs.reopening.replay_entry.Goals as goal

pub returns-in_default : goal.returns-in_default
returns-in_default g c = record {
  goes = λ found st.
      goes-nowhere c.args.node.now.state.setup g.M.Sequenced.spec g.M.Sequenced.refines c.args.node.now.state.me.0 found c.args.entry.now c.args.node.now c.args.node.now
      (sym c.in_default.is ∙ c.in_ok-event.ensures ∙ ap (λ (k : ℕ). event_in k c.args.entry.now) c.requires);
  same = (refl, refl);
}

pub returns-in-Taken : goal.returns-in-Taken
returns-in-Taken g c = record {
  goes = λ found st.
      goes-taken c.args.node.now.state.setup g.M.Sequenced.spec g.M.Sequenced.refines c.args.node.now.state.me.0 found c.args.entry.now c.args.node.now c.replay.new.self _ _ _
      (sym c.in-Some.is ∙ c.in_ok-event.ensures ∙ ap (λ (k : ℕ). event_in k c.args.entry.now) c.requires) (c.in-Taken.ensures.answer found.core st.0) c.in-Taken.ensures.saved st.1;
  same = c.in-Taken.ensures.same;
}

pub returns-in-Dropped : goal.returns-in-Dropped
returns-in-Dropped g c = record {
  goes = λ found st.
      goes-dropped c.args.node.now.state.setup g.M.Sequenced.spec g.M.Sequenced.refines c.args.node.now.state.me.0 found c.args.entry.now c.args.node.now c.replay.new.self _ _
      (sym c.in-Some.is ∙ c.in_ok-event.ensures ∙ ap (λ (k : ℕ). event_in k c.args.entry.now) c.requires) (c.in-Dropped.ensures.answer found.core st.0);
  same = c.in-Dropped.ensures.same;
}
