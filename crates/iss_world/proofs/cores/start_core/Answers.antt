use Rattle.std.proofs.Common.{[], ap, subst, sym, ◌<◌, ◌∙◌}
use Rattle.iss_disk.specs.StoredViews.{history_of}
use Rattle.iss_disk.specs.declared.memory.MemoryDisk.{MemoryDisk}
use Rattle.iss_model.specs.Node.{initial_core}
use Rattle.iss_request.specs.declared.ids.NodeId.{NodeId}
use Rattle.iss_request.specs.declared.setups.Setup.{Setup}
use Rattle.iss_rules.specs.Concrete.{keys_of}
use Rattle.iss_rules.specs.Setups.{IsSetupOf}
use Rattle.iss_world.proofs.OverLemmas.{new-leads}
use Rattle.iss_world.proofs.cores.start_core.Goals as goal

pub over-requires : goal.over-requires
over-requires g c = record {
  good = subst (λ (s : Setup). IsSetupOf g.M.Sequenced.spec s) (sym c.setup.ensures) c.requires.good;
  directory = c.shared.ensures ∙ ap (λ (s : Setup). keys_of s) (sym c.setup.ensures);
  me = subst (λ (s : Setup). c.node_of-me.result.0 < s.n) (sym c.setup.ensures) c.node_of-me.ensures.below;
}

pub make_anew-requires-clause-whole : goal.make_anew-requires-clause-whole
make_anew-requires-clause-whole g c = (
  [],
  initial_core,
  new-leads g.M.Sequenced.spec g.M.Sequenced.refines c.in_ok-node.node c.in_ok-node.ensures.journal.1 c.in_ok-node.ensures.shown.1
      (ap (λ (x : MemoryDisk). history_of x.file) c.in_ok-node.ensures.journal.0 ∙ c.in_ok-disk.ensures.history),
)

pub returns : goal.returns
returns g c = record {
  refined = c.in_ok-make_anew.ensures.anew [] initial_core
      (new-leads g.M.Sequenced.spec g.M.Sequenced.refines c.in_ok-node.node c.in_ok-node.ensures.journal.1 c.in_ok-node.ensures.shown.1
      (ap (λ (x : MemoryDisk). history_of x.file) c.in_ok-node.ensures.journal.0 ∙ c.in_ok-disk.ensures.history));
  setup = c.in_ok-make_anew.ensures.same.setup ∙ c.in_ok-node.ensures.same.0 ∙ c.setup.ensures;
  place = ap (λ (i : NodeId). i.0) (c.in_ok-make_anew.ensures.same.me ∙ c.in_ok-node.ensures.same.1) ∙ c.node_of-me.ensures.is;
}
