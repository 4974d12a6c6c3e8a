use Rattle.std.proofs.Common.{◌∙◌, false}
use Rattle.iss_window.specs.Window.{id_of}
use Rattle.iss_window.proofs.TableLemmas.{found-has_id, has-changed}
use Rattle.iss_window.proofs.spans.take.Goals as goal

pub returns-clause-there : goal.returns-clause-there
returns-clause-there c = c.remove.ensures.test ∙ found-has_id (id_of c.args.client c.args.number) c.args.strays.now.keys

pub returns-clause-left : goal.returns-clause-left
returns-clause-left c = λ id.
    has-changed c.args.strays.now.keys c.remove.new.self.keys (id_of c.args.client c.args.number) id false (c.remove.ensures.updates.0 id)
