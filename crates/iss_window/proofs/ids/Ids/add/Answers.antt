use Rattle.std.proofs.Common.{◌∙◌, ap}
use Rattle.iss_window.proofs.Members.{insert-and_id}
use Rattle.iss_window.specs.Ids.{and_id}
use Rattle.iss_window.proofs.ids.Ids.add.Goals as goal

pub returns-clause-ok : goal.returns-clause-ok
returns-clause-ok c = c.in_ok-insert.ensures.keys ∙ insert-and_id c.self.inside.all.keys c.args.id ∙ ap (λ xs. and_id xs c.args.id) c.self.view_is
