use Rattle.std.proofs.Common.{◌∙◌, ap}
use Rattle.iss_request.specs.Log.{has_id}
use Rattle.iss_request.proofs.Identities.{any-has_id}
use Rattle.iss_window.proofs.ids.Ids.has.Goals as goal

pub returns : goal.returns
returns c = c.contains.ensures ∙ any-has_id c.args.id c.self.inside.all.keys ∙ ap (λ xs. has_id c.args.id xs) c.self.view_is
