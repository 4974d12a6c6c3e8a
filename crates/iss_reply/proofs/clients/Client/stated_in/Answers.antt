use Rattle.std.proofs.Common.{◌∙◌, ap, []}
use Rattle.std.specs.Prelude.{unwrap_or}
use Rattle.iss_reply.specs.Clients.{stated_in}
use Rattle.iss_reply.proofs.clients.Client.stated_in.Goals as goal

pub returns-in-Some : goal.returns-in-Some
returns-in-Some c = c.as_slice.ensures ∙ ap (λ o. unwrap_or o []) c.in-Some.ensures.value ∙ ap (λ v. stated_in v.stated c.args.id) c.self.view_is

pub returns-in-None : goal.returns-in-None
returns-in-None c = ap (λ o. unwrap_or o []) c.in-None.ensures.value ∙ ap (λ v. stated_in v.stated c.args.id) c.self.view_is
