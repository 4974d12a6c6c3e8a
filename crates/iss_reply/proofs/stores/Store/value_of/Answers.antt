use Rattle.std.proofs.Common.{◌∙◌, ap}
use Rattle.iss_reply.specs.Internal.Held.{held_in}
use Rattle.iss_reply.proofs.StoreLemmas.{held-found}
use Rattle.iss_reply.proofs.stores.Store.value_of.Goals as goal

pub returns-in-Some : goal.returns-in-Some
returns-in-Some c = c.in-Some.ensures.value ∙ held-found c.self.inside.values.entries c.args.key.now ∙ ap (λ s. held_in s c.args.key.now) c.self.view_is

pub returns-in-None : goal.returns-in-None
returns-in-None c = c.in-None.ensures.value ∙ held-found c.self.inside.values.entries c.args.key.now ∙ ap (λ s. held_in s c.args.key.now) c.self.view_is
