use Rattle.std.proofs.Common.{◌∙◌, ap, Option, ℕ, is_some}
use Rattle.iss_buckets.specs.Waiting.{waits}
use Rattle.iss_buckets.proofs.FiledLemmas.{waits_known}
use Rattle.iss_buckets.proofs.pending.Pending.has.Goals as goal

pub returns : goal.returns
returns c = c.is_some.ensures ∙ ap (λ (o : Option ℕ). is_some o) c.number_of.ensures.value ∙ waits_known c.self.inside.filed.shelf c.args.id ∙ ap (λ qs. waits c.args.id qs) c.self.view_is
