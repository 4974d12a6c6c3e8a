use Rattle.std.proofs.Common.{subst, List}
use Rattle.iss_base.specs.Lists.{Different}
use Rattle.iss_request.specs.Log.{ids}
use Rattle.iss_request.specs.declared.requests.Request.{Request}
use Rattle.iss_buckets.proofs.FiledLemmas.{filed_different}
use Rattle.iss_buckets.proofs.pending.Pending.waiting.Goals as goal

pub returns-in_err-identities-clause-different : goal.returns-in_err-identities-clause-different
returns-in_err-identities-clause-different c = subst (λ (qs : List Request). Different (ids qs)) c.self.view_is (filed_different 0 c.self.inside.filed.shelf c.self.inside.filed.filed)

pub returns-clause-different : goal.returns-clause-different
returns-clause-different c = subst (λ (qs : List Request). Different (ids qs)) c.self.view_is (filed_different 0 c.self.inside.filed.shelf c.self.inside.filed.filed)
