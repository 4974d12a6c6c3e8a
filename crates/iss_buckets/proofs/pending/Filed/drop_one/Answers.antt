use Rattle.std.proofs.Common.{sym, ap, List, ℕ, ◌∙◌}
use Rattle.std.specs.Map.{values_of}
use Rattle.iss_request.specs.declared.requests.Request.{Request}
use Rattle.iss_buckets.proofs.FiledLemmas.{absent_known, absent_none_known}
use Rattle.iss_buckets.proofs.pending.Filed.drop_one.Goals as goal

pub returns-in-Some : goal.returns-in-Some
returns-in-Some c =
    ap (λ (es : List (ℕ × Request)). values_of es) c.take_out-gone.ensures.left
    ∙ absent_known 0 c.args.self.now.shelf c.args.id c.in-Some.number c.args.self.now.filed (sym c.number_of.ensures.value ∙ c.in-Some.is)

pub returns-in_default : goal.returns-in_default
returns-in_default c = absent_none_known c.args.self.now.shelf c.args.id (sym c.number_of.ensures.value ∙ c.in_default.is)
