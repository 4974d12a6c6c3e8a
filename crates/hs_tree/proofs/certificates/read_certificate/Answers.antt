use Rattle.std.proofs.Common.{arith}
use Rattle.std.proofs.lemmas.Result.{IfOk-weaker}
use Rattle.iss_request.proofs.Readings.{exit}
use Rattle.hs_tree.proofs.Reading.{root-read, view-unread, votes-read, votes-unread}
use Rattle.hs_tree.proofs.certificates.read_certificate.Goals as goal

pub returns-in_err-view-clause-bad : goal.returns-in_err-view-clause-bad
returns-in_err-view-clause-bad c = exit c.from_residual.result _ _ c.from_residual.ensures.1 (λ at e. view-unread c.args.phases (c.in_err-view.ensures.bad at e))

pub returns-then-view-eq0-clause-ok : goal.returns-then-view-eq0-clause-ok
returns-then-view-eq0-clause-ok c = root-read c.args.phases _ (omega arith) c.in_ok-view.ensures.ok

pub returns-clause-ok : goal.returns-clause-ok
returns-clause-ok c = IfOk-weaker c.read_votes.result _ _ (λ x h. votes-read c.args.phases _ x c.in_ok-view.ensures.ok h) c.read_votes.ensures.ok

pub returns-clause-bad : goal.returns-clause-bad
returns-clause-bad c at e = votes-unread c.args.phases _ c.in_ok-view.ensures.ok (c.read_votes.ensures.bad at e)
