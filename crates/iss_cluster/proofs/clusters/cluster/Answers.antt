use Rattle.std.proofs.lemmas.Result.{err_from_is_err_and}
use Rattle.iss_cluster.proofs.CauseLemmas.{cause-of-err, cause-of-ok}
use Rattle.iss_cluster.proofs.clusters.cluster.Goals as goal

pub returns-in_err-run_loop-clause-cause : goal.returns-in_err-run_loop-clause-cause
returns-in_err-run_loop-clause-cause g c =
    let p = err_from_is_err_and c.from_residual-in_err-run_loop.result c.from_residual-in_err-run_loop.ensures.1 in
    rw (p.1, p.2)
    (cause-of-err _ _ _ c.run_loop.result _ c.in_err-run_loop.was c.run_loop.ensures.cause)

pub returns-clause-cause : goal.returns-clause-cause
returns-clause-cause g c = cause-of-ok _ _ _ c.run_loop.result _ c.into_traced.result c.in_ok-run_loop.was c.run_loop.ensures.cause
