use Rattle.std.proofs.Common.{refl}
use Rattle.iss_rules.proofs.Layouts.{sound-rules}
use Rattle.iss_theorems.proofs.CrashRecovery.Headline.{whole}
use Rattle.iss_theorems.proofs.recovery.restarts_change_nothing.Goals as goal

pub returns : goal.returns
returns g c = λ s h events low.
    let M = g.M.Sequenced.spec in
    let runs = c.cluster_runs.ensures in
    let claims = c.claims_are_of_one_instance.ensures in
    whole s M (runs.reached s h) (runs.ordered s h)
    (record {
      one = λ log more e l d k i j a b x y of_one of_other same.
          let r = claims.one _ _ i j a b x y of_one of_other refl same in
          (r.epoch, r.leader);
      vote = λ log e l i a x leads of_one d number chain is.
          claims.vote s _ i a x ((sound-rules M s h).good log e l leads) of_one refl d number chain is;
    })
    (runs.one_log s h) (runs.grows s h) (c.casts_are_accepted.ensures s h) (c.certificates_are_of_logs.ensures s h) (c.books_are_complete.ensures s h)
    (c.leaves_sign_once.ensures.runs s h) (c.runs_end_with_evidence.ensures s h) (c.requests_are_conserved.ensures s h) events low
