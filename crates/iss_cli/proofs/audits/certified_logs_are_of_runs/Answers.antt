use Rattle.std.proofs.Common.{refl}
use Rattle.iss_cli.specs.Auditing.{AreOfRunsUnder}
use Rattle.iss_cli.proofs.AuditLemmas.{under_known}
use Rattle.iss_cli.proofs.audits.certified_logs_are_of_runs.Goals as goal

pub returns : goal.returns
returns c = λ bytes x text.
    let s = x.setup in
    under_known s (AreOfRunsUnder x) text.export.setup
    (λ h events low trusted enough are. c.certified_logs_are_of_the_run.ensures s h events low bytes x text refl trusted enough are)
    (λ h events low trusted enough are. c.certified_logs_are_of_the_run-2.ensures s h events low bytes x text refl trusted enough are)
    (λ h events low trusted enough are. c.certified_logs_are_of_the_run-3.ensures s h events low bytes x text refl trusted enough are)
    (λ h events low trusted enough are. c.certified_logs_are_of_the_run-4.ensures s h events low bytes x text refl trusted enough are)
    (λ h events low trusted enough are. c.certified_logs_are_of_the_run-5.ensures s h events low bytes x text refl trusted enough are)
