-- In each run the book holds every claim and vote that a correct node signed and sent.
use Rattle.std.proofs.Common.{List}
use Rattle.iss_request.specs.declared.setups.Setup.{Setup}
use Rattle.iss_schedule.specs.declared.schedules.Event.{Event}
use Rattle.iss_sb.specs.Evidence.{Module}
use Rattle.iss_sb.specs.Laws.{IsLawful, IsSafe}
use Rattle.iss_rules.specs.Concrete.{rules_of}
use Rattle.iss_rules.specs.Formats.{formats_of}
use Rattle.iss_rules.specs.Setups.{IsSetupOf}
use Rattle.iss_rules.proofs.Faithful.{IsFaithful}
use Rattle.iss_model.specs.Runs.{AreAtCores}
use Rattle.iss_theorems.specs.Ends.{AreWritten}
use Rattle.iss_theorems.specs.OneLog.{free_after}
use Rattle.iss_theorems.proofs.Refinement.LogsArePrefixes.{premises}
use Rattle.iss_theorems.proofs.Refinement.RunKeepsInvariant.{run-fits}

pub are-written : {Msg : Type 0} (s : Setup) (M : Module Msg) → IsSetupOf M s → IsFaithful s (formats_of s M) M → IsLawful M → IsSafe M →
    (events : List Event) → AreAtCores s events → AreWritten s M (free_after s M events)
are-written s M h faithful law safe events low =
    let fits = run-fits s (formats_of s M) (rules_of s) M (premises s M h faithful law safe) events low in
    record { claims = λ i ok. fits.booked i ok; votes = λ i ok. fits.voted i ok }
