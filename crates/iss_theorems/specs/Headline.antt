-- The headline: what holds of the run of every schedule, under every ordering module, for any faulty nodes, network,
-- disk failures and restarts. Nothing is assumed of signatures or SHA-256: a run that breaks one of them stops, shows
-- the evidence, and all of this holds of its state before that delivery.
use Rattle.std.specs.Prelude.{◌≡◌, ℕ, true, List, ◌++◌}
use Rattle.iss_request.specs.declared.ids.ReqId.{ReqId}
use Rattle.iss_request.specs.declared.setups.Setup.{Setup}
use Rattle.iss_schedule.specs.declared.schedules.Event.{Event}
use Rattle.iss_sb.specs.Evidence.{Module, is_correct}
use Rattle.iss_composition.specs.Ordered.{Ordered}
use Rattle.iss_rules.specs.Concrete.{rules_of}
use Rattle.iss_model.specs.Courses.{begin_course, driver_of}
use Rattle.iss_model.specs.Runs.{AreAtCores, IsPrefix, pasts_of}
use Rattle.iss_theorems.specs.Casts.{AreCastsAccepted}
use Rattle.iss_theorems.specs.Certified.{AreCertified}
use Rattle.iss_theorems.specs.Conserved.{IsInOnePlace, WasAsked}
use Rattle.iss_theorems.specs.Ends.{AreWritten, HasEvidence}
use Rattle.iss_theorems.specs.Leaves.{AreOfJournals}
pub use Rattle.iss_theorems.specs.OneLog.{AreOfCluster, AreOneLog, ClaimsAreApart, shown}
pub use Rattle.iss_theorems.specs.Recovery.{Enters, course_after, held_after}

-- rule: Recovery: A run with crashes refines the run of its kept events without crashes
pub record IsWhole {Msg : Type 0} (s : Setup) (M : Module Msg) (events : List Event) : Type 0 where
  -- Crash recovery: the run equals a failure-free run of the events that were journaled.
  pub enters : Enters s M events
  -- One-time keys: cores, packets and book are those of the journals. No leaf of a correct node signs two statements.
  pub journals : AreOfJournals s M (course_after s M events).state
  -- Composition: moves of a cluster reach this state. So each instance is a broadcast, nodes that have begun an epoch
  -- have the same log before it, and the logs are prefixes of one log of valid batches. No instance's signature is of
  -- use in another.
  pub of_cluster : AreOfCluster s M (held_after s M events)
  pub ordered : Ordered s (rules_of s) M (pasts_of (held_after s M events).net)
  pub apart : ClaimsAreApart s M
  -- The same of logs as they are printed: prefix, integrity, validity, and the numbers of requests.
  pub one_log : AreOneLog s M (held_after s M events)
  -- More events only extend correct logs.
  pub grows : (more : List Event) → AreAtCores s more → (i : ℕ) → is_correct s i ≡ true →
      IsPrefix (shown s M (held_after s M events) i) (shown s M (held_after s M (events ++ more)) i)
  -- No loss: each request that a correct core accepted is in its log, waiting, or in flight, and in only one of these.
  pub conserved : (i : ℕ) → is_correct s i ≡ true → (x : ReqId) →
      WasAsked (driver_of s M) (begin_course s) events i x →
      IsInOnePlace (rules_of s) M i ((held_after s M events).net.cores i) x
  -- Acceptance: what a core proposes its own judge accepts.
  pub casts : AreCastsAccepted s M (held_after s M events)
  -- Checkpoints and state transfer: true certificates and adopted values come from correct logs.
  pub certified : AreCertified s M (held_after s M events)
  -- Evidence: the book lacks nothing that a correct node signed and sent. A run that stopped shows a forged signature
  -- or a collision, in what an event of the schedule gave to a core. Later events change nothing.
  pub written : AreWritten s M (held_after s M events)
  pub evidence : HasEvidence s M events
