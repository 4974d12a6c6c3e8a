-- The headline of a run with disk failures and recovery, carried over from the failure-free run.
use Rattle.std.proofs.Common.{◌≡◌, ℕ, true, List, [], ◌++◌, Option, Some, None, refl, sym, ap, ◌∙◌, subst, append-nil}
use Rattle.iss_request.specs.declared.requests.Value.{Value}
use Rattle.iss_request.specs.declared.setups.Setup.{Setup}
use Rattle.iss_schedule.specs.declared.schedules.Event.{Event}
use Rattle.iss_sb.specs.Evidence.{Module, is_correct}
use Rattle.iss_rules.specs.Ends.{End}
use Rattle.iss_rules.specs.Concrete.{rules_of}
use Rattle.iss_rules.specs.Formats.{formats_of}
use Rattle.iss_model.specs.Run.{Held, begin_held, begin_run}
use Rattle.iss_model.specs.Runs.{AreAtCores, IsPrefix, pasts_of}
use Rattle.iss_composition.specs.Ordered.{Ordered}
use Rattle.iss_theorems.specs.Casts.{AreCastsAccepted}
use Rattle.iss_theorems.specs.Certified.{AreCertified}
use Rattle.iss_theorems.specs.Conserved.{IsConserved, IsInOnePlace, WasAsked}
use Rattle.iss_theorems.specs.Ends.{AreWritten, HasEvidence}
use Rattle.iss_theorems.specs.Leaves.{AreOfJournals}
use Rattle.iss_theorems.specs.OneLog.{AreOfCluster, AreOneLog, ClaimsAreApart, free_after, run_after, shown}
use Rattle.iss_theorems.proofs.Refinement.RunKeepsInvariant.{run-append}
use Rattle.iss_model.specs.Courses.{Course, begin_course, begin_machines, with_crashes}
use Rattle.iss_model.specs.Driver.{Progress, run}
use Rattle.iss_theorems.specs.Headline.{IsWhole}
use Rattle.iss_theorems.specs.Recovery.{course_after, held_after, why_ended}
use Rattle.iss_theorems.proofs.CrashRecovery.RunsInSequence.{Leads, course-append, course-over, going, going-is, leads-behind, over-is}
use Rattle.iss_theorems.proofs.CrashRecovery.JournaledEventsEnter.{Follows, begin-own, follows}

prefix-same : (a b : List Value) → b ≡ a → IsPrefix a b
prefix-same a b q = ([], q ∙ sym (append-nil a))

module _ {Msg : Type 0} (s : Setup) (M : Module Msg)
    (runs : (es : List Event) → AreAtCores s es → AreOfCluster s M (free_after s M es))
    (composed : (es : List Event) → AreAtCores s es → Ordered s (rules_of s) M (pasts_of (free_after s M es).net))
    (apart : ClaimsAreApart s M)
    (logs : (es : List Event) → AreAtCores s es → AreOneLog s M (free_after s M es))
    (longer_logs : (es more : List Event) → AreAtCores s es → AreAtCores s more → (i : ℕ) → is_correct s i ≡ true →
    IsPrefix (shown s M (free_after s M es) i) (shown s M (free_after s M (es ++ more)) i))
    (casts : (es : List Event) → AreAtCores s es → AreCastsAccepted s M (free_after s M es))
    (certified : (es : List Event) → AreAtCores s es → AreCertified s M (free_after s M es))
    (written : (es : List Event) → AreAtCores s es → AreWritten s M (free_after s M es))
    (journals : (es : List Event) → AreOfJournals s M (course_after s M es).state)
    (evidence : (es : List Event) → HasEvidence s M es)
    (conserved : (es : List Event) → AreAtCores s es → IsConserved s M es)
    (events : List Event) (low : AreAtCores s events) where
  abbrev all : Follows s (formats_of s M) (rules_of s) M (WasAsked (with_crashes s (formats_of s M) (rules_of s) M) (begin_course s) events) (begin_held s) (course_after s M events)
  all = follows s (formats_of s M) (rules_of s) M events (begin_machines s) 0 [] (begin-own s (formats_of s M) (rules_of s) M) low

  abbrev entering : Leads s (formats_of s M) (rules_of s) M (WasAsked (with_crashes s (formats_of s M) (rules_of s) M) (begin_course s) events) (begin_run s)
      (held_after s M events) (why_ended (course_after s M events).ended)
  entering = all.leads 0 []

  -- what holds of the failure-free run of the events that entered holds here
  here : (P : Held Msg → Type 0) → ((es : List Event) → AreAtCores s es → P (free_after s M es)) → P (held_after s M events)
  here P each = subst P entering.held (each entering.events entering.at_cores)

  abbrev so_far : Course Msg
  so_far = course_after s M events

  longer : (more : List Event) → course_after s M (events ++ more) ≡ run (with_crashes s (formats_of s M) (rules_of s) M) so_far more
  longer more = course-append s (formats_of s M) (rules_of s) M events more (begin_course s)

  -- a run that has stopped stays as it is
  stays : (at : ℕ × End) → so_far.ended ≡ Some at → (more : List Event) → course_after s M (events ++ more) ≡ so_far
  stays at q more =
      let F = formats_of s M in
      let R = rules_of s in
      let is = over-is s F R M so_far at q in
      longer more ∙ ap (λ (p : Course Msg). run (with_crashes s F R M) p more) is ∙ course-over s F R M more so_far.state so_far.event so_far.drops at ∙ sym is

  -- the events that enter of a longer run extend those of this one
  module _ (more : List Event) (low_more : AreAtCores s more) (i : ℕ) (ok : is_correct s i ≡ true) where
    grows-on : so_far.ended ≡ None → IsPrefix (shown s M (held_after s M events) i) (shown s M (held_after s M (events ++ more)) i)
    grows-on q =
        let F = formats_of s M in
        let R = rules_of s in
        let p : Course Msg = going s F R M so_far.state so_far.event so_far.drops in
        let next = follows s F R M more so_far.state so_far.event so_far.drops all.own low_more in
        let before = subst (λ (o : Option End). Leads s F R M (WasAsked (with_crashes s F R M) (begin_course s) events) (begin_run s) (held_after s M events) o)
        (ap (λ (o : Option (ℕ × End)). why_ended o) q) entering in
        let behind = leads-behind s F R M (WasAsked (with_crashes s F R M) (begin_course s) events) (WasAsked (with_crashes s F R M) p more) (begin_run s) (held_after s M events)
        (run (with_crashes s F R M) p more).state.held (why_ended (run (with_crashes s F R M) p more).ended) before next.leads in
        let there : (run_after s M (before.events ++ behind.events)).state ≡ held_after s M (events ++ more) =
        ap (λ (z : Progress (Held Msg)). z.state) (run-append s F R M before.events behind.events (begin_run s)) ∙ behind.held
        ∙ ap (λ (c : Course Msg). c.state.held) (sym (longer more ∙ ap (λ (z : Course Msg). run (with_crashes s F R M) z more) (going-is s F R M so_far q))) in
        subst (λ (h : Held Msg). IsPrefix (shown s M (held_after s M events) i) (shown s M h i)) there
        (subst (λ (h : Held Msg). IsPrefix (shown s M h i) (shown s M (free_after s M (before.events ++ behind.events)) i)) before.held
        (longer_logs before.events behind.events before.at_cores behind.at_cores i ok))

    grows-by : (o : Option (ℕ × End)) → so_far.ended ≡ o → IsPrefix (shown s M (held_after s M events) i) (shown s M (held_after s M (events ++ more)) i)
    grows-by None q = grows-on q
    grows-by (Some at) q =
        prefix-same (shown s M (held_after s M events) i) (shown s M (held_after s M (events ++ more)) i)
        (ap (λ (c : Course Msg). shown s M c.state.held i) (stays at q more))

  pub whole : IsWhole s M events
  whole = record {
    enters = record {
      entered = entering.events;
      at_cores = entering.at_cores;
      undisturbed = entering.undisturbed;
      held = entering.held;
      ended = entering.ended;
    };
    journals = journals events;
    of_cluster = here (AreOfCluster s M) runs;
    ordered = here (λ h. Ordered s (rules_of s) M (pasts_of h.net)) composed;
    apart = apart;
    one_log = here (AreOneLog s M) logs;
    grows = λ more low_more i ok. grows-by more low_more i ok so_far.ended refl;
    conserved = λ i ok x asked. subst (λ (h : Held Msg). IsInOnePlace (rules_of s) M i (h.net.cores i) x) entering.held
        (conserved entering.events entering.at_cores i ok x (entering.asked i x asked));
    casts = here (AreCastsAccepted s M) casts;
    certified = here (AreCertified s M) certified;
    written = here (AreWritten s M) written;
    evidence = evidence events;
  }
