-- The answers to a configuration, and what a cluster or a node answers under the module that a configuration names.
use Rattle.std.proofs.Common.{◌≡◌, ◌∙◌, inl, inr, ℕ, ◌<◌, List, [], ◌∷◌, ◌++◌, Option, Some, Result, Ok, Err, IsErrOf, codes, refl, sym, ap, subst}
use Rattle.std.proofs.lemmas.Result.{IfOk-at_ok}
use Rattle.std.specs.Prelude.{IfOk}
use Rattle.iss_cluster.specs.Clusters.{IsTracedRun, behavior_of, loop_plan_of}
use Rattle.iss_cluster.specs.Nodes.{IsNodeRun, IsRefused}
use Rattle.iss_cluster.specs.declared.errors.NodeFailure.{NodeFailure}
use Rattle.iss_cluster.specs.declared.errors.NodeFailure.TheVariants.{Damaged, DiskFault as Node_disk_fault}
use Rattle.iss_config.specs.Configs.{IsInRange, setup_of}
use Rattle.iss_config.specs.declared.configs.Config.{Config}
use Rattle.iss_disk.specs.File.{File}
use Rattle.iss_disk.specs.Calls.{HasCause as DiskCause, Place, lent}
use Rattle.iss_links.specs.Ends.{End}
use Rattle.iss_loops.specs.Loop.{loop_of}
use Rattle.iss_loops.specs.Plans.{HasRun}
use Rattle.iss_loops.specs.declared.errors.NodeError.{NodeError}
use Rattle.iss_loops.specs.declared.errors.NodeError.TheVariants.{LinksFault, DiskFault, NoMemory}
use Rattle.iss_model.specs.Courses.{Course}
use Rattle.iss_replay.specs.Refines.{ReportRefinesRun, end_kept}
use Rattle.iss_replay.specs.Report.{text_of as text_of_run}
use Rattle.iss_request.specs.declared.setups.Setup.{Setup}
use Rattle.iss_rules.specs.Ends.{End as RunEnd}
use Rattle.iss_rules.specs.declared.events.Why.{Why}
use Rattle.iss_sb.specs.Calls.{Relation}
use Rattle.iss_sb.specs.Evidence.{Module}
use Rattle.iss_schedule.specs.Schedules.{text_of}
use Rattle.iss_schedule.specs.declared.schedules.Schedule.{Schedule}
use Rattle.iss_theorems.specs.Headline.{IsWhole, course_after}
use Rattle.iss_world.specs.State.{WorldState}
use Rattle.iss_world.specs.declared.ends.Evidence.{Evidence}
use Rattle.iss_words.specs.declared.orders.NodeOrder.{NodeOrder}
use Rattle.iss_cli.proofs.TraceLemmas.{trace-is-schedule}
use Rattle.iss_cli.specs.Running.{IsOfCluster, Devices, IsOfNode, IsOfNodeOrder, IsPrintedRun}
use Rattle.iss_cli.specs.Views.{Under, outcome_of}
use Rattle.iss_cli.specs.declared.answers.Answer.{Answer}

-- ---- what failed

pub disk-failed : {T E : Type 0} (F : Type 0) (old new : ℕ) (r : Result T E) (e : E) → (F → IsErrOf r e) → DiskCause old new (IsErrOf r e) → DiskCause old new F
disk-failed F old new r e back h = record { never_falls = h.never_falls; rose = λ f. h.rose (back f) }

-- ---- what is printed of a node's run

pub printed-disk : (ran : Result (List ℕ) NodeFailure) (r : Result Answer NodeError) → IsPrintedRun ran r → IsErrOf r DiskFault → IsErrOf ran Node_disk_fault
printed-disk ran (Ok a) is q = absurd (cc)
printed-disk ran (Err LinksFault) is q = absurd (cc)
printed-disk ran (Err DiskFault) is q = is
printed-disk ran (Err NoMemory) is q = absurd (cc)

-- What is printed of a node's run is the node's answer.
pub of-node : {Msg : Type 0} (m : Module Msg) (c : Config) (me : ℕ) (ends ends_now : Option (List End)) (before now : List File) (ran : Result (List ℕ) NodeFailure) (r : Result Answer NodeError)
    → IsPrintedRun ran r → IfOk ran (IsNodeRun m c me ends ends_now before now) → ((at : ℕ) → IsErrOf ran (Damaged at) → IsRefused m (setup_of c) me before now at)
    → IfOk r (λ a. IsOfNode c me ends ends_now before now a Msg m)
of-node m c me ends ends_now before now ran (Ok a) (inl (block, (is, same))) run damaged = inl (block, (IfOk-at_ok (IsNodeRun m c me ends ends_now before now) is run, same))
of-node m c me ends ends_now before now ran (Ok a) (inr (at, (is, same))) run damaged = inr (at, (damaged at is, same))
of-node m c me ends ends_now before now ran (Err e) is run damaged = tt

-- The same where the node, and what the disk held and holds, are named otherwise.
pub of-node-at : {Msg : Type 0} (m : Module Msg) (c : Config) (me other : ℕ) (ends ends_now : Option (List End)) (before first now last : List File) (ran : Result (List ℕ) NodeFailure) (r : Result Answer NodeError)
    → other ≡ me → first ≡ before → last ≡ now → IsPrintedRun ran r → IfOk ran (IsNodeRun m c other ends ends_now first last) → ((at : ℕ) → IsErrOf ran (Damaged at) → IsRefused m (setup_of c) other first last at)
    → IfOk r (λ a. IsOfNode c me ends ends_now before now a Msg m)
of-node-at m c me other ends ends_now before first now last ran r is from to printed run damaged =
    of-node m c me ends ends_now before now ran r printed
    (subst (λ (x : ℕ). IfOk ran (IsNodeRun m c x ends ends_now before now)) is
    (subst (λ (x : List File). IfOk ran (IsNodeRun m c other ends ends_now x now)) from (subst (λ (x : List File). IfOk ran (IsNodeRun m c other ends ends_now first x)) to run)))
    (λ at bad. subst (λ (x : ℕ). IsRefused m (setup_of c) x before now at) is
    (subst (λ (x : List File). IsRefused m (setup_of c) other x now at) from (subst (λ (x : List File). IsRefused m (setup_of c) other first x at) to (damaged at bad))))

abbrev first_of : List ℕ → ℕ
first_of [] = 0
first_of (x ∷ xs) = x

-- the place of a disk that is lent tells which loan it is
pub same-loan : (a b : ℕ) (p q : Place) → lent a p ≡ lent b q → a ≡ b
same-loan a b p q e = ap (λ (place : Place). first_of place.borrows) e

-- the answer of a node of the cluster
pub of-existing : {E : Type 0} (order : NodeOrder) (before now : Devices) (c : Config) (r : Result Answer E) → order.node < (setup_of c).n
    → IfOk r (λ a. Under c.module (IsOfNode c order.node before.ends now.ends (before.files order.file.now) now.current a)) → IfOk r (IsOfNodeOrder order before now c)
of-existing order before now c (Ok a) low h = inr (low, h)
of-existing order before now c (Err e) low h = tt

-- ---- a trace and its report

pub joined : (xs trace ys report zs : List ℕ) → zs ≡ xs ++ codes "report" ++ 10 ∷ ys → xs ≡ trace → ys ≡ report → zs ≡ trace ++ codes "report" ++ 10 ∷ report
joined xs trace ys report zs is first second =
    is ∙ ap (λ (l : List ℕ). l ++ codes "report" ++ 10 ∷ ys) first ∙ ap (λ (l : List ℕ). trace ++ codes "report" ++ 10 ∷ l) second

-- A printed trace with its report is the cluster's answer.
module _ {M Msg : Type 0} (m : Module Msg) (refines : Relation M Msg) (c : Config) (trace : Schedule) (world : WorldState M Msg) (drops : List (ℕ × Why)) (ended : Option (ℕ × Evidence))
    (range : IsInRange c) (ran : IsTracedRun m refines (setup_of c) trace world drops ended) (ends ends_now : Option (List End)) where
  pub of-traced : (a : Answer)
      → ((p : Course Msg) → ReportRefinesRun m refines world drops ended p → a.printed ≡ text_of trace ++ codes "report" ++ 10 ∷ text_of_run world.simulation.setup m p)
      → a.outcome ≡ outcome_of (end_kept ended)
      → ((there : List End) → ends ≡ Some there → HasRun (loop_of (behavior_of (setup_of c) m) (loop_plan_of c) there) trace.events ends_now)
      → IsOfCluster c ends ends_now a Msg m
  of-traced a printed outcome loops =
      let s = setup_of c in
      let p = course_after s m trace.events in
      let text : text_of_run world.simulation.setup m p ≡ text_of_run trace.setup m (course_after trace.setup m trace.events) =
      ap (λ (x : Setup). text_of_run x m p) (ran.cluster ∙ sym ran.setup) ∙ ap (λ (x : Setup). text_of_run trace.setup m (course_after x m trace.events)) (sym ran.setup) in
      let end : outcome_of (end_kept ended) ≡ outcome_of (course_after trace.setup m trace.events).ended =
      ap (λ (o : Option (ℕ × RunEnd)). outcome_of o) (ran.report.end_is ∙ ap (λ (x : Setup). (course_after x m trace.events).ended) (sym ran.setup)) in
      record {
        trace = trace;
        setup = ran.setup;
        schedule = trace-is-schedule c (behavior_of s m) trace range refl ran.setup ran.range ran.trace_is;
        trace_is = ran.trace_is;
        loops = loops;
        report = record { printed = text_of_run trace.setup m (course_after trace.setup m trace.events); outcome = outcome_of (course_after trace.setup m trace.events).ended };
        replayed = record {
          printed = refl;
          outcome = refl;
          whole = subst (λ (x : Setup). IsWhole x m trace.events) (sym ran.setup) ran.whole;
        };
        printed = printed p ran.report ∙ ap (λ (xs : List ℕ). text_of trace ++ codes "report" ++ 10 ∷ xs) text;
        outcome = outcome ∙ end;
      }
