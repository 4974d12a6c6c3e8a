-- A cluster in its loop: what it shows by its trace, and one more event.
use Rattle.std.proofs.Common.{inl, inr, ◌≡◌, ◌⊎◌, ◌∙◌, ℕ, zero, suc, ◌+◌, ◌<◌, ◌≤◌, Bool, true, false, cond, List, [], ◌∷◌, ◌++◌, length, take, map, Option, Some, None, Vec, Global, Result, Ok, Err, OnOk, OnErr, refl, sym, ap, subst, arith}
use Rattle.std.specs.Prelude.{◌||◌, is_some}
use Rattle.std.specs.List.{filter}
use Rattle.iss_base.proofs.Lists.{in_append, some-injective}
use Rattle.iss_base.specs.Lists.{In, below}
use Rattle.iss_cluster.proofs.CourseLemmas.{sent-first, works-on}
use Rattle.iss_cluster.proofs.TraceLemmas.{trace-begins, trace-in-range, trace-more}
use Rattle.iss_cluster.specs.Clusters.{IsTracedRun, behavior_of}
use Rattle.iss_cluster.specs.Internal.Running.{HasRun, IsRunning, RunningState}
use Rattle.iss_loops.specs.Behavior.{AreNodes, HaveEnds, is_over}
use Rattle.iss_loops.specs.Internal.PacketIndex.{IsIndexOf}
use Rattle.iss_loops.specs.Loop.{number_from}
use Rattle.iss_loops.specs.Traces.{IsNext}
use Rattle.iss_model.specs.Courses.{Course, Machines, begin_course, driver_of}
use Rattle.iss_model.specs.Driver.{run_event}
use Rattle.iss_model.proofs.Ranges.{at-cores}
use Rattle.iss_model.specs.Run.{node_of}
use Rattle.iss_model.specs.Runs.{AreAtCores}
use Rattle.iss_model.specs.Views.{is_castable_now, unfilled}
use Rattle.iss_network.specs.declared.packets.Sent.{Sent}
use Rattle.iss_replay.specs.Refines.{ReportRefinesRun, end_kept, numbered}
use Rattle.iss_request.specs.Setup.{IsFewFaulty, IsGoodSetup}
use Rattle.iss_request.specs.declared.ids.NodeId.{NodeId}
use Rattle.iss_request.specs.declared.setups.Kind.{Kind}
use Rattle.iss_request.specs.declared.setups.Kind.TheVariants.{Byzantine, Stopping}
use Rattle.iss_request.specs.declared.setups.Setup.{Setup}
use Rattle.iss_rules.specs.Concrete.{rules_of}
use Rattle.iss_rules.specs.Ends.{End}
use Rattle.iss_rules.specs.Formats.{formats_of}
use Rattle.iss_rules.specs.Setups.{IsSetupOf}
use Rattle.iss_rules.specs.declared.events.Why.{Why}
use Rattle.iss_sb.specs.Calls.{Relation}
use Rattle.iss_sb.specs.Evidence.{Module}
use Rattle.iss_schedule.specs.Cores.{cores_of}
use Rattle.iss_schedule.specs.declared.schedules.Event.{Event}
use Rattle.iss_schedule.specs.declared.schedules.Schedule.{Schedule}
use Rattle.iss_theorems.proofs.CrashRecovery.LostEventsAreNumbered.{after-one, all-counted}
use Rattle.iss_theorems.specs.Headline.{IsWhole, course_after, held_after}
use Rattle.iss_world.specs.Refines.{RefinesRun, RefinesRunUntil, WorldRefinesMachines}
use Rattle.iss_world.specs.State.{AreBetweenCores, WorldState}
use Rattle.iss_world.specs.declared.ends.Evidence.{Evidence}

-- ---- nodes and ends

wrapped : (nodes : List NodeId) → nodes ≡ map (λ l. record { 0 = l }) (map (λ (l : NodeId). l.0) nodes)
wrapped [] = refl
wrapped (n ∷ nodes) = ap (λ ns. n ∷ ns) (wrapped nodes)

pub nodes-are : (nodes : List NodeId) (numbers : List ℕ) → map (λ (l : NodeId). l.0) nodes ≡ numbers → nodes ≡ map (λ l. record { 0 = l }) numbers
nodes-are nodes numbers q = wrapped nodes ∙ ap (λ ls. map (λ l. record { 0 = l }) ls) q

in-numbers : (node : NodeId) (nodes : List NodeId) → In node nodes → In node.0 (map (λ (l : NodeId). l.0) nodes)
in-numbers node [] i = absurd i
in-numbers node (n ∷ nodes) (inl q) = inl (ap (λ (l : NodeId). l.0) q)
in-numbers node (n ∷ nodes) (inr i) = inr (in-numbers node nodes i)

in-filter : (p : ℕ → Bool) (xs : List ℕ) (x : ℕ) → In x (filter p xs) → In x xs
in-filter p [] x i = absurd i
in-filter p (y ∷ ys) x i = go (p y) i (in-filter p ys x)
  where
    go : (b : Bool) → In x (cond b (y ∷ filter p ys) (filter p ys)) → (In x (filter p ys) → In x ys) → In x (y ∷ ys)
    go true (inl e) rest = inl e
    go true (inr k) rest = inr (rest k)
    go false k rest = inr (rest k)

in-below : (n j : ℕ) → In j (below n) → j < n
in-below zero j i = absurd i
in-below (suc n) j i = go (in_append j (below n) (n ∷ []) i) (λ a. in-below n j a)
  where
    go : In j (below n) ⊎ In j (n ∷ []) → (In j (below n) → j < n) → j < suc n
    go (inl a) low = let less = low a in omega (arith, less)
    go (inr (inl e)) low = omega (arith, e)
    go (inr (inr k)) low = absurd k

pub are-nodes : (n : ℕ) (p : ℕ → Bool) (nodes : List NodeId) → map (λ (l : NodeId). l.0) nodes ≡ filter p (below n) → AreNodes n nodes
are-nodes n p nodes q = λ node i. in-below n node.0 (in-filter p (below n) node.0 (subst (λ (ls : List ℕ). In node.0 ls) q (in-numbers node nodes i)))

have-ends : (cores : ℕ) (packets : List Sent) → cores ≤ 256 → AreBetweenCores cores packets → HaveEnds packets
have-ends cores [] few b k p q = absurd (cc)
have-ends cores (x ∷ packets) few b zero p q =
    let same : x ≡ p = some-injective x p q in
    let from : x.from < cores = b.0 in
    let to : x.to < cores = b.1 in
    subst (λ (y : Sent). (y.from < 256) × (y.to < 256)) same (omega (arith, few, from), omega (arith, few, to))
have-ends cores (x ∷ packets) few b (suc k) p q = have-ends cores packets few b.2 k p q

few-faulty : (k : Kind) (f : ℕ) (faulty : List NodeId) → f ≤ 3 → IsFewFaulty k f faulty → length faulty ≤ 3
few-faulty Byzantine f faulty few h = omega (arith, few, h)
few-faulty Stopping f faulty few h = let none = ap length h in omega (arith, none)

few-cores : (s : Setup) → IsGoodSetup s → cores_of s ≤ 256
few-cores s good =
    let few : length s.faulty ≤ 3 = few-faulty s.kind s.f s.faulty good.faults good.few_faulty in
    let low : s.n ≤ s.epoch = good.epoch_low in
    let high : s.epoch ≤ 64 = good.epoch_high in
    omega (arith, few, low, high)

pub packets-have-ends : (s t : Setup) (packets : List Sent) → t ≡ s → IsGoodSetup s → AreBetweenCores (cores_of t) packets → HaveEnds packets
packets-have-ends s t packets same good b =
    have-ends (cores_of s) packets (few-cores s good) (subst (λ (u : Setup). AreBetweenCores (cores_of u) packets) same b)

-- ---- a run that goes on

goes-on : (o : Option (ℕ × End)) → is_some o ≡ false → o ≡ None
goes-on None q = refl
goes-on (Some x) q = absurd (cc)

kept-some : (o : Option (ℕ × Evidence)) → is_some o ≡ is_some (end_kept o)
kept-some None = refl
kept-some (Some x) = refl

kept-none : (o : Option (ℕ × Evidence)) → end_kept o ≡ None → o ≡ None
kept-none None q = refl
kept-none (Some x) q = absurd (cc)

module _ {M Msg : Type 0} (m : Module Msg) (refines : Relation M Msg) (world : WorldState M Msg) (drops : List (ℕ × Why)) (ended : Option (ℕ × Evidence)) (t : Schedule)
    (index : List (ℕ × Vec ℕ Global)) where
  module _ (h : HasRun m refines world drops ended t index) where
    pub evidence-is : is_some ended ≡ is_some (course_after t.setup m t.events).ended
    evidence-is = kept-some ended ∙ ap (λ (o : Option (ℕ × End)). is_some o) h.report.end_is

    -- while no event has shown evidence, the world refines these machines
    pub world-is : is_some (course_after t.setup m t.events).ended ≡ false → WorldRefinesMachines m refines world (course_after t.setup m t.events).state
    world-is going =
        subst (λ (o : Option (ℕ × End)). RefinesRunUntil m refines world (course_after t.setup m t.events).state o) (goes-on (course_after t.setup m t.events).ended going) h.report.refined

    pub counted : is_some (course_after t.setup m t.events).ended ≡ false → (course_after t.setup m t.events).event ≡ length t.events
    counted going =
        let none : 0 + length t.events ≡ length t.events = omega arith in
        all-counted t.setup (formats_of t.setup m) (rules_of t.setup) m t.events (begin_course t.setup) (goes-on (course_after t.setup m t.events).ended going) ∙ none

    pub ended-none : is_some (course_after t.setup m t.events).ended ≡ false → ended ≡ None
    ended-none going = kept-none ended (h.report.end_is ∙ goes-on (course_after t.setup m t.events).ended going)

  -- ---- one more event

  -- what came of it
  module _ (e : Event) (world2 : WorldState M Msg) (drops2 : List (ℕ × Why)) (end : Option Evidence) (index2 : List (ℕ × Vec ℕ Global)) (packets packets2 : List Sent) (number sent : ℕ)
      (same : world.simulation.setup ≡ t.setup)
      (went : (p : Course Msg) → p.event ≡ number → ReportRefinesRun m refines world drops None p →
      ReportRefinesRun m refines world2 drops2 (numbered number end) (run_event (driver_of world.simulation.setup m) p e))
      (number_is : number ≡ length t.events)
      (before : (p : Course Msg) → RefinesRun m refines world p → packets ≡ p.state.held.net.network.packets)
      (sent_is : sent ≡ length packets)
      (behind : (p : Course Msg) → RefinesRun m refines world2 p → packets2 ≡ p.state.held.net.network.packets)
      (indexed : IsIndexOf index (take sent packets2) → IsIndexOf index2 packets2)
      (next : IsNext (behavior_of t.setup m) t.events e)
      (h : HasRun m refines world drops ended t index) where
    abbrev later : Course Msg
    later = course_after t.setup m (t.events ++ e ∷ [])

    going : (course_after t.setup m t.events).ended ≡ None
    going = goes-on (course_after t.setup m t.events).ended next.no_evidence

    report-on : ReportRefinesRun m refines world2 drops2 (numbered number end) later
    report-on =
        let now = subst (λ (o : Option (ℕ × Evidence)). ReportRefinesRun m refines world drops o (course_after t.setup m t.events)) (ended-none h next.no_evidence) h.report in
        let there = went (course_after t.setup m t.events) (counted h next.no_evidence ∙ sym number_is) now in
        subst (λ (p : Course Msg). ReportRefinesRun m refines world2 drops2 (numbered number end) p) (sym (after-one t.setup m t.events e going))
        (subst (λ (s : Setup). ReportRefinesRun m refines world2 drops2 (numbered number end) (run_event (driver_of s m) (course_after t.setup m t.events) e)) same there)

    index-on : IsIndexOf index2 later.state.held.net.network.packets
    index-on =
        let old : packets ≡ (held_after t.setup m t.events).net.network.packets = before (course_after t.setup m t.events) h.report.refined in
        let new : packets2 ≡ later.state.held.net.network.packets = behind later report-on.refined in
        let first : take sent packets2 ≡ (held_after t.setup m t.events).net.network.packets =
        ap (λ (k : ℕ). take k packets2) (sent_is ∙ ap (λ (ps : List Sent). length ps) old)
        ∙ ap (λ (ps : List Sent). take (length (held_after t.setup m t.events).net.network.packets) ps) new
        ∙ sent-first t.setup m t.events e in
        subst (λ (ps : List Sent). IsIndexOf index2 ps) new (indexed (subst (λ (ps : List Sent). IsIndexOf index ps) (sym first) h.index_is))

    has-run-on : HasRun m refines world2 drops2 (numbered number end) (record t { events = t.events ++ e ∷ [] }) index2
    has-run-on = record {
      report = report-on;
      index_is = index-on;
      trace_is = trace-more (behavior_of t.setup m) t.events e h.trace_is next;
      disks = works-on t.setup m t.events e next.kind h.disks;
    }

    pub runs-on : (ended2 : Option (ℕ × Evidence)) (t2 : Schedule) → ended2 ≡ numbered number end → t2 ≡ record t { events = t.events ++ e ∷ [] } → HasRun m refines world2 drops2 ended2 t2 index2
    runs-on ended2 t2 ended_is trace_is =
        subst (λ (o : Option (ℕ × Evidence)). HasRun m refines world2 drops2 o t2 index2) (sym ended_is)
        (subst (λ (z : Schedule). HasRun m refines world2 drops2 (numbered number end) z index2) (sym trace_is) has-run-on)

-- ---- the cluster in its loop

module _ {M Msg : Type 0} (m : Module Msg) (refines : Relation M Msg) where
  run-begins : (world : WorldState M Msg) (s : Setup) (index : List (ℕ × Vec ℕ Global)) → RefinesRun m refines world (course_after s m []) → IsIndexOf index []
      → HasRun m refines world [] None (record { setup = s; events = [] }) index
  run-begins world s index begun none = record {
    report = record { refined = begun; drops_are = refl; end_is = refl };
    index_is = none;
    trace_is = trace-begins (behavior_of s m);
    disks = λ c. (refl, refl);
  }

  pub starts : (world : WorldState M Msg) (s : Setup) (trace : Schedule) (drops : List (ℕ × Why)) (index : List (ℕ × Vec ℕ Global)) (stale : Bool) → IsSetupOf m s
      → RefinesRun m refines world (course_after s m []) → world.simulation.setup ≡ s → trace ≡ record { setup = s; events = [] } → drops ≡ [] → IsIndexOf index []
      → IsRunning m refines (record { world = world; drops = drops; ended = None; trace = trace; index = index; stale = stale })
  starts world s trace drops index stale good begun same trace_is no_drops none =
      subst (λ (t : Schedule). IsRunning m refines (record { world = world; drops = drops; ended = None; trace = t; index = index; stale = stale })) (sym trace_is)
      (subst (λ (ds : List (ℕ × Why)). IsRunning m refines (record { world = world; drops = ds; ended = None; trace = record { setup = s; events = [] }; index = index; stale = stale })) (sym no_drops)
      (record { good = good; cluster = same; run = λ fresh. run-begins world s index begun none }))

  -- memory ran out: the set-up is still the same
  pub gives-up : (r : RunningState M Msg) (world : WorldState M Msg) (drops : List (ℕ × Why)) (ended : Option (ℕ × Evidence)) (trace : Schedule) (index : List (ℕ × Vec ℕ Global))
      → IsRunning m refines r → trace.setup ≡ r.trace.setup → world.simulation.setup ≡ r.trace.setup
      → IsRunning m refines (record { world = world; drops = drops; ended = ended; trace = trace; index = index; stale = true })
  gives-up r world drops ended trace index h same cluster = record {
    good = subst (λ (s : Setup). IsSetupOf m s) (sym same) h.good;
    cluster = cluster ∙ sym same;
    run = λ fresh. absurd (cc);
  }

  pub goes-further : (r : RunningState M Msg) (world : WorldState M Msg) (drops : List (ℕ × Why)) (ended : Option (ℕ × Evidence)) (trace : Schedule) (index : List (ℕ × Vec ℕ Global))
      → IsRunning m refines r → r.stale ≡ false → trace.setup ≡ r.trace.setup → world.simulation.setup ≡ r.trace.setup
      → (HasRun m refines r.world r.drops r.ended r.trace r.index → HasRun m refines world drops ended trace index)
      → IsRunning m refines (record { world = world; drops = drops; ended = ended; trace = trace; index = index; stale = false })
  goes-further r world drops ended trace index h fresh same cluster run = record {
    good = subst (λ (s : Setup). IsSetupOf m s) (sym same) h.good;
    cluster = cluster ∙ sym same;
    run = λ still. run (h.run fresh);
  }

  -- the trace and the report, once the loop is over
  pub is-traced : (r : RunningState M Msg) → IsRunning m refines r → r.stale ≡ false → ((s : Setup) → IsSetupOf m s → (events : List Event) → AreAtCores s events → IsWhole s m events)
      → IsTracedRun m refines r.trace.setup r.trace r.world r.drops r.ended
  is-traced r h fresh whole =
      let range = trace-in-range (behavior_of r.trace.setup m) r.trace.events (h.run fresh).trace_is in
      record {
        setup = refl;
        range = range;
        trace_is = (h.run fresh).trace_is;
        report = (h.run fresh).report;
        cluster = h.cluster;
        whole = whole r.trace.setup h.good r.trace.events (at-cores r.trace.setup r.trace.events range);
      }

  -- ---- what it shows

  pub shows-ends : (r : RunningState M Msg) → IsRunning m refines r → (packets : List Sent) → AreBetweenCores (cores_of r.world.simulation.setup) packets → HaveEnds packets
  shows-ends r h packets between = packets-have-ends r.trace.setup r.world.simulation.setup packets h.cluster h.good.good between

  -- it is not over: memory did not run out, and no event showed evidence
  both-off : (a b : Bool) → (a || b) ≡ false → (a ≡ false) × (b ≡ false)
  both-off false b q = (refl, q)
  both-off true b q = absurd (cc)

  pub goes-yet : (r v : RunningState M Msg) → r ≡ v → is_over (behavior_of v.trace.setup m) v.trace.events v.stale ≡ false
      → (r.stale ≡ false) × ((behavior_of r.trace.setup m).has_evidence r.trace.events ≡ false)
  goes-yet r v same q =
      both-off r.stale ((behavior_of r.trace.setup m).has_evidence r.trace.events)
      (subst (λ (z : RunningState M Msg). is_over (behavior_of z.trace.setup m) z.trace.events z.stale ≡ false) (sym same) q)

  pub stale-over : (r v : RunningState M Msg) → r ≡ v → r.stale ≡ true → true ≡ is_over (behavior_of v.trace.setup m) v.trace.events v.stale
  stale-over r v same stale =
      ap (λ (b : Bool). b || (behavior_of v.trace.setup m).has_evidence v.trace.events) (sym (subst (λ (z : RunningState M Msg). z.stale ≡ true) same stale))

  module _ (r : RunningState M Msg) (h : IsRunning m refines r) (fresh : r.stale ≡ false) where
    pub core-is : (core : ℕ) → core < r.trace.setup.n → core < cores_of r.world.simulation.setup
    core-is core low = subst (λ (s : Setup). core < cores_of s) (sym h.cluster) (omega (arith, low))

    shows-evidence : is_some r.ended ≡ (behavior_of r.trace.setup m).has_evidence r.trace.events
    shows-evidence = evidence-is m refines r.world r.drops r.ended r.trace r.index (h.run fresh)

    pub shows-over : (over : Bool) → over ≡ is_some r.ended → over ≡ is_over (behavior_of r.trace.setup m) r.trace.events r.stale
    shows-over over is = is ∙ shows-evidence ∙ ap (λ (b : Bool). b || (behavior_of r.trace.setup m).has_evidence r.trace.events) (sym fresh)

    pub shows-packets : (packets : List Sent) → ((p : Course Msg) → RefinesRun m refines r.world p → packets ≡ p.state.held.net.network.packets)
        → packets ≡ (behavior_of r.trace.setup m).packets r.trace.events
    shows-packets packets are = are (course_after r.trace.setup m r.trace.events) (h.run fresh).report.refined

    pub shows-number : (core : ℕ) (bytes : List ℕ) (packets : List Sent) (number : Option ℕ) → ((p : Course Msg) → RefinesRun m refines r.world p → packets ≡ p.state.held.net.network.packets)
        → (IsIndexOf r.index packets → number ≡ number_from 0 core bytes packets) → number ≡ number_from 0 core bytes ((behavior_of r.trace.setup m).packets r.trace.events)
    shows-number core bytes packets number are found =
        let is = shows-packets packets are in
        found (subst (λ (ps : List Sent). IsIndexOf r.index ps) (sym is) (h.run fresh).index_is) ∙ ap (λ (ps : List Sent). number_from 0 core bytes ps) is

    module _ (none : (behavior_of r.trace.setup m).has_evidence r.trace.events ≡ false) where
      stands : WorldRefinesMachines m refines r.world (course_after r.trace.setup m r.trace.events).state
      stands = world-is m refines r.world r.drops r.ended r.trace r.index (h.run fresh) none

      pub shows-castable : (core : ℕ) (b : Bool) → ((w : Machines Msg) → WorldRefinesMachines m refines r.world w → (w.disks core).failed ≡ false →
          b ≡ is_castable_now (rules_of r.world.simulation.setup) m (node_of r.world.simulation.setup core) (w.held.net.cores core))
          → b ≡ (behavior_of r.trace.setup m).castable r.trace.events core
      shows-castable core b is =
          is (course_after r.trace.setup m r.trace.events).state stands ((h.run fresh).disks core).1
          ∙ ap (λ (s : Setup). is_castable_now (rules_of s) m (node_of s core) ((course_after r.trace.setup m r.trace.events).state.held.net.cores core)) h.cluster

      numbers-are : (core : ℕ) (leaders : List NodeId) → ((w : Machines Msg) → WorldRefinesMachines m refines r.world w → (w.disks core).failed ≡ false →
          map (λ (l : NodeId). l.0) leaders ≡ unfilled (rules_of r.world.simulation.setup) m r.world.simulation.setup.n (node_of r.world.simulation.setup core) (w.held.net.cores core).past)
          → map (λ (l : NodeId). l.0) leaders ≡ unfilled (rules_of r.trace.setup) m r.trace.setup.n (node_of r.trace.setup core) ((held_after r.trace.setup m r.trace.events).net.cores core).past
      numbers-are core leaders is =
          is (course_after r.trace.setup m r.trace.events).state stands ((h.run fresh).disks core).1
          ∙ ap (λ (s : Setup). unfilled (rules_of s) m s.n (node_of s core) ((held_after r.trace.setup m r.trace.events).net.cores core).past) h.cluster

      pub shows-unfilled : (core : ℕ) (leaders : List NodeId) → ((w : Machines Msg) → WorldRefinesMachines m refines r.world w → (w.disks core).failed ≡ false →
          map (λ (l : NodeId). l.0) leaders ≡ unfilled (rules_of r.world.simulation.setup) m r.world.simulation.setup.n (node_of r.world.simulation.setup core) (w.held.net.cores core).past)
          → (leaders ≡ (behavior_of r.trace.setup m).unfilled r.trace.events core) × AreNodes r.trace.setup.n leaders
      shows-unfilled core leaders is =
          let numbers = numbers-are core leaders is in
          (nodes-are leaders _ numbers, are-nodes r.trace.setup.n _ leaders numbers)

-- what a trace keeps, whether or not an event was appended
pub same-setup : {T E : Type 0} (r : Result T E) (t t2 : Schedule) (events : List Event) → OnOk r (t2 ≡ record t { events = events }) → OnErr r (t2 ≡ t) → t2.setup ≡ t.setup
same-setup (Ok x) t t2 events ok err = ap (λ (z : Schedule). z.setup) ok
same-setup (Err e) t t2 events ok err = ap (λ (z : Schedule). z.setup) err
