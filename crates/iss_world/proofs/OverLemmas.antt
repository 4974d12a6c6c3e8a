-- What each call of a kept node over a disk in memory does to the core that it refines.
use Rattle.std.proofs.Common.{◌≡◌, inl, inr, ℕ, ◌≤◌, ◌<◌, ◌^◌, Bool, true, false, List, [], ◌∷◌, Option, Some, None, reverse, refl, sym, ap, ◌∙◌, subst, true≢false, Result, Ok, Err}
use Rattle.std.proofs.lemmas.Bool.{le-leb, lt-leb}
use Rattle.iss_node.specs.declared.answers.Answer.TheVariants.{Dropped as Node_dropped, NoMemory as Node_no_memory, Stale as Node_stale, Taken as Node_taken}
use Rattle.iss_node.specs.declared.answers.Answer.{Answer as NodeAnswer}
use Rattle.iss_disk.specs.declared.errors.Failed.{Failed}
use Rattle.iss_base.proofs.Lists.{some-injective}
use Rattle.iss_rules.specs.declared.events.NodeEvent.{NodeEvent}
use Rattle.iss_rules.specs.declared.events.Why.{Why}
use Rattle.iss_disk.specs.Calls.{IfTold, IsRestarted, Passes, Runs, Stays, script, up_to}
use Rattle.iss_disk.specs.File.{File, settled}
use Rattle.iss_disk.specs.MemoryLaws.{memory_here}
use Rattle.iss_disk.specs.MemoryViews.{calls_of, state_of}
use Rattle.iss_disk.specs.StoredViews.{history_of}
use Rattle.iss_disk.specs.declared.memory.MemoryDisk.{MemoryDisk}
use Rattle.iss_journal.specs.Frames.{Reading, Reads, version_1}
use Rattle.iss_journal.specs.Promises.{LosesNone, Shows}
use Rattle.iss_keep.proofs.DiskLemmas.{attached-same, attached-synced, never-damaged, new-read, reopens-well, restarted-read, runs-all, runs-failed, runs-passed, stays-here, stored-kept, stored-told, written-synced}
use Rattle.iss_keep.proofs.LifeLemmas.{stored-core}
use Rattle.iss_keep.proofs.TakenLemmas.{taken-goes-on, taken-later, taken-named}
use Rattle.iss_keep.specs.Cores.{core_of as core_of_entries, shown_of, step_of, stored_after, stored_of}
use Rattle.iss_keep.specs.Entries.{NamesNode, spell_event}
use Rattle.iss_keep.specs.Recovery.{AreNamed, Recovers}
use Rattle.iss_keep.specs.State.{KeptRefinesCore, KeptState, RefinesStored, stored_as}
use Rattle.iss_keep.specs.Steps.{IsAnswer, IsAttached, IsDamaged, IsDrop, IsJournaled, IsSame, IsTaken, IsTurn, ShowsAsBefore, makes_stale}
use Rattle.iss_log.specs.LogState.{GoesOn}
use Rattle.iss_model.specs.Node.{Core, Dropped, Stepped, Taken, initial_core, step}
use Rattle.iss_model.specs.Frames.{frame_of}
use Rattle.iss_model.specs.Slims.{IsPlaced, slim}
use Rattle.iss_node.specs.Saved.{saved_of}
use Rattle.iss_node.specs.State.{NodeView, RefinesCore}
use Rattle.iss_node.specs.Steps.{IsOfNodes}
use Rattle.iss_node.specs.declared.answers.Outcome.{Outcome}
use Rattle.iss_rebuilt.specs.Reading.{Rebuilt}
use Rattle.iss_rebuilt.specs.Stored.{Saved, Stored, stored_by}
use Rattle.iss_request.specs.declared.ids.NodeId.{NodeId}
use Rattle.iss_request.specs.declared.requests.Value.{Value}
use Rattle.iss_request.specs.declared.setups.Setup.{Setup}
use Rattle.iss_model.specs.Courses.{after_step, core_of as core_of_kept}
use Rattle.iss_model.specs.Disks.{Disk, entry_calls, fused, keeps, left_behind, may_keep}
use Rattle.iss_rules.specs.Concrete.{rules_of}
use Rattle.iss_rules.specs.Formats.{formats_of}
use Rattle.iss_rules.specs.Past.{log_of}
use Rattle.iss_rules.specs.Setups.{IsSetupOf}
use Rattle.iss_sb.specs.Calls.{Relation}
use Rattle.iss_sb.specs.Evidence.{Module}
use Rattle.iss_world.specs.Refines.{LeadsBy, RefinesMachine, RefinesOrShowsCore, ShowsCore, calls_to_come, shown_by}
use Rattle.iss_world.specs.Internal.Steps.{HasAnswered, IsKeptTurn, IsStop}

-- Being the same node is transitive.
pub same-again : {M Msg : Type 0} (a b c : KeptState M Msg MemoryDisk) → IsSame a b → IsSame b c → IsSame a c
same-again a b c p q = record { setup = q.setup ∙ p.setup; me = q.me ∙ p.me }

-- ---- the disk

passes-kept : (o : Option ℕ) (now : Passes) → Runs 4 (calls_to_come o) now true → (may_keep o ≡ true) × (now ≡ calls_to_come (left_behind o))
passes-kept None now h = (refl, (runs-all 4 now true h).1)
passes-kept (Some calls) now h = let r = runs-passed 4 calls now h in (le-leb entry_calls calls r.0, r.1)

passes-failed : (o : Option ℕ) (now : Passes) → Runs 4 (calls_to_come o) now false → (may_keep o ≡ false) × (now ≡ calls_to_come (Some 0))
passes-failed None now h = absurd (true≢false (sym (runs-all 4 now false h).0))
passes-failed (Some calls) now h = let r = runs-failed 4 calls now h in (lt-leb entry_calls calls r.0, r.1)

read-told : (P : File → Type 0) (history : List File) (file : File) (past : List File) → history ≡ file ∷ past → IfTold history P → P file
read-told P history file past told h = subst (λ (files : List File). IfTold files P) told h

-- A node that refines a core refines each placed core with the same slim part: the law `nodes_stand_for_slims`.
abbrev pub StandsForSlims : {M Msg : Type 0} → Module Msg → Relation M Msg → Type 0
StandsForSlims {M = M} {Msg = Msg} m refines = (v : NodeView M Msg) → (c d : Core Msg) → RefinesCore m refines v c →
    IsPlaced (rules_of v.state.setup) m v.state.me.0 d →
    slim (rules_of v.state.setup) m v.state.me.0 c ≡ slim (rules_of v.state.setup) m v.state.me.0 d → RefinesCore m refines v d

module _ {M Msg : Type 0} (m : Module Msg) (refines : Relation M Msg) where
  -- ---- what it reports

  pub at-shows : (g : KeptState M Msg MemoryDisk) (c : Core Msg) → KeptRefinesCore m refines g c → ShowsCore m g.setup g.me.0 g c
  at-shows g c at = record {
    log = subst (λ (s : Setup). log_of (rules_of s) m g.me.0 c.past ≡ reverse g.node.state.log.entries) at.cluster
        (subst (λ (i : NodeId). log_of (rules_of g.node.state.setup) m i.0 c.past ≡ reverse g.node.state.log.entries) at.number at.node.held.state.tied.log);
    epoch = at.node.held.state.tied.epoch;
  }

  there-shows : (g : KeptState M Msg MemoryDisk) (c : Core Msg) (failed : Bool) → RefinesOrShowsCore m refines g c failed → ShowsCore m g.setup g.me.0 g c
  there-shows g c false h = at-shows g c h
  there-shows g c true h = h.1

  pub over-shows : (g : KeptState M Msg MemoryDisk) (c : Core Msg) (d : Disk) → RefinesMachine m refines g c d → ShowsCore m g.setup g.me.0 g c
  over-shows g c d h = there-shows g c d.failed h.there

  -- The node is stale if and only if its disk has failed.
  there-stale : (g : KeptState M Msg MemoryDisk) (c : Core Msg) (failed : Bool) → RefinesOrShowsCore m refines g c failed → g.stale ≡ failed
  there-stale g c false h = h.fresh
  there-stale g c true h = h.0

  pub over-stale : (g : KeptState M Msg MemoryDisk) (c : Core Msg) (d : Disk) → RefinesMachine m refines g c d → g.stale ≡ d.failed
  over-stale g c d h = there-stale g c d.failed h.there

  pub at-working : (g : KeptState M Msg MemoryDisk) (c : Core Msg) (d : Disk) → RefinesMachine m refines g c d → d.failed ≡ false → KeptRefinesCore m refines g c
  at-working g c d h working = subst (λ (b : Bool). RefinesOrShowsCore m refines g c b) working h.there

  -- ---- the same node later

  module _ (old new : KeptState M Msg MemoryDisk) (same : IsSame old new) where
    shows-still : (c : Core Msg) → ShowsCore m old.setup old.me.0 old c → ShowsAsBefore old new → ShowsCore m new.setup new.me.0 new c
    shows-still c shown as-before = record {
      log = subst (λ (s : Setup). log_of (rules_of s) m new.me.0 c.past ≡ reverse new.node.state.log.entries) (sym same.setup)
          (subst (λ (i : NodeId). log_of (rules_of old.setup) m i.0 c.past ≡ reverse new.node.state.log.entries) (sym same.me)
          (shown.log ∙ ap (λ (vs : List Value). reverse vs) (sym as-before.log)));
      epoch = as-before.epoch ∙ shown.epoch;
    }

    made-still : (events : List NodeEvent) (c : Core Msg) → core_of_kept (formats_of old.setup m) (rules_of old.setup) m old.me.0 events ≡ c →
        core_of_kept (formats_of new.setup m) (rules_of new.setup) m new.me.0 events ≡ c
    made-still events c h =
        subst (λ (s : Setup). core_of_kept (formats_of s m) (rules_of s) m new.me.0 events ≡ c) (sym same.setup)
        (subst (λ (i : NodeId). core_of_kept (formats_of old.setup m) (rules_of old.setup) m i.0 events ≡ c) (sym same.me) h)

    stored-still : (events : List NodeEvent) → stored_of old.setup m old.me.0 events ≡ stored_of new.setup m new.me.0 events
    stored-still events =
        ap (λ (s : Setup). stored_of s m old.me.0 events) (sym same.setup) ∙ ap (λ (i : NodeId). stored_of new.setup m i.0 events) (sym same.me)

    named-still : (events : List NodeEvent) → AreNamed old.setup.n events → AreNamed new.setup.n events
    named-still events h = subst (λ (s : Setup). AreNamed s.n events) (sym same.setup) h

    shown-still : (events : List NodeEvent) → new.entries ≡ old.entries → old.entries ≡ shown_by m old.setup old.me.0 events → new.entries ≡ shown_by m new.setup new.me.0 events
    shown-still events entries h = entries ∙ h ∙ ap (λ (st : Stored Msg). shown_of st) (stored-still events)

    saved-of-still : (events : List NodeEvent) (z : Saved) → z ≡ (stored_of old.setup m old.me.0 events).saved → z ≡ (stored_of new.setup m new.me.0 events).saved
    saved-of-still events z h = h ∙ ap (λ (st : Stored Msg). st.saved) (stored-still events)

    at-still : (c : Core Msg) → new.node ≡ old.node → new.stale ≡ old.stale → KeptRefinesCore m refines old c → KeptRefinesCore m refines new c
    at-still c node stale at = record {
      fresh = stale ∙ at.fresh;
      node = rw node at.node;
      cluster = rw node at.cluster ∙ sym same.setup;
      number = rw node at.number ∙ sym same.me;
    }

    -- ---- an event

    module _ (c : Core Msg) (d : Disk) (over : RefinesMachine m refines old c d) (working : d.failed ≡ false) (event : NodeEvent) where
      at-old : KeptRefinesCore m refines old c
      at-old = at-working old c d over working

      abbrev st : Stored Msg
      st = stored_of old.setup m old.me.0 d.kept

      -- the kept events stored the core
      core-is : st.core ≡ c
      core-is = stored-core old.setup m old.me.0 d.kept ∙ over.made

      for-old : RefinesStored m refines old st
      for-old = record {
        fresh = at-old.fresh;
        node = subst (λ (x : Core Msg). RefinesCore m refines old.node x) (sym core-is) at-old.node;
        cluster = at-old.cluster;
        number = at-old.number;
        entries = over.entries;
        saved = over.saved working;
      }

      abbrev stepped : Stepped Msg
      stepped = step_of old.setup m old.me.0 c event

      abbrev Written : Result NodeAnswer Failed → Type 0
      Written answer = IsJournaled state_of m refines event old new answer

      -- an answer that leaves the node fresh
      abbrev StoresOn : Type 0
      StoresOn = (z : Stored Msg) → RefinesStored m refines old z → new.stale ≡ false → RefinesStored m refines new (stored_after old.setup m old.me.0 z event)

      synced-now : (answer : Result NodeAnswer Failed) → Written answer → IfTold (history_of new.disk.file) (λ file. Shows version_1 new.entries file.kept)
      synced-now answer w = written-synced old.entries w.entry (state_of old.disk) (state_of new.disk) new.entries answer w.written (stored-kept new.disk.file) over.synced

      kept-turn : (outcome : Outcome) → IsOfNodes old.setup.n event → IsSetupOf m old.setup → IsTurn m refines (IsOfNodes old.setup.n event) stepped new outcome →
          Written (Ok (Node_taken outcome)) → StoresOn → IsKeptTurn m refines d event stepped new outcome
      kept-turn outcome of good t w stores =
          let calls = passes-kept d.passes (calls_of new.disk) (subst (λ (p : Passes). Runs 4 p (calls_of new.disk) true) over.calls w.written.device) in
          let later : after_step (core_of_kept (formats_of old.setup m) (rules_of old.setup) m old.me.0 d.kept)
          (step_of old.setup m old.me.0 (core_of_kept (formats_of old.setup m) (rules_of old.setup) m old.me.0 d.kept) event) ≡ t.turn.core =
          ap (λ (x : Core Msg). after_step x (step_of old.setup m old.me.0 x event)) over.made ∙ ap (λ (o : Stepped Msg). after_step c o) t.step_is in
          let on : RefinesStored m refines new (stored_of old.setup m old.me.0 (event ∷ d.kept)) = stores st for-old t.at.fresh in
          record {
            turn = t.turn;
            step_is = t.step_is;
            room = calls.0;
            over = record {
              there = subst (λ (b : Bool). RefinesOrShowsCore m refines new t.turn.core b) (sym working) t.at;
              entries = on.entries ∙ ap (λ (z : Stored Msg). shown_of z) (stored-still (event ∷ d.kept));
              named = named-still (event ∷ d.kept) (λ e i. elim i [
                | inl q ↦ subst (λ (x : NodeEvent). NamesNode old.setup.n x) (sym q) (taken-named old.setup m good old.me.0 c event t.turn of t.step_is)
                | inr k ↦ over.named e k
              ]);
              made = made-still (event ∷ d.kept) t.turn.core later;
              saved = λ z. saved-of-still (event ∷ d.kept) (saved_of new.node.state.saved) on.saved;
              synced = synced-now (Ok (Node_taken outcome)) w;
              calls = calls.1;
            };
            made = t.made;
          }

      dropped-answer : (why : Why) → IsDrop m refines c stepped new why → Written (Ok (Node_dropped why)) → StoresOn → (stepped ≡ Dropped why) × RefinesMachine m refines new c d
      dropped-answer why t w stores =
          let on = stores st for-old t.at.fresh in
          let none : stored_after old.setup m old.me.0 st event ≡ st =
          ap (λ (x : Core Msg). stored_by (frame_of old.setup m) spell_event old.me.0 st event (step_of old.setup m old.me.0 x event)) core-is
          ∙ ap (λ (o : Stepped Msg). stored_by (frame_of old.setup m) spell_event old.me.0 st event o) t.step_is in (
            t.step_is,
            record {
              there = subst (λ (b : Bool). RefinesOrShowsCore m refines new c b) (sym working) t.at;
              entries = shown-still d.kept w.written.added over.entries;
              named = named-still d.kept over.named;
              made = made-still d.kept c over.made;
              saved = λ z. saved-of-still d.kept (saved_of new.node.state.saved) (on.saved ∙ ap (λ (x : Stored Msg). x.saved) none);
              synced = synced-now (Ok (Node_dropped why)) w;
              calls = w.written.device ∙ over.calls;
            },
          )

      stop-answer : (failed : Failed) → IsTaken stepped → Written (Err failed) → new.stale ≡ true → (new.stale ≡ true → ShowsAsBefore old new) → IsStop m refines c d stepped new
      stop-answer failed t w stale shown =
          let calls = passes-failed d.passes (calls_of new.disk) (subst (λ (p : Passes). Runs 4 p (calls_of new.disk) false) over.calls w.written.device) in
          record {
            turn = t.0;
            step_is = t.1;
            no_room = calls.0;
            over = record {
              there = (stale, shows-still c (over-shows old c d over) (shown stale));
              entries = shown-still d.kept w.written.added over.entries;
              named = named-still d.kept over.named;
              made = made-still d.kept c over.made;
              saved = λ z. absurd (true≢false z);
              synced = synced-now (Err failed) w;
              calls = calls.1;
            };
          }

      -- The answer of a kept node determines what became of its core and disk.
      pub answered : (answer : Result NodeAnswer Failed) → IsOfNodes old.setup.n event → IsSetupOf m old.setup → IsAnswer m refines (IsOfNodes old.setup.n event) c stepped new answer → Written answer →
          StoresOn → new.stale ≡ makes_stale answer → (new.stale ≡ true → ShowsAsBefore old new) → HasAnswered m refines c d event stepped new answer
      answered (Ok (Node_taken outcome)) of good t w stores stale shown = kept-turn outcome of good t w stores
      answered (Ok (Node_dropped why)) of good t w stores stale shown = dropped-answer why t w stores
      answered (Err failed) of good t w stores stale shown = stop-answer failed t w stale shown
      answered (Ok Node_stale) of good t w stores stale shown = t
      answered (Ok Node_no_memory) of good t w stores stale shown = tt

      -- If the event was journaled, the log was extended and the epoch did not fall.
      module _ (good : IsSetupOf m old.setup) (outcome : Outcome) (k : IsKeptTurn m refines d event stepped new outcome) where
        at-new : KeptRefinesCore m refines new k.turn.core
        at-new = at-working new k.turn.core (keeps d event) k.over working

        node-step : step (formats_of old.node.state.setup m) (rules_of old.node.state.setup) m old.node.state.me.0 c event ≡ Taken k.turn
        node-step =
            subst (λ (s : Setup). step_of s m old.node.state.me.0 c event ≡ Taken k.turn) (sym at-old.cluster)
            (subst (λ (i : NodeId). step_of old.setup m i.0 c event ≡ Taken k.turn) (sym at-old.number) k.step_is)

        good-node : IsSetupOf m old.node.state.setup
        good-node = subst (λ (s : Setup). IsSetupOf m s) (sym at-old.cluster) good

        cluster-now : new.node.state.setup ≡ old.node.state.setup
        cluster-now = at-new.cluster ∙ same.setup ∙ sym at-old.cluster

        number-now : new.node.state.me ≡ old.node.state.me
        number-now = at-new.number ∙ same.me ∙ sym at-old.number

        pub log-grown : GoesOn old.node.state.log.entries new.node.state.log.entries
        log-grown = taken-goes-on m refines old.node new.node c event k.turn good-node at-old.node at-new.node node-step cluster-now number-now

        pub epoch-grown : old.node.state.epoch ≤ new.node.state.epoch
        epoch-grown = taken-later m refines old.node new.node c event k.turn good-node at-old.node at-new.node node-step cluster-now number-now

    -- ---- a disk that is to fail

    pub fused-over : (c : Core Msg) (d : Disk) (calls : ℕ) → RefinesMachine m refines old c d → calls_of new.disk ≡ up_to calls → new.node ≡ old.node → new.entries ≡ old.entries →
        new.stale ≡ old.stale → Stays (state_of old.disk).current (state_of new.disk).current (state_of old.disk).files (state_of new.disk).files → RefinesMachine m refines new c (fused d calls)
    fused-over c d calls over passes node entries stale files =
        let history : history_of new.disk.file ≡ history_of old.disk.file =
        stays-here state_of memory_here old.disk new.disk files in
        record {
          there = there-still d.failed over.there;
          entries = shown-still d.kept entries over.entries;
          named = named-still d.kept over.named;
          made = made-still d.kept c over.made;
          saved = λ z. saved-of-still d.kept (saved_of new.node.state.saved) (ap (λ (v : NodeView M Msg). saved_of v.state.saved) node ∙ over.saved z);
          synced = subst (λ (es : List (List ℕ)). IfTold (history_of new.disk.file) (λ file. Shows version_1 es file.kept)) (sym entries)
              (subst (λ (h : List File). IfTold h (λ file. Shows version_1 old.entries file.kept)) (sym history) over.synced);
          calls = passes;
        }
      where
        as-before : ShowsAsBefore old new
        as-before = record {
          log = ap (λ (v : NodeView M Msg). v.state.log.entries) node;
          epoch = ap (λ (v : NodeView M Msg). v.state.epoch) node;
        }

        there-still : (failed : Bool) → RefinesOrShowsCore m refines old c failed → RefinesOrShowsCore m refines new c failed
        there-still false h = at-still c node stale h
        there-still true h = (stale ∙ h.0, shows-still c h.1 as-before)

    -- ---- a recovered core

    -- After a restart of its disk, the node's entries lead to the core that it refined.
    pub restarted-leads : (c : Core Msg) (d : Disk) → RefinesMachine m refines old c d → IsRestarted (state_of old.disk) (state_of new.disk) →
        new.entries ≡ old.entries → new.node ≡ old.node → LeadsBy m new d.kept c
    restarted-leads c d over restarts entries node = record {
      entries = shown-still d.kept entries over.entries;
      named = named-still d.kept over.named;
      made = made-still d.kept c over.made;
      epoch = ap (λ (v : NodeView M Msg). v.state.epoch) node ∙ (over-shows old c d over).epoch;
      read = subst (λ (es : List (List ℕ)). IfTold (history_of new.disk.file) (λ file. Shows version_1 es file.content)) (sym entries)
          (restarted-read old.entries state_of memory_here old.disk new.disk restarts over.synced).0;
    }

    module _ (one : (bytes : List ℕ) (r q : Reading) → Reads version_1 bytes r → Reads version_1 bytes q → r ≡ q) (events : List NodeEvent) (c : Core Msg) (leads : LeadsBy m old events c)
        (recovers : (events : List NodeEvent) → AreNamed old.setup.n events → (stored_of old.setup m old.me.0 events).core.past.epoch < 2 ^ 64 →
        Recovers old.setup m old.me.0 (shown_of (stored_of old.setup m old.me.0 events)) (stored_of old.setup m old.me.0 events))
        (low : old.node.state.epoch < 2 ^ 64) where
      abbrev wrote : Stored Msg
      wrote = stored_of old.setup m old.me.0 events

      wrote-core : wrote.core ≡ c
      wrote-core = stored-core old.setup m old.me.0 events ∙ leads.made

      -- the entries lead back to what stored them
      back : Recovers old.setup m old.me.0 (shown_of wrote) wrote
      back = recovers events leads.named (subst (λ (x : Core Msg). x.past.epoch < 2 ^ 64) (sym wrote-core) (subst (λ (n : ℕ). n < 2 ^ 64) leads.epoch low))

      back-to : core_of_entries old.setup m old.me.0 old.entries ≡ Some back.found
      back-to = ap (λ (es : List (List ℕ)). core_of_entries old.setup m old.me.0 es) leads.entries ∙ back.is

      -- It is reopened at that core.
      pub reopened-over : (failed : Type 0) (found : Rebuilt Msg) → calls_of old.disk ≡ script [] → core_of_entries new.setup m new.me.0 new.entries ≡ Some found →
          RefinesStored m refines new (stored_as new.entries found) → StandsForSlims m refines → IsAttached (state_of old.disk) (state_of new.disk) new.entries →
          LosesNone version_1 failed (state_of old.disk) (state_of new.disk) → RefinesMachine m refines new c (record { kept = events; passes = None; failed = false })
      reopened-over failed found works leads-to for slims attached loses =
          let told = stored-told old.disk.file in
          let reads = read-told (λ file. Shows version_1 old.entries file.content) (history_of old.disk.file) told.0 told.1 told.2 leads.read in
          let same-entries : new.entries ≡ old.entries = attached-same one (state_of old.disk) (state_of new.disk) old.entries new.entries told.0 told.1 told.2 reads attached in
          let there : core_of_entries old.setup m old.me.0 old.entries ≡ Some found =
          subst (λ (es : List (List ℕ)). core_of_entries old.setup m old.me.0 es ≡ Some found) same-entries
          (subst (λ (i : NodeId). core_of_entries old.setup m i.0 new.entries ≡ Some found) same.me
          (subst (λ (s : Setup). core_of_entries s m new.me.0 new.entries ≡ Some found) same.setup leads-to)) in
          let is : found ≡ back.found = some-injective found back.found (sym there ∙ back-to) in
          let cluster : new.node.state.setup ≡ old.setup = for.cluster ∙ same.setup in
          let number : new.node.state.me ≡ old.me = for.number ∙ same.me in
          let at-found : RefinesCore m refines new.node back.found.core = subst (λ (r : Rebuilt Msg). RefinesCore m refines new.node r.core) is for.node in
          let at-wrote : RefinesCore m refines new.node wrote.core = slims new.node back.found.core wrote.core at-found
          (subst (λ (s : Setup). IsPlaced (rules_of s) m new.node.state.me.0 wrote.core) (sym cluster)
          (subst (λ (i : NodeId). IsPlaced (rules_of old.setup) m i.0 wrote.core) (sym number) back.known))
          (subst (λ (s : Setup). slim (rules_of s) m new.node.state.me.0 back.found.core ≡ slim (rules_of s) m new.node.state.me.0 wrote.core) (sym cluster)
          (subst (λ (i : NodeId). slim (rules_of old.setup) m i.0 back.found.core ≡ slim (rules_of old.setup) m i.0 wrote.core) (sym number) back.slims)) in
          record {
            there = record { fresh = for.fresh; node = subst (λ (x : Core Msg). RefinesCore m refines new.node x) wrote-core at-wrote; cluster = for.cluster; number = for.number };
            entries = shown-still events same-entries leads.entries;
            named = named-still events leads.named;
            made = made-still events c leads.made;
            saved = λ z. saved-of-still events (saved_of new.node.state.saved) (for.saved ∙ ap (λ (r : Rebuilt Msg). r.saved) is ∙ back.saved);
            synced = attached-synced new.entries (state_of old.disk) (state_of new.disk) attached (stored-kept new.disk.file);
            calls = (reopens-well (state_of old.disk) (state_of new.disk) failed loses works).0;
          }

      -- Reopening reports no damage.
      pub not-damaged : (at : ℕ) → IsDamaged old.setup m old.me.0 new.entries (history_of old.disk.file) at → ⊥
      not-damaged at h =
          let told = stored-told old.disk.file in
          let reads = read-told (λ file. Shows version_1 old.entries file.content) (history_of old.disk.file) told.0 told.1 told.2 leads.read in
          never-damaged one old.setup m old.me.0 old.entries new.entries back.found back-to at told.0 told.1 reads (history_of old.disk.file) told.2 h

  -- Over a new disk there are no entries, and the core has taken no event.
  pub new-leads : (g : KeptState M Msg MemoryDisk) → g.entries ≡ [] → g.node.state.epoch ≡ 0 → history_of g.disk.file ≡ settled [] ∷ [] → LeadsBy m g [] initial_core
  new-leads g entries epoch history = record {
    entries = entries;
    named = λ e i. absurd i;
    made = refl;
    epoch = epoch;
    read = subst (λ (es : List (List ℕ)). IfTold (history_of g.disk.file) (λ file. Shows version_1 es file.content)) (sym entries) (new-read (history_of g.disk.file) history).0;
  }
