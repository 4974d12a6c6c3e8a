-- If a world refines a run, it refines the run with one more event, and the theorems on runs with restarts apply.
use Rattle.std.proofs.Common.{◌≡◌, inl, inr, ℕ, List, [], ◌∷◌, ◌++◌, Option, None, Some, sym, subst}
use Rattle.std.specs.Prelude.{slice_get}
use Rattle.std.proofs.lemmas.Bool.Decides.{eqb_tells}
use Rattle.iss_disk.specs.declared.memory.MemoryDisk.{MemoryDisk}
use Rattle.iss_keep.specs.State.{KeptState}
use Rattle.iss_rules.specs.Ends.{End}
use Rattle.iss_rules.specs.declared.events.NodeEvent.{NodeEvent}
use Rattle.iss_model.proofs.Ranges.{at-cores}
use Rattle.iss_model.specs.Frames.{frame_of}
use Rattle.iss_model.specs.Runs.{AreAtCores}
use Rattle.iss_request.specs.declared.setups.Setup.{Setup}
use Rattle.iss_theorems.proofs.CrashRecovery.LostEventsAreNumbered.{after-more}
use Rattle.iss_model.specs.Courses.{Course, driver_of}
use Rattle.iss_model.specs.Driver.{run_event_if_open}
use Rattle.iss_theorems.specs.Headline.{IsWhole, course_after}
use Rattle.iss_schedule.specs.Events.{AreInRange, IsInRange}
use Rattle.iss_schedule.specs.declared.schedules.Event.{Event}
use Rattle.iss_schedule.proofs.BadLines.PrefixesAreRead.{in_range_push}
use Rattle.iss_sb.specs.Calls.{Relation}
use Rattle.iss_sb.specs.Evidence.{Module}
use Rattle.iss_theorems.specs.Leaves.{SignsOnceEach, life_of}
use Rattle.iss_world.specs.Headline.{HoldsKept, IsAnswered, IsHeadline, RefinesEvents}
use Rattle.iss_world.specs.Refines.{HasHappened, RefinesRun, RefinesRunUntil}
use Rattle.iss_world.specs.State.{WorldState}
use Rattle.iss_world.specs.declared.world.EventResult.{EventResult}
use Rattle.iss_world.specs.declared.world.EventResult.TheVariants.{Done as Result_done, Lost as Result_lost, Forged as Result_forged, Collision as Result_collision, NoMemory, Stale}

module _ {M Msg : Type 0} (m : Module Msg) (refines : Relation M Msg) (s : Setup) where
  -- ---- one event more

  -- The run with one more event.
  abbrev pub further : List Event → Event → Course Msg
  further es e = run_event_if_open (course_after s m es).ended (driver_of s m) (course_after s m es) e

  refines-there : (v : WorldState M Msg) (old new : Course Msg) (x : EventResult) → HasHappened m refines v old new x → IsAnswered x → RefinesRun m refines v new
  refines-there v old new Result_done h a = h.0
  refines-there v old new (Result_lost why) h a = h.0
  refines-there v old new (Result_forged by statement sig) h a = h.0
  refines-there v old new (Result_collision first second) h a = h.0
  refines-there v old new NoMemory h a = absurd a
  refines-there v old new Stale h a = absurd a

  refines-more : (v : WorldState M Msg) (es : List Event) (e : Event) (x : EventResult) → HasHappened m refines v (course_after s m es) (further es e) x → IsAnswered x →
      RefinesEvents s m refines v (es ++ e ∷ [])
  refines-more v es e x h a = subst (λ (p : Course Msg). RefinesRun m refines v p) (sym (after-more s m es (e ∷ []))) (refines-there v (course_after s m es) (further es e) x h a)

  -- ---- the headline

  module _ (wholes : (events : List Event) → AreAtCores s events → IsWhole s m events)
      (once : (me : ℕ) (events : List NodeEvent) → SignsOnceEach (frame_of s m) me (life_of (frame_of s m) me events)) where
    -- the journals of a world that refines a run
    journals-then : (v : WorldState M Msg) (p : Course Msg) (o : Option (ℕ × End)) → RefinesRunUntil m refines v p.state o → (i : ℕ) (g : KeptState M Msg MemoryDisk) →
        slice_get v.simulation.nodes i ≡ Some g → HoldsKept m g.setup g.me.0 g.entries (p.state.disks i) o
    journals-then v p None k i g at = (k.simulation.cores i g at).entries
    journals-then v p (Some end) k i g at = elim (eqb_tells i k.left.core) [
      | inr t ↦ inl (k.left.others i g at t.1).entries
      | inl t ↦
          let P : ℕ → Type 0 = λ n. HoldsKept m g.setup g.me.0 g.entries (p.state.disks n) (Some end) in
          subst P (sym t.1) (k.left.there g (subst (λ (n : ℕ). slice_get v.simulation.nodes n ≡ Some g) t.1 at)).entries
    ]

    headline-of : (v : WorldState M Msg) (events : List Event) → AreInRange s events → RefinesEvents s m refines v events → IsHeadline s m refines v events
    headline-of v events range h =
        let all = wholes events (at-cores s events range) in
        record {
          run = h;
          whole = all;
          numbers = all.one_log.numbers;
          journals = journals-then v (course_after s m events) (course_after s m events).ended h;
          leaves = λ i g at kept shows. once g.me.0 kept;
        }

    pub headline-more : (v : WorldState M Msg) (es : List Event) (e : Event) (x : EventResult) → AreInRange s es → IsInRange s e →
        HasHappened m refines v (course_after s m es) (further es e) x → IsAnswered x → IsHeadline s m refines v (es ++ e ∷ [])
    headline-more v es e x range inside h a = headline-of v (es ++ e ∷ []) (in_range_push s es e range inside) (refines-more v es e x h a)
